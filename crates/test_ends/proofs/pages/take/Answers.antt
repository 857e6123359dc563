use Rattle.std.proofs.Common.{◌≡◌, ◌*◌, ℕ, subst, arith}
use Rattle.ov_host.specs.declared.area.Extent.{Extent}
use Rattle.ov_host.specs.Extent.{pages_of}
use Rattle.ov_pages.specs.Sets.{IsLowestRun, IsWithRun}
use Rattle.ov_pages.proofs.LiveLemmas.{live_more}
use Rattle.test_ends.proofs.pages.take.Goals as goal

pub returns-in_ok-push-in-Ok : goal.returns-in_ok-push-in-Ok
returns-in_ok-push-in-Ok c =
    let e : Extent = record { page = c.in-Ok.page; bytes = c.args.n * 4096 } in
    let n : c.args.n ≡ pages_of e = omega arith in
    let lowest = subst (λ (k : ℕ). IsLowestRun c.args.pages.now.pages k c.in-Ok.page) n c.in-Ok.ensures.lowest in
    let grown = subst (λ (k : ℕ). IsWithRun c.args.pages.now.pages c.reserve.new.self.pages c.in-Ok.page k) n c.in-Ok.ensures.grown in
    record { kept = rw c.in_ok-push-in-Ok.ensures.items (live_more _ _ _ e c.requires.kept (omega arith) lowest grown c.in-Ok.ensures.room) }
