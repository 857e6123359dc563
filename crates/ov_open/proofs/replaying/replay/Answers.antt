use Rattle.std.proofs.Common.{ℕ, List, [], refl, subst, sym}
use Rattle.std.proofs.lemmas.List.{get_or_read_under}
use Rattle.std.proofs.lemmas.Result.{err_from_is_err_and}
use Rattle.ov_catalog.specs.Ready.{Kept}
use Rattle.ov_open.specs.Replaying.{HasCome, IsLeft, IsTaken}
use Rattle.ov_open.proofs.Taking.{more, refused, start}
use Rattle.ov_open.proofs.replaying.replay.Goals as goal

pub loop-nth-init : goal.loop-nth-init
loop-nth-init c = subst (λ (k : Kept). HasCome c.args.format [] k.reach k.numbers) (sym c.new-catalog.ensures) (start c.args.format)

pub loop-nth-preserved : goal.loop-nth-preserved
loop-nth-preserved c =
    let old = c.loop-nth.catalog
    in let new = c.take_in.new.catalog
    in more c.args.format c.args.payloads.now c.loop-nth.nth c.index-payloads-nth.result old.reach new.reach old.numbers new.numbers c.loop-nth-test.true c.index-payloads-nth.is
    c.loop-nth.invariant
    (subst (λ p. IsTaken p c.args.format old.reach old.numbers new.numbers new.reach) c.as_slice.ensures c.in_ok-take_in.ensures)

pub returns-in_err-take_in : goal.returns-in_err-take_in
returns-in_err-take_in c =
    let old = c.loop-nth.catalog
    in let payload : List ℕ = c.index-payloads-nth.result
    in let there = get_or_read_under c.args.payloads.now c.loop-nth.nth _ payload [] c.index-payloads-nth.is c.loop-nth-test.true refl
    in let p = err_from_is_err_and c.from_residual.result c.from_residual.ensures.1
    in rw (p.1, p.2)
    (refused c.args.format c.args.payloads.now c.loop-nth.nth payload old.reach old.numbers c.in_err-take_in.field-0.0 c.loop-nth-test.true there c.loop-nth.invariant
    (subst (λ b. IsLeft b c.loop-nth.nth (record { format = c.args.format; reach = old.reach }) old.numbers c.in_err-take_in.field-0.0) c.as_slice.ensures c.in_err-take_in.ensures))
