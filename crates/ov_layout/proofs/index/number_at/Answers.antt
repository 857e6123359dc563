use Rattle.std.proofs.Common.{◌≡◌, ℕ, sym, subst, get_or}
use Rattle.ov_layout.specs.declared.index.Entry.{Entry}
use Rattle.ov_layout.specs.Index.{number_at}
use Rattle.ov_layout.proofs.SumLemmas.{number_at-here}
use Rattle.ov_layout.proofs.index.number_at.Goals as goal

pub returns-in-Some : goal.returns-in-Some
returns-in-Some c =
    let none : Entry = record { vid = 0; part = 0 } in
    let index = c.args.index.now in
    let found = c.in-Some.ensures in
    sym (subst (λ (vid : ℕ). number_at vid index ≡ (get_or index c.in-Some.at none).part) (found.1 none) (number_at-here 0 index c.in-Some.at none c.requires found.0))
