use Rattle.std.proofs.Common.{[], ◌∷◌, ap, sym, ◌∙◌, append-nil}
use Rattle.ov_catalog.specs.declared.cvd.Cvd.{Cvd}
use Rattle.ov_catalog.specs.Events.{numbered}
use Rattle.ov_catalog.specs.Sets.{set_in, sets_in}
use Rattle.ov_catalog.proofs.SetLemmas.{filter-at, filter-empty}
use Rattle.ov_catalog.proofs.freeing.give_up_in.Goals as goal

pub give_up-requires-clause-room : goal.give_up-requires-clause-room
give_up-requires-clause-room c =
    let d = c.index-sets-at.result in
    let found = c.in-Some.ensures in
    let one = filter-at c.args.cvd 0 c.in-Some.at c.args.sets.now d c.requires.ascend found.0 (found.1 d) ∙ ap (λ (x : Cvd). set_in x ∷ []) (sym c.index-sets-at.is) in
    rw (one, append-nil) at c.requires.room

pub returns-in-Some : goal.returns-in-Some
returns-in-Some c =
    let d = c.index-sets-at.result in
    let found = c.in-Some.ensures in
    let one = filter-at c.args.cvd 0 c.in-Some.at c.args.sets.now d c.requires.ascend found.0 (found.1 d) ∙ ap (λ (x : Cvd). set_in x ∷ []) (sym c.index-sets-at.is) in
    rw (one, append-nil) c.give_up.ensures

pub returns-in_default : goal.returns-in_default
returns-in_default c = rw (filter-empty (numbered c.args.cvd) (sets_in c.args.sets.now) c.in_default.ensures) (sym (append-nil c.args.freed.now.items))
