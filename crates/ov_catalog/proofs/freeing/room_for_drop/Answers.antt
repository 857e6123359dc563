use Rattle.std.proofs.Common.{◌≡◌, ◌≤◌, ◌+◌, [], ◌∷◌, refl, sym, ap, ◌∙◌, length, vec_capacity, arith, append-nil}
use Rattle.ov_catalog.specs.declared.cvd.Cvd.{Cvd}
use Rattle.ov_catalog.specs.Extents.{of_set}
use Rattle.ov_catalog.specs.Sets.{set_in}
use Rattle.ov_catalog.proofs.SetLemmas.{find-at, filter-at}
use Rattle.ov_catalog.proofs.freeing.room_for_drop.Goals as goal

pub returns-clause-answer : goal.returns-clause-answer
returns-clause-answer c =
    let d = c.index-sets-at.result in
    let found = c.in-Some.ensures in
    rw (find-at c.args.cvd 0 c.in-Some.at c.args.sets.now d c.requires.ascend found.0 (found.1 d)) refl

pub returns-clause-room : goal.returns-clause-room
returns-clause-room c =
    let d = c.index-sets-at.result in
    let found = c.in-Some.ensures in
    let one = filter-at c.args.cvd 0 c.in-Some.at c.args.sets.now d c.requires.ascend found.0 (found.1 d) ∙ ap (λ (x : Cvd). set_in x ∷ []) (sym c.index-sets-at.is) in
    let own = of_set (set_in d) in
    let count : c.in-Some-extents_in.count ≡ length own = c.in-Some-extents_in.ensures in
    let len = c.reserve.new.self.ok.0 in
    let ok = c.in_ok-reserve.ensures.ok in
    let fit : length c.reserve.new.self.items + length own ≤ vec_capacity c.reserve.new.self = omega (arith, count, len, ok) in
    rw (one, append-nil) fit
