use Rattle.std.proofs.Common.{◌≡◌, [], ◌∷◌, ◌++◌, ◌∙◌, ap, arith}
use Rattle.ov_layout.specs.declared.part.Part.{Part}
use Rattle.ov_layout.specs.Changes.{own_part}
use Rattle.ov_layout.proofs.AddLemmas.{own-numbers}
use Rattle.ov_layout.proofs.RoomLemmas.{placing-room, numbers-fit}
use Rattle.ov_layout.proofs.layout.Layout.own.Goals as goal

pub overflow_add-self-2 : goal.overflow_add-self-2
overflow_add-self-2 c =
    let new = rw (← c.self.view_is) at c.requires.new in
    let all = own-numbers _ _ _ _ _ c.args.vid c.args.records c.args.segment c.self.invariant.0 new c.ranges.records.fits c.ranges.vid.fits in
    let fit = (numbers-fit _ _ _ _ _ all).stored_fits in
    rw c.from.ensures (omega (arith, fit))

pub overflow_add-self-3 : goal.overflow_add-self-3
overflow_add-self-3 c =
    let new = rw (← c.self.view_is) at c.requires.new in
    let all = own-numbers _ _ _ _ _ c.args.vid c.args.records c.args.segment c.self.invariant.0 new c.ranges.records.fits c.ranges.vid.fits in
    let fit = (numbers-fit _ _ _ _ _ all).cost_fits in
    rw c.from-2.ensures (omega (arith, fit))

pub invariant_of-self : goal.invariant_of-self
invariant_of-self c =
    let inside = c.self.inside in
    let space = c.self.invariant.1 in
    let new = rw (← c.self.view_is) at c.requires.new in
    let room = rw (← c.self.view_is) at c.requires.room in
    let place = placing-room inside.room 0 inside.parts inside.index inside.fresh inside.spare room space in
    let ok = c.push.ensures.succeeds place.parts_fit in
    let parts = rw ok at c.push.ensures.items in
    let made : c.push.new.self.items ≡ inside.parts.items ++ own_part inside.next c.args.vid c.args.records c.args.segment ∷ [] = parts ∙ ap (λ (part : Part). inside.parts.items ++ part ∷ []) c.own_part-part.ensures.made in
    let ok-2 = c.push-2.ensures.succeeds place.index_fit in
    let entries = rw ok-2 at c.push-2.ensures.items in
    let all = own-numbers _ _ _ _ _ c.args.vid c.args.records c.args.segment c.self.invariant.0 new c.ranges.records.fits c.ranges.vid.fits in
    (rw (made, entries, c.from.ensures, c.from-2.ensures) all, record { ready = tt; entry = tt; fresh_empty = c.own_part-part.ensures.empty; spare_empty = space.spare_empty })
