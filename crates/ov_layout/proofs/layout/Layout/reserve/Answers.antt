use Rattle.std.proofs.Common.{sym, ◌∙◌, arith}
use Rattle.ov_layout.proofs.VidLemmas.{Ascend-weaker}
use Rattle.ov_layout.proofs.PlacedLemmas.{ids-ascend, numbered-there}
use Rattle.ov_layout.proofs.RoomLemmas.{fits-numbered}
use Rattle.ov_layout.proofs.layout.Layout.reserve.Goals as goal

pub place_of-at-requires-clause-ascend : goal.place_of-at-requires-clause-ascend
place_of-at-requires-clause-ascend c =
    rw c.deref.ensures.value (Ascend-weaker 0 1 _ (omega arith) (ids-ascend 1 _ _ c.self.invariant.0.sound.sound))

pub place_of-at-requires-clause-is_there : goal.place_of-at-requires-clause-is_there
place_of-at-requires-clause-is_there c =
    let named = rw (← c.self.view_is, c.in-Some.is) at c.requires in
    rw c.deref.ensures.value (sym (numbered-there c.self.inside.parts.items c.in-Some.id) ∙ named)

pub invariant_of-self-in-Some : goal.invariant_of-self-in-Some
invariant_of-self-in-Some c =
    let inside = c.self.inside in
    let numbers = c.self.invariant.0 in
    let space = c.self.invariant.1 in
    let named = rw (← c.self.view_is, c.in-Some.is) at c.requires in
    let found = rw c.deref.ensures.value at c.place_of-at.ensures in
    let made = c.in_ok-make_room_beside-in-Some.ensures in
    let d = c.index.result.now in
    let ascend = Ascend-weaker 0 1 _ (omega arith) (ids-ascend 1 _ _ numbers.sound.sound) in
    let fits = fits-numbered inside.parts.items c.place_of-at.result c.in-Some.id d c.make_room_beside.new.self ascend found.bound (found.place d) (rw (← c.index.ensures) made.room) in
    (rw c.in_ok-reserve.ensures.items numbers, record { ready = (named, fits); entry = (let len = c.reserve.new.self.ok.0 in omega (arith, len, c.in_ok-reserve.ensures.ok)); fresh_empty = space.fresh_empty; spare_empty = made.empty })
