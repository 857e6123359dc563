use Rattle.std.proofs.Common.{◌≡◌, ◌*◌, List, get_or, set, length, sym, ◌∙◌, ap, arith}
use Rattle.ov_layout.specs.declared.part.Part.{Part}
use Rattle.ov_layout.specs.declared.room.Room.TheVariants.{Nothing}
use Rattle.ov_layout.specs.Parts.{Partitions, Ascend}
use Rattle.ov_layout.specs.Index.{numbers_of}
use Rattle.ov_layout.specs.Changes.{joined_part, joined_at}
use Rattle.ov_layout.proofs.VidLemmas.{Ascend-weaker}
use Rattle.ov_layout.proofs.PlacedLemmas.{ids-ascend, numbered-there}
use Rattle.ov_layout.proofs.RoomLemmas.{joining-room, numbers-fit}
use Rattle.ov_layout.proofs.JoinLemmas.{join-numbers, joined-set, cost-set, set-cost, records-here}
use Rattle.ov_layout.proofs.layout.Layout.join.Goals as goal

pub place_of-at-requires-clause-ascend : goal.place_of-at-requires-clause-ascend
place_of-at-requires-clause-ascend c =
    rw c.deref.ensures.value (Ascend-weaker 0 1 _ (omega arith) (ids-ascend 1 _ _ c.self.invariant.0.sound.sound))

pub place_of-at-requires-clause-is_there : goal.place_of-at-requires-clause-is_there
place_of-at-requires-clause-is_there c =
    let inside = c.self.inside in
    let room = rw (← c.self.view_is) at c.requires.room in
    let joining = joining-room inside.room c.args.part inside.parts inside.index inside.fresh inside.spare room c.self.invariant.1 in
    rw c.deref.ensures.value (sym (numbered-there inside.parts.items c.args.part) ∙ joining.there)

pub join_part-requires-clause-records : goal.join_part-requires-clause-records
join_part-requires-clause-records c =
    let parts = c.self.inside.parts.items in
    let ascend : Ascend 0 (numbers_of parts) = Ascend-weaker 0 1 _ (omega arith) (ids-ascend 1 _ _ c.self.invariant.0.sound.sound) in
    let d = c.index_mut-joined.result.now in
    let found = rw c.deref.ensures.value at c.place_of-at.ensures in
    let few = rw (← c.self.view_is) at c.requires.records in
    rw c.index_mut-joined.ensures.value (records-here parts c.place_of-at.result c.args.part c.args.added d ascend found.bound (found.place d) few)

pub cost_of-after-requires : goal.cost_of-after-requires
cost_of-after-requires c =
    let inside = c.self.inside in
    let parts = inside.parts.items in
    let at = c.place_of-at.result in
    let d = c.index_mut-joined.result.now in
    let ascend : Ascend 0 (numbers_of parts) = Ascend-weaker 0 1 _ (omega arith) (ids-ascend 1 _ _ c.self.invariant.0.sound.sound) in
    let found = rw c.deref.ensures.value at c.place_of-at.ensures in
    let few = records-here parts at c.args.part c.args.added d ascend found.bound (found.place d) (rw (← c.self.view_is) at c.requires.records) in
    let new = rw (← c.self.view_is) at c.requires.new in
    let all = join-numbers inside.index.items parts inside.next inside.stored inside.cost c.args.vid c.args.added at c.args.part c.args.segment d c.self.invariant.0 new found.bound (found.place d) few c.ranges.vid.fits in
    let fit = numbers-fit _ _ _ _ _ all in
    let joined = c.join_part.ensures.joined ∙ ap (joined_part c.args.vid c.args.added c.args.segment) c.index_mut-joined.ensures.value in
    let one = set-cost parts at (joined_part c.args.vid c.args.added c.args.segment (get_or parts at d)) d found.bound in
    rw joined (omega (arith, one, fit.cost_fits))

pub overflow_add-self : goal.overflow_add-self
overflow_add-self c =
    let inside = c.self.inside in
    let parts = inside.parts.items in
    let at = c.place_of-at.result in
    let d = c.index_mut-joined.result.now in
    let ascend : Ascend 0 (numbers_of parts) = Ascend-weaker 0 1 _ (omega arith) (ids-ascend 1 _ _ c.self.invariant.0.sound.sound) in
    let found = rw c.deref.ensures.value at c.place_of-at.ensures in
    let few = records-here parts at c.args.part c.args.added d ascend found.bound (found.place d) (rw (← c.self.view_is) at c.requires.records) in
    let new = rw (← c.self.view_is) at c.requires.new in
    let all = join-numbers inside.index.items parts inside.next inside.stored inside.cost c.args.vid c.args.added at c.args.part c.args.segment d c.self.invariant.0 new found.bound (found.place d) few c.ranges.vid.fits in
    let fit = numbers-fit _ _ _ _ _ all in
    rw c.from.ensures (omega (arith, fit.stored_fits))

pub overflow_add-self-2 : goal.overflow_add-self-2
overflow_add-self-2 c =
    let inside = c.self.inside in
    let parts = inside.parts.items in
    let at = c.place_of-at.result in
    let d = c.index_mut-joined.result.now in
    let ascend : Ascend 0 (numbers_of parts) = Ascend-weaker 0 1 _ (omega arith) (ids-ascend 1 _ _ c.self.invariant.0.sound.sound) in
    let found = rw c.deref.ensures.value at c.place_of-at.ensures in
    let few = records-here parts at c.args.part c.args.added d ascend found.bound (found.place d) (rw (← c.self.view_is) at c.requires.records) in
    let new = rw (← c.self.view_is) at c.requires.new in
    let all = join-numbers inside.index.items parts inside.next inside.stored inside.cost c.args.vid c.args.added at c.args.part c.args.segment d c.self.invariant.0 new found.bound (found.place d) few c.ranges.vid.fits in
    let fit = numbers-fit _ _ _ _ _ all in
    let joined = c.join_part.ensures.joined ∙ ap (joined_part c.args.vid c.args.added c.args.segment) c.index_mut-joined.ensures.value in
    let cost = cost-set parts inside.cost at (joined_part c.args.vid c.args.added c.args.segment (get_or parts at d)) d c.self.invariant.0.cost_is found.bound in
    let before = c.cost_of-before.ensures ∙ ap (λ (p : Part). length p.versions * p.records) c.index_mut-joined.ensures.value in
    let after = c.cost_of-after.ensures ∙ ap (λ (p : Part). length p.versions * p.records) joined in
    rw (before, after, cost) (omega (arith, fit.cost_fits))

pub invariant_of-self : goal.invariant_of-self
invariant_of-self c =
    let inside = c.self.inside in
    let parts = inside.parts.items in
    let at = c.place_of-at.result in
    let d = c.index_mut-joined.result.now in
    let space = c.self.invariant.1 in
    let room = rw (← c.self.view_is) at c.requires.room in
    let joining = joining-room inside.room c.args.part inside.parts inside.index inside.fresh inside.spare room space in
    let ascend : Ascend 0 (numbers_of parts) = Ascend-weaker 0 1 _ (omega arith) (ids-ascend 1 _ _ c.self.invariant.0.sound.sound) in
    let found = rw c.deref.ensures.value at c.place_of-at.ensures in
    let few = records-here parts at c.args.part c.args.added d ascend found.bound (found.place d) (rw (← c.self.view_is) at c.requires.records) in
    let new = rw (← c.self.view_is) at c.requires.new in
    let all = join-numbers inside.index.items parts inside.next inside.stored inside.cost c.args.vid c.args.added at c.args.part c.args.segment d c.self.invariant.0 new found.bound (found.place d) few c.ranges.vid.fits in
    let joined = c.join_part.ensures.joined ∙ ap (joined_part c.args.vid c.args.added c.args.segment) c.index_mut-joined.ensures.value in
    let cost = cost-set parts inside.cost at (joined_part c.args.vid c.args.added c.args.segment (get_or parts at d)) d c.self.invariant.0.cost_is found.bound in
    let before = c.cost_of-before.ensures ∙ ap (λ (p : Part). length p.versions * p.records) c.index_mut-joined.ensures.value in
    let after = c.cost_of-after.ensures ∙ ap (λ (p : Part). length p.versions * p.records) joined in
    let ok = c.push.ensures.succeeds joining.index_fit in
    let entries = rw ok at c.push.ensures.items in
    (rw (before, after, joined, cost, entries, c.from.ensures) all, record { ready = tt; entry = tt; fresh_empty = space.fresh_empty; spare_empty = c.join_part.ensures.empty })

pub returns : goal.returns
returns c =
    let inside = c.self.inside in
    let parts = inside.parts.items in
    let at = c.place_of-at.result in
    let d = c.index_mut-joined.result.now in
    let ascend : Ascend 0 (numbers_of parts) = Ascend-weaker 0 1 _ (omega arith) (ids-ascend 1 _ _ c.self.invariant.0.sound.sound) in
    let found = rw c.deref.ensures.value at c.place_of-at.ensures in
    let joined = c.join_part.ensures.joined ∙ ap (joined_part c.args.vid c.args.added c.args.segment) c.index_mut-joined.ensures.value in
    let changed : set parts at c.join_part.new.part ≡ joined_at c.args.vid c.args.part c.args.added c.args.segment parts = rw joined (sym (joined-set c.args.vid c.args.added c.args.part c.args.segment 0 parts at d ascend found.bound (found.place d))) in
    rw (← c.self.view_is) (ap {B = Partitions} (λ (ps : List Part). record { parts = ps; next = inside.next; room = Nothing }) changed)
