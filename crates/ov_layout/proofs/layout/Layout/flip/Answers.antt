use Rattle.std.proofs.Common.{◌≡◌, ◌+◌, ℕ, List, [], ◌∷◌, ◌++◌, map, length, ◌∙◌, ap, arith, refl, vec_len, vec_capacity, Vec, Global}
use Rattle.ov_layout.specs.declared.part.Part.{Part}
use Rattle.ov_layout.specs.declared.index.Entry.{Entry}
use Rattle.ov_layout.specs.declared.room.Room.TheVariants.{Nothing}
use Rattle.ov_layout.specs.Parts.{Partitions}
use Rattle.ov_layout.specs.Flips.{flip_of, leaving, left_parts, flipped_part, chosen, segments_at}
use Rattle.ov_layout.proofs.VidLemmas.{Ascend-weaker}
use Rattle.ov_layout.proofs.PlacedLemmas.{ids-ascend, versions-ascend}
use Rattle.ov_layout.proofs.LedLemmas.{none-empty-yet}
use Rattle.ov_layout.proofs.AddLemmas.{next-some}
use Rattle.ov_layout.proofs.RoomLemmas.{placing-room, numbers-fit}
use Rattle.ov_layout.proofs.FlippedLemmas.{HasFlipped, flip-all, length-left, gone-given, owned-index, placed-index, some-index, whole}
use Rattle.ov_layout.proofs.layout.Layout.flip.Goals as goal

pub with_kept-requires-clause-numbers : goal.with_kept-requires-clause-numbers
with_kept-requires-clause-numbers c =
    rw c.deref.ensures.value (Ascend-weaker 0 1 _ (omega arith) (ids-ascend 1 _ _ c.self.invariant.0.sound.sound))

pub leave-left-requires-clause-numbers : goal.leave-left-requires-clause-numbers
leave-left-requires-clause-numbers c =
    rw c.deref_mut.ensures.value (Ascend-weaker 0 1 _ (omega arith) (ids-ascend 1 _ _ c.self.invariant.0.sound.sound))

pub leave-left-requires-clause-versions : goal.leave-left-requires-clause-versions
leave-left-requires-clause-versions c =
    rw c.deref_mut.ensures.value (versions-ascend 1 _ _ c.self.invariant.0.sound.sound)

pub leave-left-requires-clause-some : goal.leave-left-requires-clause-some
leave-left-requires-clause-some c = rw c.deref_mut.ensures.value (none-empty-yet 1 _ _ c.self.invariant.0.sound.sound)

pub leave-left-requires-clause-owned : goal.leave-left-requires-clause-owned
leave-left-requires-clause-owned c =
    let numbers = c.self.invariant.0 in
    rw (c.deref_mut.ensures.value, c.deref-2.ensures.value) (owned-index c.self.inside.index.items c.self.inside.parts.items c.self.inside.next numbers.sound numbers.index_is)

pub leave-left-requires-clause-placed : goal.leave-left-requires-clause-placed
leave-left-requires-clause-placed c =
    let numbers = c.self.invariant.0 in
    let may = rw (← c.self.view_is) at c.requires.flip in
    rw (c.deref-3.ensures.value, c.deref_mut.ensures.value, c.deref-2.ensures.value) (placed-index c.self.inside.index.items c.self.inside.parts.items c.self.inside.next c.args.versions.items numbers.sound numbers.index_is may.placed)

pub give_up-gone-requires-clause-room : goal.give_up-gone-requires-clause-room
give_up-gone-requires-clause-room c =
    let parts = c.self.inside.parts.items in
    let versions = c.args.versions.items in
    let flip = flip_of versions c.args.records c.args.source c.args.kept.now c.args.copied.items in
    let new : c.leave-left.new.parts ≡ map (leaving versions) parts = c.leave-left.ensures.left ∙ rw (c.deref-3.ensures.value, c.deref_mut.ensures.value) refl in
    let len : length c.leave-left.new.parts ≡ length parts = c.leave-left.auto.parts ∙ ap (λ (ps : List Part). length ps) c.deref_mut.ensures.value in
    let written = whole c.leave-left.new.parts parts c.self.inside.parts.len len c.self.inside.parts.ok.0 ∙ new in
    let room = rw (← c.self.view_is) at c.requires.freed in
    rw (written, gone-given flip parts) room

pub move_to-requires-clause-placed : goal.move_to-requires-clause-placed
move_to-requires-clause-placed c =
    let numbers = c.self.invariant.0 in
    let may = rw (← c.self.view_is) at c.requires.flip in
    rw (c.deref-4.ensures.value, c.deref_mut-2.ensures.value) (some-index c.self.inside.index.items c.self.inside.parts.items c.self.inside.next c.args.versions.items numbers.sound numbers.index_is may.placed)

pub move_to-requires-clause-some : goal.move_to-requires-clause-some
move_to-requires-clause-some c = next-some 1 _ _ c.self.invariant.0.sound.sound

pub overflow_add-self : goal.overflow_add-self
overflow_add-self c =
    let inside = c.self.inside in
    let parts = inside.parts.items in
    let versions = c.args.versions.items in
    let flip = flip_of versions c.args.records c.args.source c.args.kept.now c.args.copied.items in
    let may = rw (← c.self.view_is) at c.requires.flip in
    let new : c.leave-left.new.parts ≡ map (leaving versions) parts = c.leave-left.ensures.left ∙ rw (c.deref-3.ensures.value, c.deref_mut.ensures.value) refl in
    let len : length c.leave-left.new.parts ≡ length parts = c.leave-left.auto.parts ∙ ap (λ (ps : List Part). length ps) c.deref_mut.ensures.value in
    let written = whole c.leave-left.new.parts parts inside.parts.len len inside.parts.ok.0 ∙ new in
    let saved = rw (new, c.deref_mut.ensures.value) at c.leave-left.ensures.saved in
    let left = rw written at c.give_up-gone.ensures.left in
    let gone = rw (left, written) at c.give_up-gone.ensures.gone in
    let moved : HasFlipped inside.index.items c.move_to.new.index versions inside.next = record {
      entries = c.move_to.ensures.entries;
      numbers = rw (c.deref-4.ensures.value, c.deref_mut-2.ensures.value) at c.move_to.ensures.moved;
      count = c.move_to.auto.index ∙ ap (λ (es : List Entry). length es) c.deref_mut-2.ensures.value;
    } in
    let all = flip-all inside.index.items c.move_to.new.index parts inside.next inside.stored inside.cost c.leave-left.result.saved c.give_up-gone.result flip c.self.invariant.0 may moved c.ranges.records.fits saved gone in
    let fit = numbers-fit _ _ _ _ _ all in
    let len_is : c.len.result ≡ length versions = c.len.ensures ∙ c.args.versions.ok.0 in
    rw (len_is, c.from.ensures) (omega (arith, fit.cost_fits))

pub overflow_add-self-2 : goal.overflow_add-self-2
overflow_add-self-2 c =
    let inside = c.self.inside in
    let parts = inside.parts.items in
    let versions = c.args.versions.items in
    let flip = flip_of versions c.args.records c.args.source c.args.kept.now c.args.copied.items in
    let may = rw (← c.self.view_is) at c.requires.flip in
    let new : c.leave-left.new.parts ≡ map (leaving versions) parts = c.leave-left.ensures.left ∙ rw (c.deref-3.ensures.value, c.deref_mut.ensures.value) refl in
    let len : length c.leave-left.new.parts ≡ length parts = c.leave-left.auto.parts ∙ ap (λ (ps : List Part). length ps) c.deref_mut.ensures.value in
    let written = whole c.leave-left.new.parts parts inside.parts.len len inside.parts.ok.0 ∙ new in
    let saved = rw (new, c.deref_mut.ensures.value) at c.leave-left.ensures.saved in
    let left = rw written at c.give_up-gone.ensures.left in
    let gone = rw (left, written) at c.give_up-gone.ensures.gone in
    let moved : HasFlipped inside.index.items c.move_to.new.index versions inside.next = record {
      entries = c.move_to.ensures.entries;
      numbers = rw (c.deref-4.ensures.value, c.deref_mut-2.ensures.value) at c.move_to.ensures.moved;
      count = c.move_to.auto.index ∙ ap (λ (es : List Entry). length es) c.deref_mut-2.ensures.value;
    } in
    let all = flip-all inside.index.items c.move_to.new.index parts inside.next inside.stored inside.cost c.leave-left.result.saved c.give_up-gone.result flip c.self.invariant.0 may moved c.ranges.records.fits saved gone in
    let fit = numbers-fit _ _ _ _ _ all in
    rw c.from-2.ensures (omega (arith, fit.stored_fits))

pub invariant_of-self : goal.invariant_of-self
invariant_of-self c =
    let inside = c.self.inside in
    let parts = inside.parts.items in
    let versions = c.args.versions.items in
    let flip = flip_of versions c.args.records c.args.source c.args.kept.now c.args.copied.items in
    let may = rw (← c.self.view_is) at c.requires.flip in
    let new : c.leave-left.new.parts ≡ map (leaving versions) parts = c.leave-left.ensures.left ∙ rw (c.deref-3.ensures.value, c.deref_mut.ensures.value) refl in
    let len : length c.leave-left.new.parts ≡ length parts = c.leave-left.auto.parts ∙ ap (λ (ps : List Part). length ps) c.deref_mut.ensures.value in
    let written = whole c.leave-left.new.parts parts inside.parts.len len inside.parts.ok.0 ∙ new in
    let saved = rw (new, c.deref_mut.ensures.value) at c.leave-left.ensures.saved in
    let left = rw written at c.give_up-gone.ensures.left in
    let gone = rw (left, written) at c.give_up-gone.ensures.gone in
    let moved : HasFlipped inside.index.items c.move_to.new.index versions inside.next = record {
      entries = c.move_to.ensures.entries;
      numbers = rw (c.deref-4.ensures.value, c.deref_mut-2.ensures.value) at c.move_to.ensures.moved;
      count = c.move_to.auto.index ∙ ap (λ (es : List Entry). length es) c.deref_mut-2.ensures.value;
    } in
    let all = flip-all inside.index.items c.move_to.new.index parts inside.next inside.stored inside.cost c.leave-left.result.saved c.give_up-gone.result flip c.self.invariant.0 may moved c.ranges.records.fits saved gone in
    let space = c.self.invariant.1 in
    let room = rw (← c.self.view_is) at c.requires.room in
    let place = placing-room inside.room (length versions) inside.parts inside.index inside.fresh inside.spare room space in
    let old_holds = c.replace-holds.ensures.value in
    let empty : c.replace-holds.result.items ≡ [] = ap (λ (v : Vec ℕ Global). v.items) old_holds ∙ space.fresh_empty.holds in
    let size : vec_len c.replace-holds.result ≡ 0 = c.replace-holds.result.ok.0 ∙ ap (λ (ns : List ℕ). length ns) empty in
    let capacity : vec_capacity c.replace-holds.result ≡ vec_capacity inside.fresh.holds = ap (λ (v : Vec ℕ Global). vec_capacity v) old_holds in
    let given : length c.deref-5.result.now ≡ length versions = ap (λ (ns : List ℕ). length ns) c.deref-5.ensures.value in
    let held = c.extend_from_slice.ensures.succeeds (let fit = place.fresh_fit.holds_fit in omega (arith, fit, size, capacity, given)) in
    let holds : c.extend_from_slice.new.self.items ≡ versions = (rw held at c.extend_from_slice.ensures.items) ∙ rw (empty, c.deref-5.ensures.value) refl in
    let segments : c.with_kept.new.copied.items ≡ chosen c.args.kept.now (segments_at c.args.source parts) ++ c.args.copied.items = c.with_kept.ensures ∙ rw c.deref.ensures.value refl in
    let part : Part = record { id = inside.next; versions = c.new-2.result; holds = c.new-3.result; records = c.args.records; segments = c.new-4.result } in
    let part_is : part ≡ flipped_part inside.next flip parts = rw (c.new-2.ensures, c.new-3.ensures, c.new-4.ensures, holds, segments) refl in
    let fewer = length-left versions parts in
    let left_size : vec_len c.give_up-gone.new.parts ≡ length (left_parts versions parts) = c.give_up-gone.new.parts.ok.0 ∙ ap (λ (ps : List Part). length ps) left in
    let more = c.give_up-gone.ensures.capacity in
    let parts_size = inside.parts.ok.0 in
    let ok = c.push.ensures.succeeds (let fit = place.parts_fit in omega (arith, fit, fewer, left_size, more, parts_size)) in
    let made : c.push.new.self.items ≡ left_parts versions parts ++ flipped_part inside.next flip parts ∷ [] = (rw ok at c.push.ensures.items) ∙ ap (λ (ps : List Part). ps ++ part ∷ []) left ∙ ap (λ (p : Part). left_parts versions parts ++ p ∷ []) part_is in
    let len_is : c.len.result ≡ length versions = c.len.ensures ∙ c.args.versions.ok.0 in
    let entries = whole c.move_to.new.index inside.index.items inside.index.len moved.count inside.index.ok.0 in
    let no_holds : c.replace-holds.new.dest.items ≡ [] = ap (λ (v : Vec ℕ Global). v.items) c.replace-holds.ensures.after ∙ c.new.ensures.items in (
      rw (entries, made, c.from-2.ensures, len_is, c.from.ensures) all,
      record {
        ready = tt;
        entry = tt;
        fresh_empty = record { versions = space.fresh_empty.versions; holds = no_holds; segments = space.fresh_empty.segments };
        spare_empty = space.spare_empty;
      },
    )

pub returns-clause-flipped : goal.returns-clause-flipped
returns-clause-flipped c =
    let inside = c.self.inside in
    let parts = inside.parts.items in
    let versions = c.args.versions.items in
    let flip = flip_of versions c.args.records c.args.source c.args.kept.now c.args.copied.items in
    let may = rw (← c.self.view_is) at c.requires.flip in
    let new : c.leave-left.new.parts ≡ map (leaving versions) parts = c.leave-left.ensures.left ∙ rw (c.deref-3.ensures.value, c.deref_mut.ensures.value) refl in
    let len : length c.leave-left.new.parts ≡ length parts = c.leave-left.auto.parts ∙ ap (λ (ps : List Part). length ps) c.deref_mut.ensures.value in
    let written = whole c.leave-left.new.parts parts inside.parts.len len inside.parts.ok.0 ∙ new in
    let left = rw written at c.give_up-gone.ensures.left in
    let space = c.self.invariant.1 in
    let room = rw (← c.self.view_is) at c.requires.room in
    let place = placing-room inside.room (length versions) inside.parts inside.index inside.fresh inside.spare room space in
    let old_holds = c.replace-holds.ensures.value in
    let empty : c.replace-holds.result.items ≡ [] = ap (λ (v : Vec ℕ Global). v.items) old_holds ∙ space.fresh_empty.holds in
    let size : vec_len c.replace-holds.result ≡ 0 = c.replace-holds.result.ok.0 ∙ ap (λ (ns : List ℕ). length ns) empty in
    let capacity : vec_capacity c.replace-holds.result ≡ vec_capacity inside.fresh.holds = ap (λ (v : Vec ℕ Global). vec_capacity v) old_holds in
    let given : length c.deref-5.result.now ≡ length versions = ap (λ (ns : List ℕ). length ns) c.deref-5.ensures.value in
    let held = c.extend_from_slice.ensures.succeeds (let fit = place.fresh_fit.holds_fit in omega (arith, fit, size, capacity, given)) in
    let holds : c.extend_from_slice.new.self.items ≡ versions = (rw held at c.extend_from_slice.ensures.items) ∙ rw (empty, c.deref-5.ensures.value) refl in
    let segments : c.with_kept.new.copied.items ≡ chosen c.args.kept.now (segments_at c.args.source parts) ++ c.args.copied.items = c.with_kept.ensures ∙ rw c.deref.ensures.value refl in
    let part : Part = record { id = inside.next; versions = c.new-2.result; holds = c.new-3.result; records = c.args.records; segments = c.new-4.result } in
    let part_is : part ≡ flipped_part inside.next flip parts = rw (c.new-2.ensures, c.new-3.ensures, c.new-4.ensures, holds, segments) refl in
    let fewer = length-left versions parts in
    let left_size : vec_len c.give_up-gone.new.parts ≡ length (left_parts versions parts) = c.give_up-gone.new.parts.ok.0 ∙ ap (λ (ps : List Part). length ps) left in
    let more = c.give_up-gone.ensures.capacity in
    let parts_size = inside.parts.ok.0 in
    let ok = c.push.ensures.succeeds (let fit = place.parts_fit in omega (arith, fit, fewer, left_size, more, parts_size)) in
    let made : c.push.new.self.items ≡ left_parts versions parts ++ flipped_part inside.next flip parts ∷ [] = (rw ok at c.push.ensures.items) ∙ ap (λ (ps : List Part). ps ++ part ∷ []) left ∙ ap (λ (p : Part). left_parts versions parts ++ p ∷ []) part_is in
    rw (← c.self.view_is) (ap {B = Partitions} (λ (ps : List Part). record { parts = ps; next = inside.next + 1; room = Nothing }) made)

pub returns-clause-freed : goal.returns-clause-freed
returns-clause-freed c =
    let inside = c.self.inside in
    let parts = inside.parts.items in
    let versions = c.args.versions.items in
    let flip = flip_of versions c.args.records c.args.source c.args.kept.now c.args.copied.items in
    let may = rw (← c.self.view_is) at c.requires.flip in
    let new : c.leave-left.new.parts ≡ map (leaving versions) parts = c.leave-left.ensures.left ∙ rw (c.deref-3.ensures.value, c.deref_mut.ensures.value) refl in
    let len : length c.leave-left.new.parts ≡ length parts = c.leave-left.auto.parts ∙ ap (λ (ps : List Part). length ps) c.deref_mut.ensures.value in
    let written = whole c.leave-left.new.parts parts inside.parts.len len inside.parts.ok.0 ∙ new in
    rw (← c.self.view_is) (c.give_up-gone.ensures.freed ∙ rw (written, gone-given flip parts) refl)
