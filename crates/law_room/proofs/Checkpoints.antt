-- A checkpoint of a store at a World writes a snapshot of the World: it is refused, or the journal grows, by what that takes.
use Rattle.std.proofs.Common.{◌≡◌, ◌⊎◌, inl, inr, ◌≤◌, ◌<◌, ℕ, ◌+◌, ◌^◌, Bool, true, false, List, [], ◌∷◌, ◌++◌, length, map, refl, sym, ◌∙◌, ap, subst, arith}
use Rattle.std.specs.Prelude.{nat_lt, if◌then◌else◌, Option, Some, None}
use Rattle.std.specs.List.{flat_map}
use Rattle.std.proofs.lemmas.Simd.{map-map}
use Rattle.ov_host.specs.declared.area.Extent.{Extent}
use Rattle.ov_host.specs.Disk.{as_read}
use Rattle.ov_host.specs.Host.{State}
use Rattle.ov_journal.specs.Bytes.{record_of}
use Rattle.ov_journal.specs.Snapshots.{size_of}
use Rattle.ov_model.specs.Moves.{Checkpoint}
use Rattle.ov_model.specs.World.{World}
use Rattle.ov_catalog.specs.Events.{Base, Whole}
use Rattle.ov_catalog.specs.Extents.{covers, live}
use Rattle.ov_catalog.specs.Numbers.{VersionNumbers, PartNumbers, PlanNumbers, SetNumbers, Numbers, each_version, each_part, each_plan, each_set, each}
use Rattle.ov_catalog.specs.Raw.{event_in}
use Rattle.ov_catalog.specs.Shown.{shown, shown_set, snapshot_of}
use Rattle.ov_catalog.specs.Snapshots.{Snapshot, bare, events_of}
use Rattle.ov_catalog.specs.Stands.{Readings, asked, seen}
use Rattle.law_snapshots.specs.Said.{snapshot_in}
use Rattle.law_snapshots.specs.Whole.{AreWhole}
use Rattle.law_snapshots.proofs.Carrying.{all_whole}
use Rattle.law_snapshots.proofs.Saying.{is_snapshot}
use Rattle.law_image.specs.Pages.{readings_of}
use Rattle.ov_core.specs.AtWorld.{IsAtWorld}
use Rattle.ov_core.specs.Held.{Held}
use Rattle.ov_core.specs.Rooms.{HasNoPlace, IsTaken, snapshot_payloads}
use Rattle.law_room.proofs.Lengths.{nothing}
use Rattle.law_room.proofs.Room.{take_more}
use Rattle.law_room.specs.Room.{Entry, IsLastEpoch, IsWithin, LacksRecord, Made, Takes, checkpoints}

-- ---- without what fills their holes, the numbers of the store are the World's

versions_bare : {L M : Type 0} (f : L → M) (vs : List (VersionNumbers L)) → map (each_version nothing) (map (each_version f) vs) ≡ map (each_version nothing) vs
versions_bare f [] = refl
versions_bare f (v ∷ vs) = ap (λ us. each_version nothing v ∷ us) (versions_bare f vs)

parts_bare : {S T : Type 0} (g : S → T) (parts : List (PartNumbers S)) → map (each_part nothing) (map (each_part g) parts) ≡ map (each_part nothing) parts
parts_bare g [] = refl
parts_bare g (part ∷ parts) = λ i.
    record { id = part.id; versions = part.versions; holds = part.holds; records = part.records; segments = map-map nothing g part.segments i }
    ∷ parts_bare g parts i

plan_bare : {S T : Type 0} (g : S → T) (plan : Option (PlanNumbers S)) → each_plan nothing (each_plan g plan) ≡ each_plan nothing plan
plan_bare g None = refl
plan_bare g (Some plan) = λ i.
    Some (record { p = plan.p; q = plan.q; targets = plan.targets; at = plan.at; copied = plan.copied; segments = map-map nothing g plan.segments i })

sets_bare : {L M S T : Type 0} (f : L → M) (g : S → T) (sets : List (SetNumbers L S))
    → map (each_set nothing nothing) (map (each_set f g) sets) ≡ map (each_set nothing nothing) sets
sets_bare f g [] = refl
sets_bare f g (d ∷ sets) = λ i.
    record {
      number = d.number;
      name = d.name;
      schema = d.schema;
      versions = versions_bare f d.versions i;
      parts = parts_bare g d.parts i;
      next_part = d.next_part;
      threshold = d.threshold;
      plan = plan_bare g d.plan i;
      records = d.records;
    }
    ∷ sets_bare f g sets i

numbers_bare : {L M S T : Type 0} (f : L → M) (g : S → T) (n : Numbers L S) → each nothing nothing (each f g n) ≡ each nothing nothing n
numbers_bare f g n = λ i. record { next = n.next; sets = sets_bare f g n.sets i }

wholes_bare : {L S : Type 0} (sets : List (SetNumbers L S)) → map bare (map (λ d. Whole d) sets) ≡ map (λ d. Whole d) (map (each_set nothing nothing) sets)
wholes_bare [] = refl
wholes_bare (d ∷ sets) = ap (λ es. Whole (each_set nothing nothing d) ∷ es) (wholes_bare sets)

events_bare : {L S : Type 0} (n : Numbers L S) → map bare (events_of n) ≡ events_of (each nothing nothing n)
events_bare n = ap (λ es. Base n.next ∷ es) (wholes_bare n.sets)

shown_events : (w : World) → events_of (shown w) ≡ snapshot_of w
shown_events w = ap (λ es. Base w.next ∷ es) (map-map (λ d. Whole d) shown_set w.sets)

says_world : (r : Readings) (n : Numbers Extent Extent) (w : World) → seen r n ≡ asked w → map bare (events_of n) ≡ map bare (snapshot_of w)
says_world r n w shows =
    let same : each nothing nothing n ≡ each nothing nothing (shown w) =
    sym (numbers_bare r.list r.segment n) ∙ ap (λ m. each nothing nothing m) shows ∙ numbers_bare Some Some (shown w)
    in events_bare n ∙ ap (λ m. events_of m) same ∙ sym (events_bare (shown w)) ∙ ap (map bare) (shown_events w)

-- what a checkpoint writes is a snapshot of the World
pub snapshot_at : (w : World) (held : Held) (s : State) → IsAtWorld w held s → Snapshot w
snapshot_at w held s is =
    let are : AreWhole held.numbers = subst AreWhole (sym is.numbers_are) (all_whole held.journal.format is.events is.stands.stands.follow)
    in let r : Readings = readings_of (as_read s.tape.disk).pages
    in let shows : seen r held.numbers ≡ asked w = ap (seen r) is.numbers_are ∙ is.stands.stands.shows
    in record {
      events = snapshot_in held.numbers;
      says = sym (map-map bare event_in (snapshot_in held.numbers)) ∙ ap (map bare) (is_snapshot held.numbers are) ∙ says_world r held.numbers w shows;
    }

-- ---- a checkpoint

abbrev size_at : Held → ℕ
size_at held = size_of (snapshot_payloads held.numbers)

takes_snapshot : (w : World) (held : Held) (s : State) → IsAtWorld w held s → Takes Checkpoint w 0 (size_at held)
unfolding snapshot_at
takes_snapshot w held s is = inr (record { checkpoint = refl; writes = snapshot_at w held s is; pages_are = refl; size_is = refl })

-- where it finds no place or no epoch, there may be none
pub checkpoint_is_licensed : (entry : Entry) (before : List Made) (held : Held) (w : World) (s : State)
    → IsWithin entry before held → IsAtWorld w held s → HasNoPlace held → LacksRecord entry before Checkpoint w
checkpoint_is_licensed entry before held w s within is none = record {
  own = 0;
  size = size_at held;
  takes = takes_snapshot w held s is;
  pages = within.pages;
  bytes = within.bytes;
  taken = within.taken;
  lacks = by none;
}
  where
    by : HasNoPlace held → (2 ^ 28 < entry.end + within.bytes + (6 + size_at held)) ⊎ IsLastEpoch entry before Checkpoint
    by (inl last) = inr (refl, sym within.epoch ∙ last)
    by (inr passes) = inl (omega (arith, passes.1, within.within))

checkpoints_more : (before : List Made) (w : World) → checkpoints (before ++ record { move = Checkpoint; world = w } ∷ []) ≡ checkpoints before + 1
checkpoints_more [] w = refl
checkpoints_more (made ∷ before) w = omega (arith, checkpoints_more before w)

-- the snapshot begins behind the live half, or before it, where that half's end is further on
end_grows : (w : World) (old new : Held) (s : State) → IsAtWorld w old s → IsTaken old new → new.journal.end ≤ old.journal.end + (6 + size_at old)
end_grows w old new s is taken = by (nat_lt old.journal.start (38 + size_at old)) (ap (λ j. j.end) taken.journal)
  where
    by : (b : Bool) → new.journal.end ≡ (if b then old.journal.end + 1 else 38) + length (flat_map record_of (snapshot_payloads old.numbers))
        → new.journal.end ≤ old.journal.end + (6 + size_at old)
    by true end = omega (arith, end)
    by false end = omega (arith, end, is.at.place, is.at.spells.begins.low)

-- after it the journal's end is no further on than by what it wrote, and no extent is new
pub within_taken : (entry : Entry) (before : List Made) (old new : Held) (w : World) (s : State)
    → IsWithin entry before old → IsAtWorld w old s → IsTaken old new
    → IsWithin entry (before ++ record { move = Checkpoint; world = w } ∷ []) new
within_taken entry before old new w s within is taken = record {
  pages = within.pages + 0;
  bytes = within.bytes + (6 + size_at old);
  taken = take_more before within.pages within.bytes 0 (size_at old) Checkpoint w (takes_snapshot w old s is) within.taken;
  below = λ page some. omega (arith, within.below page (subst (λ n. 1 ≤ covers (live n) page) taken.numbers some));
  within = omega (arith, end_grows w old new s is taken, within.within);
  epoch = omega (arith, ap (λ j. j.epoch) taken.journal, within.epoch, checkpoints_more before w);
}
