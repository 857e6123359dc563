-- A World's snapshot takes so many bytes, wherever its extents lie: what its events say without them is what decides on it.
use Rattle.std.proofs.Common.{◌≡◌, ℕ, ◌+◌, List, [], ◌∷◌, ◌++◌, length, map, refl, sym, ◌∙◌, ap, subst, arith, length-append}
use Rattle.std.specs.Prelude.{Option, Some, None}
use Rattle.std.specs.List.{flat_map, AllByRecursion}
use Rattle.std.proofs.lemmas.List.Concat.{flat_map-cons}
use Rattle.std.proofs.lemmas.Simd.{map-map}
use Rattle.ov_host.specs.declared.area.Extent.{Extent}
use Rattle.ov_event.specs.declared.event.Event as raw
use Rattle.ov_event.specs.declared.event.Event.TheVariants as says
use Rattle.ov_event.specs.declared.whole.RawPart.{RawPart}
use Rattle.ov_event.specs.declared.whole.RawPlan.{RawPlan}
use Rattle.ov_event.specs.declared.whole.RawTarget.{RawTarget}
use Rattle.ov_event.specs.declared.whole.RawVersion.{RawVersion}
use Rattle.ov_event.specs.declared.whole.Whole as raw_whole
use Rattle.ov_event.specs.Fields.{u8, u32, text, extent, counted}
use Rattle.ov_event.specs.Spelling as spellings
use Rattle.ov_event.specs.Spelling.{spelling}
use Rattle.ov_journal.specs.Bytes.{record_of}
use Rattle.ov_journal.specs.Snapshots.{size_of}
use Rattle.ov_model.specs.World.{Dataset, World}
use Rattle.ov_catalog.specs.Events.{Event, Base, Whole}
use Rattle.ov_catalog.specs.Numbers.{VersionNumbers, PartNumbers, TargetNumbers, PlanNumbers, SetNumbers, each_version, each_part, each_plan, each_set}
use Rattle.ov_catalog.specs.Raw.{event_in, raw_version, raw_part, raw_target, raw_plan, whole_in}
use Rattle.ov_catalog.specs.Shown.{shown_set, snapshot_of}
use Rattle.ov_catalog.specs.Snapshots.{Snapshot, bare}
use Rattle.law_snapshots.specs.Whole.{spelled}

-- what fills a hole where it isn't said
abbrev pub nothing : {A : Type 0} → A → Unit {0}
nothing x = tt

-- ---- how long the bytes are, by what an event says without its extents

abbrev total : {A : Type 0} → (A → ℕ) → List A → ℕ
total size [] = 0
total size (x ∷ xs) = size x + total size xs

abbrev version_size : VersionNumbers (Unit {0}) → ℕ
version_size v = length (spellings.parents v.parents) + (length (text v.message) + 16)

abbrev part_size : PartNumbers (Unit {0}) → ℕ
part_size part = 8 + (length (counted u32 u32 part.versions) + (length (counted u32 u32 part.holds) + (4 + total (λ u. 8) part.segments)))

abbrev target_size : TargetNumbers → ℕ
target_size t = 12 + (length (counted u32 u32 t.versions) + length (counted u32 u32 t.kept))

abbrev plan_size : Option (PlanNumbers (Unit {0})) → ℕ
plan_size None = 1
plan_size (Some plan) = 9 + ((4 + total target_size plan.targets) + (4 + total (λ u. 8) plan.segments))

abbrev set_size : SetNumbers (Unit {0}) (Unit {0}) → ℕ
set_size d =
    20
    + (length (text d.name)
    + (length (spellings.schema (spelled d.schema))
    + ((4 + total version_size d.versions) + ((4 + total part_size d.parts) + plan_size d.plan))))

abbrev event_size : Event (Unit {0}) (Unit {0}) → ℕ
event_size (Base next) = 5
event_size (Whole d) = 1 + set_size d
event_size _ = 0

-- ---- lists

u32_length : (n : ℕ) → length (u32 n) ≡ 4
unfolding u32
u32_length n = refl

extent_length : (e : Extent) → length (extent e) ≡ 8
unfolding extent
extent_length e = simp (length-append, u32_length) refl

flat_total : {A B : Type 0} (item : A → List ℕ) (f : A → B) (size : B → ℕ) → ((x : A) → length (item x) ≡ size (f x))
    → (xs : List A) → length (flat_map item xs) ≡ total size (map f xs)
flat_total item f size one [] = refl
flat_total item f size one (x ∷ xs) =
    omega (arith, one x, flat_total item f size one xs, ap length (flat_map-cons item x xs), length-append (item x) (flat_map item xs))

counted_total : {A B : Type 0} (item : A → List ℕ) (f : A → B) (size : B → ℕ) → ((x : A) → length (item x) ≡ size (f x))
    → (xs : List A) → length (counted u32 item xs) ≡ 4 + total size (map f xs)
unfolding counted
counted_total item f size one xs =
    omega (arith, length-append (u32 (length xs)) (flat_map item xs), u32_length (length xs), flat_total item f size one xs)

counted_twice : {A B C : Type 0} (item : A → List ℕ) (f : A → B) (g : B → C) (size : C → ℕ) → ((x : A) → length (item x) ≡ size (g (f x)))
    → (xs : List A) → length (counted u32 item xs) ≡ 4 + total size (map g (map f xs))
counted_twice item f g size one xs = counted_total item (λ x. g (f x)) size one xs ∙ ap (λ ys. 4 + total size ys) (sym (map-map g f xs))

extents_total : (es : List Extent) → length (counted u32 extent es) ≡ 4 + total (λ u. 8) (map nothing es)
extents_total es = counted_total extent nothing (λ u. 8) extent_length es

-- ---- a dataset

version_fields : (v : RawVersion) → length (spellings.version v) ≡ length (spellings.parents v.parents) + (length (text v.message) + 16)
unfolding spellings.version
version_fields v = simp (length-append, u32_length, extent_length) (omega arith)

version_length : (v : RawVersion) → length (spellings.version v) ≡ version_size (each_version nothing (raw_version v))
version_length v = version_fields v

part_fields : (p : RawPart) → length (spellings.part p) ≡ 8 + (length (counted u32 u32 p.versions) + (length (counted u32 u32 p.holds) + length (counted u32 extent p.segments)))
unfolding spellings.part
part_fields p = simp (length-append, u32_length) (omega arith)

part_length : (p : RawPart) → length (spellings.part p) ≡ part_size (each_part nothing (raw_part p))
part_length p = omega (arith, part_fields p, extents_total p.segments)

target_length : (t : RawTarget) → length (spellings.raw_target t) ≡ target_size (raw_target t)
unfolding spellings.raw_target
target_length t = simp (length-append, u32_length) (omega arith)

plan_fields : (p : RawPlan) → length (spellings.raw_plan p) ≡ 8 + (length (counted u32 spellings.raw_target p.targets) + length (counted u32 extent p.segments))
unfolding spellings.raw_plan
plan_fields p = simp (length-append, u32_length) (omega arith)

plan_length : (p q : ℕ) (plan : Option RawPlan) → length (spellings.maybe_plan plan) ≡ plan_size (each_plan nothing (raw_plan p q plan))
unfolding spellings.maybe_plan
plan_length p q None = refl
plan_length p q (Some plan) =
    omega (
      arith,
      length-append (u8 1) (spellings.raw_plan plan),
      plan_fields plan,
      counted_total spellings.raw_target raw_target target_size target_length plan.targets,
      extents_total plan.segments,
    )

set_fields : (d : raw_whole.Whole) → length (spellings.dataset d)
    ≡ 20 + (length (text d.name) + (length (spellings.schema d.schema) + (length (counted u32 spellings.version d.versions) + (length (counted u32 spellings.part d.parts) + length (spellings.maybe_plan d.plan)))))
unfolding spellings.dataset
set_fields d = simp (length-append, u32_length) (omega arith)

set_length : (d : raw_whole.Whole) → length (spellings.dataset d) ≡ set_size (each_set nothing nothing (whole_in d))
set_length d =
    omega (
      arith,
      set_fields d,
      counted_twice spellings.version raw_version (each_version nothing) version_size version_length d.versions,
      counted_twice spellings.part raw_part (each_part nothing) part_size part_length d.parts,
      plan_length d.p d.q d.plan,
    )

-- ---- a snapshot

-- a snapshot has no other events
abbrev IsOfSnapshot : Event (Unit {0}) (Unit {0}) → Type 0
IsOfSnapshot (Base next) = Unit {0}
IsOfSnapshot (Whole d) = Unit {0}
IsOfSnapshot _ = ⊥

event_length : (e : raw.Event) → IsOfSnapshot (bare (event_in e)) → length (spelling e) ≡ event_size (bare (event_in e))
unfolding spelling
event_length (says.Init name schema rows l s) is = absurd is
event_length (says.Commit cvd vid message parents rows fresh place added l s) is = absurd is
event_length (says.Plan cvd p q targets) is = absurd is
event_length (says.Copy cvd count s) is = absurd is
event_length (says.Flip cvd) is = absurd is
event_length (says.Drop cvd) is = absurd is
event_length (says.Base next) is = omega (arith, length-append (u8 7) (u32 next ++ []), length-append (u32 next) [], u32_length next)
event_length (says.Whole d) is = omega (arith, length-append (u8 8) (spellings.dataset d ++ []), length-append (spellings.dataset d) [], set_length d)
event_length (says.Wide cvd vid message columns parents rows fresh place added l s) is = absurd is

record_length : (payload : List ℕ) → length (record_of payload) ≡ 5 + length payload
record_length payload = omega (arith, length-append (u32 (length payload)) payload, u32_length (length payload))

records_length : (events : List raw.Event) → AllByRecursion IsOfSnapshot (map (λ e. bare (event_in e)) events)
    → length (flat_map record_of (map spelling events)) ≡ total (λ e. 5 + event_size e) (map (λ e. bare (event_in e)) events)
records_length [] all = refl
records_length (e ∷ events) all =
    omega (
      arith,
      ap length (flat_map-cons record_of (spelling e) (map spelling events)),
      length-append (record_of (spelling e)) (flat_map record_of (map spelling events)),
      record_length (spelling e),
      event_length e all.0,
      records_length events all.1,
    )

wholes_of : (sets : List Dataset) → AllByRecursion IsOfSnapshot (map bare (map (λ d. Whole (shown_set d)) sets))
wholes_of [] = tt
wholes_of (d ∷ sets) = (tt, wholes_of sets)

snapshot_size : (w : World) (a : Snapshot w) → size_of (map spelling a.events) ≡ total (λ e. 5 + event_size e) (map bare (snapshot_of w)) + 1
snapshot_size w a =
    let all : AllByRecursion IsOfSnapshot (map bare (snapshot_of w)) = (tt, wholes_of w.sets)
    in ap (λ n. n + 1) (records_length a.events (subst (AllByRecursion IsOfSnapshot) (sym a.says) all) ∙ ap (total (λ e. 5 + event_size e)) a.says)

pub same_size : (w : World) (a b : Snapshot w) → size_of (map spelling a.events) ≡ size_of (map spelling b.events)
same_size w a b = snapshot_size w a ∙ sym (snapshot_size w b)
