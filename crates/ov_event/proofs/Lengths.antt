-- A dataset whose numbers of items don't fit their counts has a long spelling.
use Rattle.std.proofs.Common.{◌≡◌, ◌≤◌, ◌^◌, ◌+◌, ◌⊎◌, ℕ, List, [], ◌∷◌, ◌++◌, length, Option, Some, None, inl, inr, refl, ap, ◌∙◌, arith, length-append}
use Rattle.std.specs.List.{flat_map, All}
use Rattle.std.proofs.lemmas.Bool.{cases_lt}
use Rattle.std.proofs.lemmas.List.Concat.{flat_map-cons}
use Rattle.std.proofs.lemmas.List.Elements.{All-nil, All-cons, All-head, All-tail}
use Rattle.ov_host.specs.declared.area.Extent.{Extent}
use Rattle.ov_event.specs.declared.event.Event.TheVariants.{Whole}
use Rattle.ov_event.specs.declared.whole.RawPart.{RawPart}
use Rattle.ov_event.specs.declared.whole.RawPlan.{RawPlan}
use Rattle.ov_event.specs.declared.whole.RawTarget.{RawTarget}
use Rattle.ov_event.specs.declared.whole.RawVersion.{RawVersion}
use Rattle.ov_event.specs.declared.whole.Whole.{Whole as Dataset}
use Rattle.ov_event.specs.Fields.{u8, u32, text, extent, counted}
use Rattle.ov_event.specs.Fitting.{Few, SchemaFits, VersionFits, PartFits, RawTargetFits, RawPlanFits, MaybePlanFits, DatasetFits}
use Rattle.ov_event.specs.Spelling.{parents, schema, version, part, raw_target, raw_plan, maybe_plan, dataset, spelling}

both : {P Q L : Type 0} → P ⊎ L → Q ⊎ L → (P × Q) ⊎ L
both (inl p) (inl q) = inl (p, q)
both (inl p) (inr l) = inr l
both (inr l) q = inr l

gives : {P Q L : Type 0} → (P → Q) → P ⊎ L → Q ⊎ L
gives f (inl p) = inl (f p)
gives f (inr l) = inr l

-- ---- the lengths of fields

u32_length : (n : ℕ) → length (u32 n) ≡ 4
unfolding u32
u32_length n = refl

text_length : (t : List ℕ) → length (text t) ≡ 4 + length t
unfolding text
text_length t = omega (arith, length-append (u32 (length t)) t, u32_length (length t))

counted_length : {A : Type 0} (item : A → List ℕ) (xs : List A) → length (counted u32 item xs) ≡ 4 + length (flat_map item xs)
unfolding counted
counted_length item xs = omega (arith, length-append (u32 (length xs)) (flat_map item xs), u32_length (length xs))

-- ---- so many items, and each of them

few_or : {A : Type 0} (xs : List A) (total : ℕ) → length xs ≤ total → Few 32 xs ⊎ (2 ^ 32 ≤ total)
few_or xs total within =
    elim (cases_lt (length xs) (2 ^ 32)) [
      | inl few ↦ inl few
      | inr many ↦ inr (omega arith)
    ]

items_within : {A : Type 0} (item : A → List ℕ) → ((x : A) → 1 ≤ length (item x)) → (xs : List A) → length xs ≤ length (flat_map item xs)
items_within item some [] = omega arith
items_within item some (x ∷ xs) =
    omega (arith, some x, items_within item some xs, ap length (flat_map-cons item x xs), length-append (item x) (flat_map item xs))

-- each item fits, or one of them is long
each_or : {A : Type 0} (item : A → List ℕ) (R P : A → Type 0) (total : ℕ)
    → ((x : A) → R x → length (item x) ≤ total → P x ⊎ (2 ^ 32 ≤ total))
    → (xs : List A) → All R xs → length (flat_map item xs) ≤ total → All P xs ⊎ (2 ^ 32 ≤ total)
each_or item R P total one [] h within = inl (All-nil P)
each_or item R P total one (x ∷ xs) h within =
    let len : length (flat_map item (x ∷ xs)) ≡ length (item x) + length (flat_map item xs) = ap length (flat_map-cons item x xs) ∙ length-append (item x) (flat_map item xs) in
    gives (λ (p : P x × All P xs). All-cons P x xs p.0 p.1)
    (both (one x (All-head R x xs h) (omega arith)) (each_or item R P total one xs (All-tail R x xs h) (omega arith)))

-- a list behind its number: few items, each of which fits
list_or : {A : Type 0} (item : A → List ℕ) (R P : A → Type 0) (total : ℕ)
    → ((x : A) → 1 ≤ length (item x)) → ((x : A) → R x → length (item x) ≤ total → P x ⊎ (2 ^ 32 ≤ total))
    → (xs : List A) → All R xs → length (counted u32 item xs) ≤ total → (Few 32 xs × All P xs) ⊎ (2 ^ 32 ≤ total)
list_or item R P total some one xs h within =
    let len = counted_length item xs in
    let many = items_within item some xs in
    both (few_or xs total (omega arith)) (each_or item R P total one xs h (omega arith))

-- a list whose items always fit
plain_or : {A : Type 0} (item : A → List ℕ) (total : ℕ) → ((x : A) → 1 ≤ length (item x))
    → (xs : List A) → length (counted u32 item xs) ≤ total → Few 32 xs ⊎ (2 ^ 32 ≤ total)
plain_or item total some xs within =
    let len = counted_length item xs in
    let many = items_within item some xs in
    few_or xs total (omega arith)

-- ---- what the lists hold

numbers_some : (n : ℕ) → 1 ≤ length (u32 n)
numbers_some n = omega (arith, u32_length n)

extent_length : (e : Extent) → length (extent e) ≡ 8
unfolding extent
extent_length e = simp (length-append, u32_length) refl

numbers_or : (total : ℕ) (ns : List ℕ) → length (counted u32 u32 ns) ≤ total → Few 32 ns ⊎ (2 ^ 32 ≤ total)
numbers_or total ns within = plain_or u32 total numbers_some ns within

extents_or : (total : ℕ) (es : List Extent) → length (counted u32 extent es) ≤ total → Few 32 es ⊎ (2 ^ 32 ≤ total)
extents_or total es within = plain_or extent total (λ e. omega (arith, extent_length e)) es within

version_length : (v : RawVersion) → length (version v) ≡ length (parents v.parents) + (length (text v.message) + 16)
unfolding version
version_length v = simp (length-append, u32_length, extent_length) (omega arith)

version_or : (total : ℕ) (v : RawVersion) → Few 16 v.parents → length (version v) ≤ total → VersionFits v ⊎ (2 ^ 32 ≤ total)
version_or total v few within =
    gives (λ (short : Few 32 v.message). (few, short)) (few_or v.message total (omega (arith, version_length v, text_length v.message)))

part_length : (p : RawPart) → length (part p) ≡ 8 + (length (counted u32 u32 p.versions) + (length (counted u32 u32 p.holds) + length (counted u32 extent p.segments)))
unfolding part
part_length p = simp (length-append, u32_length) (omega arith)

part_or : (total : ℕ) (p : RawPart) → Unit {0} → length (part p) ≤ total → PartFits p ⊎ (2 ^ 32 ≤ total)
part_or total p _ within =
    let len = part_length p in
    gives (λ (h : Few 32 p.versions × (Few 32 p.holds × Few 32 p.segments)). (h.0, h.1.0, h.1.1))
    (both (numbers_or total p.versions (omega arith)) (both (numbers_or total p.holds (omega arith)) (extents_or total p.segments (omega arith))))

target_length : (t : RawTarget) → length (raw_target t) ≡ 12 + (length (counted u32 u32 t.versions) + length (counted u32 u32 t.kept))
unfolding raw_target
target_length t = simp (length-append, u32_length) (omega arith)

target_or : (total : ℕ) (t : RawTarget) → Unit {0} → length (raw_target t) ≤ total → RawTargetFits t ⊎ (2 ^ 32 ≤ total)
target_or total t _ within =
    let len = target_length t in
    both (numbers_or total t.versions (omega arith)) (numbers_or total t.kept (omega arith))

plan_length : (p : RawPlan) → length (raw_plan p) ≡ 8 + (length (counted u32 raw_target p.targets) + length (counted u32 extent p.segments))
unfolding raw_plan
plan_length p = simp (length-append, u32_length) (omega arith)

plan_or : (total : ℕ) (p : RawPlan) → length (raw_plan p) ≤ total → RawPlanFits p ⊎ (2 ^ 32 ≤ total)
plan_or total p within =
    let len = plan_length p in
    gives (λ (h : (Few 32 p.targets × All RawTargetFits p.targets) × Few 32 p.segments). (h.0.0, h.0.1, h.1))
    (both
    (list_or raw_target (λ _. Unit {0}) RawTargetFits total (λ t. omega (arith, target_length t)) (target_or total) p.targets (λ k d lt. tt) (omega arith))
    (extents_or total p.segments (omega arith)))

maybe_plan_or : (total : ℕ) (p : Option RawPlan) → length (maybe_plan p) ≤ total → MaybePlanFits p ⊎ (2 ^ 32 ≤ total)
unfolding maybe_plan
maybe_plan_or total None within = inl tt
maybe_plan_or total (Some p) within = plan_or total p (omega (arith, length-append (u8 1) (raw_plan p)))

-- ---- the dataset

dataset_length : (w : Dataset) → length (dataset w)
    ≡ 20 + (length (text w.name) + (length (schema w.schema) + (length (counted u32 version w.versions) + (length (counted u32 part w.parts) + length (maybe_plan w.plan)))))
unfolding dataset
dataset_length w = simp (length-append, u32_length) (omega arith)

dataset_or : (w : Dataset) (total : ℕ) → SchemaFits w.schema → All (λ v. Few 16 v.parents) w.versions → length (dataset w) ≤ total → DatasetFits w ⊎ (2 ^ 32 ≤ total)
dataset_or w total schema_fits few within =
    let len = dataset_length w in
    let name = text_length w.name in
    gives (λ (h : Few 32 w.name × ((Few 32 w.versions × All VersionFits w.versions) × ((Few 32 w.parts × All PartFits w.parts) × MaybePlanFits w.plan))). record {
      name = h.0;
      schema = schema_fits;
      versions = h.1.0.0;
      each_version = h.1.0.1;
      parts = h.1.1.0.0;
      each_part = h.1.1.0.1;
      plan = h.1.1.1;
    })
    (both (few_or w.name total (omega arith))
    (both
    (list_or version (λ v. Few 16 v.parents) VersionFits total (λ v. omega (arith, version_length v)) (version_or total) w.versions few (omega arith))
    (both
    (list_or part (λ _. Unit {0}) PartFits total (λ p. omega (arith, part_length p)) (part_or total) w.parts (λ k d lt. tt) (omega arith))
    (maybe_plan_or total w.plan (omega arith)))))

-- A dataset with few columns, and few parents of each version, fits or takes 2^32 bytes.
pub long_or_fits : (w : Dataset) → SchemaFits w.schema → All (λ v. Few 16 v.parents) w.versions → DatasetFits w ⊎ (2 ^ 32 ≤ length (spelling (Whole w)))
unfolding spelling
long_or_fits w schema_fits few =
    dataset_or w (length (spelling (Whole w))) schema_fits few (omega (arith, length-append (u8 8) (dataset w ++ []), length-append (dataset w) []))
