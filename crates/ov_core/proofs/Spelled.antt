-- What a snapshot's events spell: each has a spelling, or is longer than a journal.
use Rattle.std.proofs.Common.{◌≡◌, inl, inr, ℕ, zero, suc, ◌<◌, ◌≤◌, ◌+◌, ◌^◌, ◌==◌, ◌&&◌, ◌||◌, Bool, true, false, eqb, List, [], ◌∷◌, ◌++◌, length, map, get_or, refl, ap, subst, arith, length-append}
use Rattle.std.specs.Prelude.{Option, Some, None, Result, Ok, Err, All, is_ok, nat_le}
use Rattle.std.specs.Cmp.{unsigned_tied}
use Rattle.std.specs.Int.{w32, to_be_bytes}
use Rattle.std.specs.List.{AllByRecursion, IsDistinct, flat_map, list_all, list_any}
use Rattle.std.specs.Option.{option_or}
use Rattle.std.specs.Ordering.{nat_cmp, eq_by_cmp}
use Rattle.std.specs.Set.{distinct_count}
use Rattle.std.proofs.lemmas.Bool.{and_parts, eqb-true, leb-true}
use Rattle.std.proofs.lemmas.Cmp.{eq_by_cmp_equiv, nat_cmp_total}
use Rattle.std.proofs.lemmas.List.{length-map}
use Rattle.std.proofs.lemmas.List.Elements.{All-from_recursion}
use Rattle.std.proofs.lemmas.Map.Made.{IsDistinct-from_count}
use Rattle.std.proofs.lemmas.Map.Steps.{length-le_from_distinct_below}
use Rattle.ov_event.specs.declared.event.Event as raw
use Rattle.ov_event.specs.declared.event.Event.TheVariants as says
use Rattle.ov_event.specs.declared.whole.RawVersion.{RawVersion}
use Rattle.ov_event.specs.Fitting.{ColumnFits, Few, Fits, SchemaFits}
use Rattle.ov_event.specs.Spelling.{IsColumn, spelling}
use Rattle.ov_event.proofs.Lengths.{long_or_fits}
use Rattle.ov_host.specs.declared.area.Extent.{Extent}
use Rattle.ov_journal.specs.Bytes.{record_of}
use Rattle.ov_journal.specs.Snapshots.{size_of}
use Rattle.ov_value.specs.declared.column.Column.{Column}
use Rattle.ov_value.specs.declared.schema_err.SchemaErr.{SchemaErr}
use Rattle.ov_value.specs.Making.{answer_of, column_refusal, key_refusal, place_of, schema_of}
use Rattle.ov_value.specs.Shapes.{IsSound, Shape}
use Rattle.ov_value.proofs.SchemaLemmas.{sound-new}
use Rattle.ov_catalog.specs.Numbers.{SetNumbers, Numbers, VersionNumbers}
use Rattle.ov_catalog.specs.Testing.{are_distinct, are_parents, are_places, is_parent, is_schema, name_at, rows_at}
use Rattle.ov_catalog.specs.Wholes.{are_versions, parents_follow}
use Rattle.ov_catalog.proofs.SchemaLemmas.{schema-is}
use Rattle.law_snapshots.specs.Said.{said_version, said_whole, snapshot_in}
use Rattle.law_snapshots.specs.Whole.{AreWhole, IsWhole, spelled}
use Rattle.ov_core.specs.Snapshots.{IsOfSnapshot}
use Rattle.ov_core.proofs.Texts.{schema_spelled}

-- ---- what doesn't fit is long

long_event : (e : raw.Event) → IsOfSnapshot e → (Fits e → ⊥) → 2 ^ 28 < length (spelling e)
long_event (says.Init name schema rows list segment) is off = absurd is
long_event (says.Commit cvd vid message parents rows fresh place added list segment) is off = absurd is
long_event (says.Plan cvd p q targets) is off = absurd is
long_event (says.Copy cvd count segment) is off = absurd is
long_event (says.Flip cvd) is off = absurd is
long_event (says.Drop cvd) is off = absurd is
long_event (says.Base next) is off = absurd (off tt)
long_event (says.Whole said) is off =
    elim (long_or_fits said is.0 is.1) [
      | inl fits ↦ absurd (off fits)
      | inr long ↦ omega (arith, long)
    ]
long_event (says.Wide cvd vid message columns parents rows fresh place added list segment) is off = absurd is

-- ---- a schema

abbrev made_of : List Column → List (List ℕ) → Shape
made_of columns key = record { columns = columns; key = map (place_of columns) key }

made_sound : (columns : List Column) (key : List (List ℕ)) (made : Shape) → schema_of columns key ≡ Ok made → IsSound made
made_sound columns key made e = by (column_refusal columns) (key_refusal columns key) refl refl e
  where
    ok_same : (a b : Shape) → (let x : Result Shape SchemaErr = Ok a in x) ≡ Ok b → a ≡ b
    ok_same a b same = cc

    by : (a b : Option SchemaErr) → column_refusal columns ≡ a → key_refusal columns key ≡ b → answer_of (option_or a b) (made_of columns key) ≡ Ok made → IsSound made
    by None None c k same = subst IsSound (ok_same (made_of columns key) made same) (sound-new columns key c k)
    by None (Some refusal) c k same = absurd cc
    by (Some refusal) b c k same = absurd cc

abbrev key_names : Shape → List (List ℕ)
key_names s = map (name_at s.columns) s.key

pub schema_sound : (s : Shape) → is_schema (spelled s) ≡ true → IsSound s
schema_sound s is = by (schema_of s.columns (key_names s)) refl both.1
  where
    both : (are_places s.columns s.key ≡ true) × (is_ok (schema_of s.columns (key_names s)) ≡ true)
    both = and_parts (are_places s.columns s.key) (is_ok (schema_of s.columns (key_names s))) is

    by : (r : Result Shape SchemaErr) → schema_of s.columns (key_names s) ≡ r → is_ok r ≡ true → IsSound s
    by (Ok made) e ok =
        let sound : IsSound made = made_sound s.columns (key_names s) made e
        in subst IsSound (schema-is s.columns s.key made e sound both.0) sound
    by (Err refusal) e ok = absurd cc

columns_fit : (columns : List Column) → AllByRecursion IsColumn columns → AllByRecursion ColumnFits columns
columns_fit [] all = tt
columns_fit (column ∷ columns) all = (all.0.1, columns_fit columns all.1)

schema_fits : (s : Shape) → is_schema (spelled s) ≡ true → SchemaFits (spelled s)
schema_fits s is =
    let said = schema_spelled s (schema_sound s is)
    in ((said.0.0, All-from_recursion ColumnFits s.columns (columns_fit s.columns said.0.1)), said.1.0)

-- ---- parents

same_tests : eq_by_cmp nat_cmp ≡ eqb
same_tests = λ i x y. unsigned_tied x y i

parent_low : {L : Type 0} (done : List (VersionNumbers L)) (rows : ℕ) (parents : List (ℕ × ℕ)) (q : ℕ) → list_all (is_parent done rows) parents ≡ true
    → list_any (eqb q) (map (λ edge. edge.0) parents) ≡ true → q < length done + 1
parent_low done rows [] q all some = absurd cc
parent_low done rows (edge ∷ parents) q all some =
    by (eqb q edge.0) refl (parent_low done rows parents q both.1) some
  where
    both : (is_parent done rows edge ≡ true) × (list_all (is_parent done rows) parents ≡ true)
    both = and_parts (is_parent done rows edge) (list_all (is_parent done rows) parents) all

    high : edge.0 ≤ length done
    high =
        let there = (and_parts (nat_le 1 edge.0 && nat_le edge.0 (length done)) (nat_le edge.1 rows && nat_le edge.1 (rows_at done edge.0)) both.0).0
        in leb-true edge.0 (length done) (and_parts (nat_le 1 edge.0) (nat_le edge.0 (length done)) there).1

    by : (b : Bool) → eqb q edge.0 ≡ b → (list_any (eqb q) (map (λ edge. edge.0) parents) ≡ true → q < length done + 1)
        → (b || list_any (eqb q) (map (λ edge. edge.0) parents)) ≡ true → q < length done + 1
    by true same later is = let e = eqb-true q edge.0 same in omega (arith, e, high)
    by false other later is = later is

few_parents : {L : Type 0} (done : List (VersionNumbers L)) (rows : ℕ) (parents : List (ℕ × ℕ)) → are_parents done rows parents ≡ true → length parents ≤ length done + 1
few_parents done rows parents are =
    let vids : List ℕ = map (λ edge. edge.0) parents
    in let rest = (and_parts (nat_le 1 (length parents)) (list_all (is_parent done rows) parents && are_distinct vids) are).1
    in let both = and_parts (list_all (is_parent done rows) parents) (are_distinct vids) rest
    in let once : IsDistinct (eq_by_cmp nat_cmp) vids = IsDistinct-from_count (eq_by_cmp_equiv nat_cmp_total) vids (eqb-true (distinct_count (eq_by_cmp nat_cmp) vids) (length vids) both.1)
    in let few : length vids ≤ length done + 1 =
    length-le_from_distinct_below vids (length done + 1) (subst (λ test. IsDistinct test vids) same_tests once) (λ q some. parent_low done rows parents q both.0 some)
    in omega (arith, few, length-map parents (λ (edge : ℕ × ℕ). edge.0))

abbrev HasFew : RawVersion → Type 0
HasFew v = Few 16 v.parents

follow_few : (done vs : List (VersionNumbers Extent)) → parents_follow done vs ≡ true → length done + length vs ≤ 65535 → AllByRecursion HasFew (map said_version vs)
follow_few done [] follow few = tt
follow_few done (v ∷ vs) follow few =
    let both = and_parts (are_parents done v.rows v.parents) (parents_follow (done ++ v ∷ []) vs) follow
    in let long = length-append done (v ∷ [])
    in let parents = few_parents done v.rows v.parents both.0
    in (omega (arith, parents, few), follow_few (done ++ v ∷ []) vs both.1 (omega (arith, long, few)))

versions_few : (vs : List (VersionNumbers Extent)) → are_versions vs ≡ true → AllByRecursion HasFew (map said_version vs)
versions_few [] are = absurd cc
versions_few (v ∷ vs) are =
    let both = and_parts (nat_le (length (v ∷ vs)) 65535) (length v.parents == 0 && parents_follow (v ∷ []) vs) are
    in let rest = and_parts (length v.parents == 0) (parents_follow (v ∷ []) vs) both.1
    in let few = leb-true (length (v ∷ vs)) 65535 both.0
    in let none = eqb-true (length v.parents) 0 rest.0
    in (omega (arith, none), follow_few (v ∷ []) vs rest.1 (omega (arith, few)))

-- ---- all events of a snapshot

wholes_short : (sets : List (SetNumbers Extent Extent)) → AllByRecursion IsWhole sets → AllByRecursion IsOfSnapshot (map (λ d. says.Whole (said_whole d)) sets)
wholes_short [] all = tt
wholes_short (d ∷ sets) all = (
  (schema_fits d.schema all.0.schema, All-from_recursion HasFew (map said_version d.versions) (versions_few d.versions all.0.versions)),
  wholes_short sets all.1,
)

pub of_snapshot : (n : Numbers Extent Extent) → AreWhole n → All IsOfSnapshot (snapshot_in n)
of_snapshot n are = All-from_recursion IsOfSnapshot (snapshot_in n) (tt, wholes_short n.sets are.each)

-- ---- payloads

-- a snapshot is longer than each of its payloads
within : (events : List raw.Event) (i : ℕ) (e : raw.Event) → i < length events → e ≡ get_or events i e → length (spelling e) ≤ size_of (map spelling events)
within [] i e low is = absurd (omega (arith, low))
within (x ∷ events) zero e low is =
    omega (
      arith,
      ap (λ y. length (spelling y)) is,
      length-append (to_be_bytes w32 (length (spelling x))) (spelling x),
      length-append (record_of (spelling x)) (flat_map record_of (map spelling events)),
    )
within (x ∷ events) (suc i) e low is =
    omega (arith, length-append (record_of (spelling x)) (flat_map record_of (map spelling events)), within events i e (omega (arith, low)) is)

pub long_within : (events : List raw.Event) (i : ℕ) (e : raw.Event) → i < length events → e ≡ get_or events i e → IsOfSnapshot e → (Fits e → ⊥)
    → 2 ^ 28 < size_of (map spelling events)
long_within events i e low is of off = let more = within events i e low is in let long = long_event e of off in omega (arith, long, more)
