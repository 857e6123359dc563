-- A schema with columns added, where they are accepted, is a schema.
--     wide_schema_is      by the test of a schema
use Rattle.std.proofs.Common.{◌≡◌, ℕ, Bool, true, false, eqb, List, [], ◌∷◌, ◌++◌, length, map, refl, sym, ap, subst, ◌∙◌, inl, inr, arith}
use Rattle.std.specs.Prelude.{Option, Some, None, is_ok, nat_eq, nat_lt, if◌then◌else◌}
use Rattle.std.specs.Option.{option_or}
use Rattle.std.specs.Cmp.Lexicographic.{pointwise}
use Rattle.std.proofs.lemmas.Bool.{cases_Bool, and_from, and_parts, or_left, lt-ltb, ltb-true}
use Rattle.std.proofs.lemmas.List.{length-append, map-append, get_or_append_left}
use Rattle.std.proofs.lemmas.List.Folds.{list_any-append}
use Rattle.ov_value.specs.declared.column.Column.{Column}
use Rattle.ov_value.specs.declared.schema_err.SchemaErr.{SchemaErr}
use Rattle.ov_value.specs.declared.schema_err.SchemaErr.TheVariants.{NoColumns}
use Rattle.ov_value.specs.Making.{is_among, name_refusal, column_refusal, key_refusal, answer_of, place_of, schema_of, widened}
use Rattle.ov_value.specs.Shapes.{Shape, names}
use Rattle.ov_model.specs.Moves.{accepted_or, wide_schema}
use Rattle.ov_catalog.specs.Testing.{no_column, name_at, are_places, is_schema}
use Rattle.law_snapshots.specs.Whole.{spelled}
use Rattle.law_snapshots.proofs.Tests.{all_more}

-- ---- answers that are no refusal

none_refused : (o : Option SchemaErr) (s : Shape) → is_ok (answer_of o s) ≡ true → o ≡ None
none_refused None s h = refl
none_refused (Some why) s h = absurd cc

not_refused : (o : Option SchemaErr) (s : Shape) → o ≡ None → is_ok (answer_of o s) ≡ true
not_refused o s e = ap (λ (x : Option SchemaErr). is_ok (answer_of x s)) e

accepted : (o : Option SchemaErr) (s wide : Shape) → o ≡ None → accepted_or s (answer_of o wide) ≡ wide
accepted o s wide e = ap (λ (x : Option SchemaErr). accepted_or s (answer_of x wide)) e

neither : (a b : Option SchemaErr) → option_or a b ≡ None → (a ≡ None) × (b ≡ None)
neither None b h = (refl, h)
neither (Some why) b h = absurd cc

not_first : (b : Bool) (o : Option SchemaErr) → (if b then Some NoColumns else o) ≡ None → o ≡ None
not_first true o h = absurd cc
not_first false o h = h

-- ---- the key, with more columns there

places_wide : (columns added : List Column) (key : List ℕ) → are_places columns key ≡ true → are_places (columns ++ added) key ≡ true
places_wide columns added key there =
    all_more (λ (place : ℕ). nat_lt place (length columns)) (λ (place : ℕ). nat_lt place (length (columns ++ added))) key
    (λ place h. let lt = ltb-true place (length columns) h in lt-ltb place (length (columns ++ added)) (omega (arith, lt, length-append columns added))) there

names_wide : (columns added : List Column) (key : List ℕ) → are_places columns key ≡ true → map (name_at columns) key ≡ map (name_at (columns ++ added)) key
names_wide columns added [] there = refl
names_wide columns added (place ∷ key) there =
    let both = and_parts (nat_lt place (length columns)) (are_places columns key) there in
    let one : name_at columns place ≡ name_at (columns ++ added) place = ap (λ (c : Column). c.name) (sym (get_or_append_left columns added no_column place (ltb-true place (length columns) both.0))) in
    let rest = names_wide columns added key both.1 in
    λ i. one i ∷ rest i

among_wide : (columns added : List Column) (name : List ℕ) → is_among name (names columns) ≡ true → is_among name (names (columns ++ added)) ≡ true
among_wide columns added name there =
    ap (is_among name) (map-append (λ (c : Column). c.name) columns added)
    ∙ list_any-append (pointwise nat_eq name) (names columns) (names added)
    ∙ or_left (is_among name (names columns)) (is_among name (names added)) there

-- names that pass one test pass a wider one
refusal_wide : (test wide : List ℕ → Bool) (failed repeated : List ℕ → SchemaErr) (before rest : List (List ℕ)) → ((name : List ℕ) → test name ≡ true → wide name ≡ true)
    → name_refusal test failed repeated before rest ≡ None → name_refusal wide failed repeated before rest ≡ None
unfolding name_refusal
refusal_wide test wide failed repeated before [] more h = refl
refusal_wide test wide failed repeated before (name ∷ rest) more h =
    elim (cases_Bool (test name)) [
      | inr fails ↦ let no = rw fails at h in absurd cc
      | inl passes ↦ elim (cases_Bool (is_among name before)) [
        | inl twice ↦ let no = rw (passes, twice) at h in absurd cc
        | inr once ↦ rw (more name passes, once) (refusal_wide test wide failed repeated (before ++ name ∷ []) rest more (rw (passes, once) at h))
      ]
    ]

key_wide : (columns added : List Column) (key : List (List ℕ)) → key_refusal columns key ≡ None → key_refusal (columns ++ added) key ≡ None
unfolding key_refusal
key_wide columns added key h =
    elim (cases_Bool (eqb (length key) 0)) [
      | inl none ↦ let no = rw none at h in absurd cc
      | inr some ↦ rw some (refusal_wide (λ (name : List ℕ). is_among name (names columns)) (λ (name : List ℕ). is_among name (names (columns ++ added))) _ _ [] key (among_wide columns added) (rw some at h))
    ]

-- ---- the schema

wide_is_schema : (columns added : List Column) (key : List ℕ) → column_refusal (columns ++ added) ≡ None → is_schema (record { columns = columns; key = key }) ≡ true
    → is_schema (record { columns = columns ++ added; key = key }) ≡ true
wide_is_schema columns added key accepts h =
    let wide = columns ++ added in
    let both = and_parts (are_places columns key) (is_ok (schema_of columns (map (name_at columns) key))) h in
    let before = option_or (column_refusal columns) (key_refusal columns (map (name_at columns) key)) in
    let made = none_refused before (record { columns = columns; key = map (place_of columns) (map (name_at columns) key) }) both.1 in
    let keys = (neither (column_refusal columns) (key_refusal columns (map (name_at columns) key)) made).1 in
    let named : key_refusal wide (map (name_at wide) key) ≡ None =
    subst (λ (ns : List (List ℕ)). key_refusal wide ns ≡ None) (names_wide columns added key both.0) (key_wide columns added (map (name_at columns) key) keys) in
    and_from (are_places wide key) (is_ok (schema_of wide (map (name_at wide) key))) (places_wide columns added key both.0)
    (not_refused (option_or (column_refusal wide) (key_refusal wide (map (name_at wide) key))) (record { columns = wide; key = map (place_of wide) (map (name_at wide) key) })
    (ap (λ (o : Option SchemaErr). option_or o (key_refusal wide (map (name_at wide) key))) accepts ∙ named))

pub wide_schema_is : (s : Shape) (added : List Column) → is_ok (widened s added) ≡ true → is_schema (spelled s) ≡ true → is_schema (spelled (wide_schema s added)) ≡ true
wide_schema_is s added ok h =
    let wide : Shape = record { columns = s.columns ++ added; key = s.key } in
    let refusal = if eqb (length added) 0 then Some NoColumns else column_refusal (s.columns ++ added) in
    let none = none_refused refusal wide ok in
    subst (λ (x : Shape). is_schema (spelled x) ≡ true) (sym (accepted refusal s wide none))
    (wide_is_schema s.columns added s.key (not_first (eqb (length added) 0) (column_refusal (s.columns ++ added)) none) h)
