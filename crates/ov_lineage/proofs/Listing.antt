-- The relatives of a version, listed, are refused for nothing: each is there, and none stands twice.
use Rattle.std.proofs.Common.{◌≡◌, ◌≤◌, ◌<◌, ◌+◌, ◌∷◌, ◌∙◌, [], ℕ, zero, suc, Bool, false, List, None, arith, inl, inr, refl, length, filter}
use Rattle.std.specs.Prelude.{◌||◌, ◌==◌, nat_lt}
use Rattle.std.proofs.lemmas.Bool.{cases_Bool, cond-true, cond-false, eqb-true, ltb-true}
use Rattle.std.proofs.lemmas.List.{length-map}
use Rattle.ov_graph.proofs.VidLemmas.{Rises}
use Rattle.ov_model.specs.Act.{vids_refusal}
use Rattle.ov_model.specs.Asking.{listed_refusal}
use Rattle.ov_model.specs.Known.{version_like}
use Rattle.ov_model.specs.Lineages.{is_relative}
use Rattle.ov_model.specs.Records.{counted}
use Rattle.ov_model.specs.World.{is_one}
use Rattle.ov_model.specs.declared.query.LineageKind.{LineageKind}
use Rattle.ov_model.specs.declared.query.Src.{Src}
use Rattle.ov_model.specs.declared.query.Src.TheVariants as source
use Rattle.ov_lineage.specs.Related.{relatives_by, versions_with}
use Rattle.ov_lineage.specs.Resolved.{source_by}
use Rattle.ov_lineage.proofs.Rising.{rises-relatives}

-- each is at most high
abbrev Unders : ℕ → List ℕ → Type 0
Unders high [] = Unit {0}
Unders high (x ∷ xs) = (x ≤ high) × Unders high xs

unders-weaker : (low high : ℕ) (xs : List ℕ) → low ≤ high → Unders low xs → Unders high xs
unders-weaker low high [] le under = tt
unders-weaker low high (x ∷ xs) le under = ((let first = under.0 in omega arith), unders-weaker low high xs le under.1)

unders-counted : (high low count : ℕ) → low + count ≤ high + 1 → Unders high (counted low count)
unders-counted high low zero le = tt
unders-counted high low (suc count) le = (omega arith, unders-counted high (low + 1) count (omega arith))

unders-filter : (p : ℕ → Bool) (high : ℕ) (xs : List ℕ) → Unders high xs → Unders high (filter p xs)
unders-filter p high [] under = tt
unders-filter p high (x ∷ xs) under =
    elim (cases_Bool (p x)) [
      | inl kept ↦ rw (cond-true (p x) (x ∷ filter p xs) (filter p xs) kept) (under.0, unders-filter p high xs under.1)
      | inr left ↦ rw (cond-false (p x) (x ∷ filter p xs) (filter p xs) left) (unders-filter p high xs under.1)
    ]

other : (x v : ℕ) → x < v → (x == v) ≡ false
other x v lt = elim (cases_Bool (x == v)) [ inl e ↦ let is : x ≡ v = eqb-true x v e in absurd (omega arith) | inr e ↦ e ]

not-below : (count v : ℕ) → v ≤ count → nat_lt count v ≡ false
not-below count v le = elim (cases_Bool (nat_lt count v)) [ inl e ↦ let lt : count < v = ltb-true count v e in absurd (omega arith) | inr e ↦ e ]

not-zero : (v : ℕ) → 1 ≤ v → (v == 0) ≡ false
not-zero v one = elim (cases_Bool (v == 0)) [ inl e ↦ let is : v ≡ 0 = eqb-true v 0 e in absurd (omega arith) | inr e ↦ e ]

not-one : (low : ℕ) (before : List ℕ) (v : ℕ) → Unders low before → low < v → is_one before v ≡ false
not-one low [] v under lt = refl
not-one low (x ∷ xs) v under lt = let le = under.0 in (λ i. other x v (omega arith) i || not-one low xs v under.1 lt i)

listed-fine : (count low : ℕ) (before vids : List ℕ) → Unders low before → Rises low vids → Unders count vids → vids_refusal count before vids ≡ None
listed-fine count low before [] earlier rises under = refl
listed-fine count low before (v ∷ vids) earlier rises under =
    let lt = rises.0 in
    let rest = listed-fine count v (v ∷ before) vids (omega arith, unders-weaker low v before (omega arith) earlier) rises.1 under.1 in
    let here : (v == 0 || nat_lt count v) ≡ false = λ i. not-zero v (omega arith) i || not-below count v under.0 i in
    cond-false (v == 0 || nat_lt count v) _ _ here ∙ cond-false (is_one before v) _ _ (not-one low before v earlier lt) ∙ rest

relatives-fine : (parents : List (List ℕ)) (kind : LineageKind) (vid : ℕ) → vids_refusal (length parents) [] (relatives_by parents kind vid) ≡ None
relatives-fine parents kind vid =
    let long = length-map parents version_like in
    listed-fine (length parents) 0 [] (relatives_by parents kind vid) tt (rises-relatives parents kind vid)
    (unders-filter (is_relative (versions_with parents) kind vid) (length parents) (counted 1 (length (versions_with parents)))
    (unders-counted (length parents) 1 (length (versions_with parents)) (omega arith)))

pub listed-same : (parents : List (List ℕ)) (src : Src) → listed_refusal (length parents) (source_by (relatives_by parents) src) ≡ listed_refusal (length parents) src
listed-same parents (source.Listed vids name) = refl
listed-same parents (source.Whole name) = refl
listed-same parents (source.Lineage kind vid name) = relatives-fine parents kind vid
