-- The parts of a division: their versions are there, and there are no more parts, and no more versions in one, than versions.
use Rattle.std.proofs.Common.{◌≡◌, ℕ, zero, suc, ◌+◌, ◌-◌, ◌<◌, ◌≤◌, true, cond, List, [], ◌∷◌, length, get_or, Vec, Global, refl, sym, ◌∙◌, ap, subst, inl, inr, arith}
use Rattle.std.specs.List.{All, count_by, range_with_len, sum_by}
use Rattle.std.proofs.lemmas.Bool.{cases_lt, cond-true, eq-eqb}
use Rattle.std.proofs.lemmas.List.{get_or-map, length-map}
use Rattle.std.proofs.lemmas.List.Sums.{sum_by-cons}
use Rattle.ov_graph.specs.declared.nodes.Node.{Node}
use Rattle.ov_graph.specs.Splits.{Ascends, IsDivision, IsPart, has_vid}
use Rattle.ov_graph.specs.Trees.{tree_of}
use Rattle.ov_lyre.specs.Parts.{lists_of}
use Rattle.ov_budget.specs.Sizes.{AreVids}

vids_up : (low high : ℕ) (part : List ℕ) → Ascends low high part → AreVids high part
vids_up low high [] up = tt
vids_up low high (vid ∷ part) up = ((omega (arith, up.0), up.1), vids_up vid high part up.2)

short_up : (low high : ℕ) (part : List ℕ) → Ascends low high part → length part ≤ high - low
short_up low high [] up = omega arith
short_up low high (vid ∷ part) up = omega (arith, up.0, up.1, short_up vid high part up.2)

-- how many of these versions a part has, and how many parts have a version
abbrev in_part : List ℕ → List ℕ → ℕ
in_part part vids = sum_by (λ vid. cond (has_vid part vid) 1 0) vids

abbrev hits : List (List ℕ) → List ℕ → ℕ
hits parts vids = sum_by (λ vid. count_by (λ part. has_vid part vid) parts) vids

hits_more : (part : List ℕ) (parts : List (List ℕ)) (vids : List ℕ) → hits (part ∷ parts) vids ≡ in_part part vids + hits parts vids
hits_more part parts [] = refl
hits_more part parts (vid ∷ vids) =
    omega (
      arith,
      sum_by-cons (λ (v : ℕ). count_by (λ p. has_vid p v) (part ∷ parts)) vid vids,
      sum_by-cons (λ (p : List ℕ). cond (has_vid p vid) 1 0) part parts,
      sum_by-cons (λ (v : ℕ). cond (has_vid part v) 1 0) vid vids,
      sum_by-cons (λ (v : ℕ). count_by (λ p. has_vid p v) parts) vid vids,
      hits_more part parts vids,
    )

some_in : (part : List ℕ) (from count vid : ℕ) → has_vid part vid ≡ true → from ≤ vid → vid < from + count → 1 ≤ in_part part (range_with_len from count)
some_in part from zero vid there le lt = absurd (omega (arith, le, lt))
some_in part from (suc count) vid there le lt =
    let sum = sum_by-cons (λ (v : ℕ). cond (has_vid part v) 1 0) from (range_with_len (from + 1) count) in
    elim (cases_lt from vid) [
      | inl less ↦ omega (arith, sum, some_in part (from + 1) count vid there (omega (arith, less)) (omega (arith, lt)))
      | inr more ↦
          let same : vid ≡ from = omega (arith, le, more) in
          omega (arith, sum, cond-true {A = ℕ} (has_vid part from) 1 0 (ap (has_vid part) (sym same) ∙ there))
    ]

first_in : (tree : _) (count : ℕ) (part : List ℕ) → IsPart tree count part → 1 ≤ in_part part (range_with_len 1 count)
first_in tree count [] is = absurd (omega (arith, is.some))
first_in tree count (vid ∷ part) is =
    some_in (vid ∷ part) 1 count vid (rw (eq-eqb vid vid refl) refl) (omega (arith, is.ascends.0)) (omega (arith, is.ascends.1))

each_hit : (tree : _) (count : ℕ) (parts : List (List ℕ)) → All (IsPart tree count) parts → length parts ≤ hits parts (range_with_len 1 count)
each_hit tree count [] are = omega arith
each_hit tree count (part ∷ parts) are =
    omega (
      arith,
      first_in tree count part (are 0 part (omega arith)),
      hits_more part parts (range_with_len 1 count),
      each_hit tree count parts (λ k d lt. are (suc k) d (omega (arith, lt))),
    )

few_hits : (parts : List (List ℕ)) (from count : ℕ) → ((vid : ℕ) → from ≤ vid → vid < from + count → count_by (λ part. has_vid part vid) parts ≡ 1)
    → hits parts (range_with_len from count) ≤ count
few_hits parts from zero once = omega arith
few_hits parts from (suc count) once =
    omega (
      arith,
      sum_by-cons (λ (v : ℕ). count_by (λ part. has_vid part v) parts) from (range_with_len (from + 1) count),
      once from (omega arith) (omega arith),
      few_hits parts (from + 1) count (λ vid le lt. once vid (omega (arith, le)) (omega (arith, lt))),
    )

module _ (nodes : List Node) (p q : ℕ) (parts : List (Vec ℕ Global)) (division : IsDivision nodes p q (lists_of parts)) where
  part_at : (k : ℕ) (d : Vec ℕ Global) → k < length parts → IsPart (tree_of nodes) (length nodes) (get_or parts k d).items
  part_at k d lt =
      subst (IsPart (tree_of nodes) (length nodes)) (get_or-map (λ (part : Vec ℕ Global). part.items) parts k d [] lt)
      (division.are_parts k [] (omega (arith, lt, length-map parts (λ (part : Vec ℕ Global). part.items))))

  pub parts_there : All (λ part. AreVids (length nodes) part.items) parts
  parts_there = λ k d lt. vids_up 0 (length nodes) _ (part_at k d lt).ascends

  pub parts_short : (k : ℕ) (d : Vec ℕ Global) → k < length parts → length (get_or parts k d).items ≤ length nodes
  parts_short k d lt = omega (arith, short_up 0 (length nodes) _ (part_at k d lt).ascends)

  pub parts_few : length parts ≤ length nodes
  parts_few =
      omega (
        arith,
        length-map parts (λ (part : Vec ℕ Global). part.items),
        each_hit (tree_of nodes) (length nodes) (lists_of parts) division.are_parts,
        few_hits (lists_of parts) 1 (length nodes) (λ vid from to. division.each_once vid from (omega (arith, to))),
      )
