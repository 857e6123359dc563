-- The best candidate so far.
use Rattle.std.proofs.Common.{leb, ◌≡◌, ℕ, ◌+◌, ◌-◌, ◌*◌, ◌<◌, ◌≤◌, Bool, true, false, Option, Some, None, List, [], ◌∷◌, length, drop, get_or, refl, sym, ◌∙◌, ap, subst, inl, inr, arith}
use Rattle.std.specs.Int.{abs_diff}
use Rattle.std.specs.Option.{IfSome}
use Rattle.std.proofs.lemmas.Bool.{cases_Bool}
use Rattle.std.proofs.lemmas.List.{drop_more}
use Rattle.ov_graph.specs.Trees.{VersionTree, total, fresh}
use Rattle.ov_graph.specs.Splits.{Has, IsPart, edges, lower, upper, is_under, records, members, stops, may_cut, versions_apart, records_apart, comes_first, better, chosen_among, chosen}
use Rattle.ov_lyre.specs.declared.choice.Candidate.{Candidate}
use Rattle.ov_lyre.specs.Candidates.{IsCandidate, better_of, IsBest}
use Rattle.ov_lyre.proofs.UnderFacts.{IsSoundTree}
use Rattle.std.specs.List.{slice_index}
use Rattle.ov_lyre.specs.Sums.{Stands}
use Rattle.ov_lyre.proofs.PartFacts.{total-same, filter-has}
use Rattle.ov_lyre.proofs.CutFacts.{sides, records-fresh}

module _ (tree : VersionTree) (part : List ℕ) where
  -- a candidate is compared with what was found
  best-better : (candidate : Candidate) (found : Option Candidate) (o : Option ℕ) → IsCandidate tree part candidate → IsBest tree part found o → IsBest tree part (Some (better_of candidate found)) (better tree part candidate.child o)
  best-better candidate None o is best = rw best (refl, is)
  best-better candidate (Some other) o is best =
      let a = is.versions in
      let b = is.records in
      let d = best.1.versions in
      let e = best.1.records in
      let test : comes_first (versions_apart tree part candidate.child) (records_apart tree part candidate.child) (versions_apart tree part other.child) (records_apart tree part other.child) ≡ comes_first candidate.versions_apart candidate.records_apart other.versions_apart other.records_apart = rw (sym a, sym b, sym d, sym e) refl in
      elim (cases_Bool (comes_first candidate.versions_apart candidate.records_apart other.versions_apart other.records_apart)) [
        | inl first ↦ rw first (rw best.0 (rw (test ∙ first) refl), is)
        | inr after ↦ rw after (rw best.0 (rw (test ∙ after) refl), best.1)
      ]

  module _ (p q : ℕ) (at : ℕ) (lt : at < length part) where
    abbrev vid : ℕ
    vid = get_or part at 0

    among : chosen_among tree p q part (drop at part) ≡ chosen_among tree p q part (vid ∷ drop (at + 1) part)
    among = ap (chosen_among tree p q part) (drop_more part at 0 lt)

    pub best-skip : (found : Option Candidate) → may_cut tree p q part vid ≡ false → IsBest tree part found (chosen_among tree p q part (drop (at + 1) part)) → IsBest tree part found (chosen_among tree p q part (drop at part))
    best-skip found heavy best =
        let P : Option ℕ → Type 0 = IsBest tree part found in
        subst P (sym (among ∙ rw heavy refl)) best

    pub best-take : (candidate : Candidate) (found : Option Candidate) → may_cut tree p q part vid ≡ true → candidate.child ≡ vid → IsCandidate tree part candidate → IsBest tree part found (chosen_among tree p q part (drop (at + 1) part)) → IsBest tree part (Some (better_of candidate found)) (chosen_among tree p q part (drop at part))
    best-take candidate found light child is best =
        let P : Option ℕ → Type 0 = IsBest tree part (Some (better_of candidate found)) in
        let Q : ℕ → Type 0 = λ v. P (better tree part v (chosen_among tree p q part (drop (at + 1) part))) in
        subst P (sym (among ∙ rw light refl)) (subst Q child (best-better candidate found (chosen_among tree p q part (drop (at + 1) part)) is best))

  pub best-all : (p q : ℕ) (at : ℕ) (found : Option Candidate) → at ≡ 1 → 0 < length part → IsBest tree part found (chosen_among tree p q part (drop at part)) → IsBest tree part found (chosen tree p q part)
  unfolding chosen
  best-all p q at found is some best = let P : List ℕ → Type 0 = λ xs. IsBest tree part found (chosen_among tree p q part xs) in subst P (edges-are part) (let Q : ℕ → Type 0 = λ k. IsBest tree part found (chosen_among tree p q part (drop k part)) in subst Q is best)
    where
      edges-are : (xs : List ℕ) → drop 1 xs ≡ edges xs
      edges-are [] = refl
      edges-are (x ∷ xs) = refl

-- from the sums under a version
pub is-candidate : (tree : VersionTree) (sound : IsSoundTree tree) (count : ℕ) (part : List ℕ) (candidate : Candidate) (under_count under_fresh : ℕ) → IsPart tree count part → Has (edges part) candidate.child → under_count ≡ length (lower tree candidate.child part) → under_fresh ≡ total (fresh tree) (lower tree candidate.child part) → candidate.versions_apart ≡ abs_diff (length part - under_count) under_count → candidate.records_apart ≡ abs_diff (records tree part - under_fresh) (under_fresh + tree.weight candidate.child) → IsCandidate tree part candidate
unfolding versions_apart records_apart
is-candidate tree sound count part candidate under_count under_fresh is has counted summed versions records_is =
    let two = sides tree sound count part candidate.child is has in
    let low = two.lower_records in
    let sum = two.record_sum in
    let long = two.lengths in
    let above : records tree part - under_fresh ≡ records tree (upper tree candidate.child part) = omega arith in
    let below : under_fresh + tree.weight candidate.child ≡ records tree (lower tree candidate.child part) = omega arith in
    let longer : length part - under_count ≡ length (upper tree candidate.child part) = omega arith in
    record {
      versions = versions ∙ rw (longer, counted) refl;
      records = records_is ∙ rw (above, below) refl;
    }

pub may-cut-is : (tree : VersionTree) (part : List ℕ) (p q vid w r : ℕ) (b : Bool) → w ≡ tree.weight vid → r ≡ records tree part → b ≡ leb (q * w) (p * r) → may_cut tree p q part vid ≡ b
unfolding may_cut
may-cut-is tree part p q vid w r b weight whole is = sym (is ∙ rw (weight, whole) refl)

pub stops-is : (tree : VersionTree) (part : List ℕ) (p q r e : ℕ) (b : Bool) → r ≡ records tree part → e ≡ members tree part → b ≡ leb (p * r * length part) (q * e) → stops tree p q part ≡ b
unfolding stops
stops-is tree part p q r e b whole all is = sym (is ∙ rw (whole, all) refl)

pub fresh-le : (tree : VersionTree) (sound : IsSoundTree tree) (part : List ℕ) → total (fresh tree) part ≤ records tree part
fresh-le tree sound [] = omega arith
fresh-le tree sound (top ∷ rest) = let h = records-fresh tree sound top rest in omega arith

-- the sum of what stands at the versions under one
pub stands-total : (tree : VersionTree) (f : ℕ → ℕ) (part sums : List ℕ) (vid : ℕ) → Stands f part sums → total (slice_index sums) (lower tree vid part) ≡ total f (lower tree vid part)
stands-total tree f part sums vid stands = total-same (slice_index sums) f (lower tree vid part) (λ x has. stands x (filter-has (λ version. is_under tree vid version) part x has).has)

-- what holds anyhow holds of a result
pub if-some : {A : Type 0} (o : Option ℕ) → A → IfSome o (λ _. A)
if-some None a = tt
if-some (Some it) a = a
