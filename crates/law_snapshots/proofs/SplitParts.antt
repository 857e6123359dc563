-- The parts of a split of versions: some versions each, which ascend, and each version is in one of them. Cuts only divide lists,
-- so this holds of any nodes.
use Rattle.std.proofs.Common.{◌≡◌, ◌≤◌, ◌<◌, ℕ, zero, suc, ◌+◌, Bool, true, false, not, ◌&&◌, ◌==◌, List, [], ◌∷◌, ◌++◌, length, filter, refl, ◌∙◌, ap, inl, inr, arith}
use Rattle.std.specs.Prelude.{nat_le, Some, None}
use Rattle.std.specs.List.{list_all, range_with_len, sum_by}
use Rattle.std.proofs.lemmas.Bool.{cases_Bool, and_parts, and_from, ne_eqb, eqb-true, leb-true, le-leb}
use Rattle.std.proofs.lemmas.List.Sums.{sum_by-cons, sum_by-append}
use Rattle.ov_graph.specs.declared.nodes.Node.{Node}
use Rattle.ov_graph.specs.Splits.{Cuts, whole, cut, cuts_within, cuts_of, leaves, next_cut_of, upper, lower, in_order, first_of, is_under, parts_of}
use Rattle.ov_graph.specs.Trees.{VersionTree, tree_of, vids}
use Rattle.ov_catalog.specs.Events.{is_one}
use Rattle.ov_catalog.specs.Planning.{ascend_from}
use Rattle.ov_catalog.specs.Wholes.{are_there}
use Rattle.law_snapshots.proofs.PartTests.{one_if, all_both, all_filter, one_filter, ascend_filter}

-- ---- in how many lists a version is

abbrev pub lists_with : ℕ → List (List ℕ) → ℕ
lists_with vid parts = sum_by (λ part. one_if (is_one part vid)) parts

pub with_cons : (vid : ℕ) (part : List ℕ) (parts : List (List ℕ)) → lists_with vid (part ∷ parts) ≡ one_if (is_one part vid) + lists_with vid parts
with_cons vid part parts = sum_by-cons (λ (vs : List ℕ). one_if (is_one vs vid)) part parts

with_both : (vid : ℕ) (a b : List (List ℕ)) → lists_with vid (a ++ b) ≡ lists_with vid a + lists_with vid b
with_both vid a b = sum_by-append (λ (vs : List ℕ). one_if (is_one vs vid)) a b

-- ---- a cut divides a list

on_one_side : (has under : Bool) → one_if (has && not under) + one_if (has && under) ≡ one_if has
on_one_side true true = refl
on_one_side true false = refl
on_one_side false true = refl
on_one_side false false = refl

sides : (test : ℕ → Bool) (vs : List ℕ) (vid : ℕ) → one_if (is_one (filter (λ v. not (test v)) vs) vid) + one_if (is_one (filter test vs) vid) ≡ one_if (is_one vs vid)
sides test vs vid =
    (λ i. one_if (one_filter (λ v. not (test v)) vs vid i) + one_if (one_filter test vs vid i)) ∙ on_one_side (is_one vs vid) (test vid)

module _ (tree : VersionTree) (p q : ℕ) where
  leaves_with : (levels : ℕ) (part : List ℕ) (vid : ℕ) → lists_with vid (leaves (cuts_within levels tree p q part)) ≡ one_if (is_one part vid)
  unfolding cuts_within
  leaves_with zero part vid = omega arith
  leaves_with (suc levels) part vid =
      elim (next_cut_of tree p q part) as (λ o. lists_with vid (leaves (elim o as (λ _. Cuts) [
        | None ↦ whole part
        | Some at ↦ cut at (cuts_within levels tree p q (upper tree at part)) (cuts_within levels tree p q (lower tree at part))
      ])) ≡ one_if (is_one part vid)) [
        | None ↦ omega arith
        | Some at ↦ omega (
          arith,
          with_both vid (leaves (cuts_within levels tree p q (upper tree at part))) (leaves (cuts_within levels tree p q (lower tree at part))),
          leaves_with levels (upper tree at part) vid,
          leaves_with levels (lower tree at part) vid,
          sides (λ version. is_under tree at version) part vid,
        )
      ]

  -- a test that holds of any part of a list, if of the list
  leaves_pass : (test : List ℕ → Bool) → ((keep : ℕ → Bool) (vs : List ℕ) → test vs ≡ true → test (filter keep vs) ≡ true) → (levels : ℕ) (part : List ℕ) → test part ≡ true
      → list_all test (leaves (cuts_within levels tree p q part)) ≡ true
  unfolding cuts_within
  leaves_pass test on zero part is = and_from (test part) true is refl
  leaves_pass test on (suc levels) part is =
      elim (next_cut_of tree p q part) as (λ o. list_all test (leaves (elim o as (λ _. Cuts) [
        | None ↦ whole part
        | Some at ↦ cut at (cuts_within levels tree p q (upper tree at part)) (cuts_within levels tree p q (lower tree at part))
      ])) ≡ true) [
        | None ↦ and_from (test part) true is refl
        | Some at ↦ all_both test (leaves (cuts_within levels tree p q (upper tree at part))) (leaves (cuts_within levels tree p q (lower tree at part)))
            (leaves_pass test on levels (upper tree at part) (on (λ version. not (is_under tree at version)) part is))
            (leaves_pass test on levels (lower tree at part) (on (λ version. is_under tree at version) part is))
      ]

-- ---- in the order of their first versions, without the empty ones

abbrev of_key : ℕ → List (List ℕ) → List (List ℕ)
of_key k parts = filter (λ part. first_of part == k) parts

abbrev keyed : ℕ → ℕ → List (List ℕ) → List (List ℕ)
keyed from count parts = in_order first_of (range_with_len from count) parts

order_pass : (test : List ℕ → Bool) (keys : List ℕ) (parts : List (List ℕ)) → list_all test parts ≡ true → list_all test (in_order first_of keys parts) ≡ true
order_pass test [] parts all = refl
order_pass test (k ∷ keys) parts all =
    all_both test (of_key k parts) (in_order first_of keys parts) (all_filter test (λ part. first_of part == k) parts all) (order_pass test keys parts all)

abbrev pub is_some : List ℕ → Bool
is_some part = not (length part == 0)

first_some : (k : ℕ) (part : List ℕ) → 1 ≤ k → (first_of part == k) ≡ true → is_some part ≡ true
first_some k [] low is = absurd (let e = eqb-true 0 k is in omega (arith, e, low))
first_some k (v ∷ part) low is = ap not (ne_eqb (length (v ∷ part)) 0 (λ e. absurd (omega (arith, e))))

key_some : (k : ℕ) (parts : List (List ℕ)) → 1 ≤ k → list_all is_some (of_key k parts) ≡ true
key_some k [] low = refl
key_some k (part ∷ parts) low =
    elim (cases_Bool (first_of part == k)) [
      | inl e ↦ rw e (and_from (is_some part) (list_all is_some (of_key k parts)) (first_some k part low e) (key_some k parts low))
      | inr e ↦ rw e (key_some k parts low)
    ]

keyed_some : (from count : ℕ) (parts : List (List ℕ)) → 1 ≤ from → list_all is_some (keyed from count parts) ≡ true
keyed_some from zero parts low = refl
keyed_some from (suc count) parts low =
    all_both is_some (of_key from parts) (keyed (from + 1) count parts) (key_some from parts low) (keyed_some (from + 1) count parts (omega (arith, low)))

-- past its first version a list changes nothing
past_key : (part : List ℕ) (parts : List (List ℕ)) (from count : ℕ) → first_of part < from → keyed from count (part ∷ parts) ≡ keyed from count parts
past_key part parts from zero low = refl
past_key part parts from (suc count) low =
    let other : (first_of part == from) ≡ false = ne_eqb (first_of part) from (λ e. absurd (omega (arith, e, low)))
    in rw other (ap (λ (ps : List (List ℕ)). of_key from parts ++ ps) (past_key part parts (from + 1) count (omega (arith, low))))

key_yes : (vid k : ℕ) (part : List ℕ) (parts : List (List ℕ)) → (first_of part == k) ≡ true → lists_with vid (of_key k (part ∷ parts)) ≡ one_if (is_one part vid) + lists_with vid (of_key k parts)
key_yes vid k part parts e = rw e (with_cons vid part (of_key k parts))

key_no : (vid k : ℕ) (part : List ℕ) (parts : List (List ℕ)) → (first_of part == k) ≡ false → lists_with vid (of_key k (part ∷ parts)) ≡ lists_with vid (of_key k parts)
key_no vid k part parts e = rw e refl

above : (from first : ℕ) → from ≤ first → (first == from) ≡ false → from + 1 ≤ first
above from first low other = grind (arith, low, other)

put_key : (vid : ℕ) (part : List ℕ) (parts : List (List ℕ)) (from count : ℕ) → from ≤ first_of part → first_of part < from + count
    → lists_with vid (keyed from count (part ∷ parts)) ≡ one_if (is_one part vid) + lists_with vid (keyed from count parts)
put_key vid part parts from zero low high = absurd (omega (arith, low, high))
put_key vid part parts from (suc count) low high =
    let now = with_both vid (of_key from (part ∷ parts)) (keyed (from + 1) count (part ∷ parts))
    in let was = with_both vid (of_key from parts) (keyed (from + 1) count parts)
    in elim (cases_Bool (first_of part == from)) [
      | inl e ↦
          let is : first_of part ≡ from = eqb-true (first_of part) from e
          in let rest = ap (lists_with vid) (past_key part parts (from + 1) count (omega (arith, is)))
          in omega (arith, now, was, key_yes vid from part parts e, rest)
      | inr e ↦
          let rest = put_key vid part parts (from + 1) count (above from (first_of part) low e) (omega (arith, high))
          in omega (arith, now, was, key_no vid from part parts e, rest)
    ]

-- a list within 1 and count is found at its first version, and the empty one has no version
order_one : (vid count : ℕ) (part : List ℕ) (parts : List (List ℕ)) → are_there count part ≡ true → lists_with vid (keyed 1 count (part ∷ parts)) ≡ one_if (is_one part vid) + lists_with vid (keyed 1 count parts)
order_one vid count [] parts there =
    let none : one_if (is_one [] vid) ≡ 0 = refl
    in omega (arith, none, ap (lists_with vid) (past_key [] parts 1 count (omega arith)))
order_one vid count (v ∷ part) parts there =
    let both = and_parts (ascend_from 1 (v ∷ part)) (list_all (λ n. nat_le n count) (v ∷ part)) there
    in let low = leb-true 1 v (and_parts (nat_le 1 v) (ascend_from (v + 1) part) both.0).0
    in let high = leb-true v count (and_parts (nat_le v count) (list_all (λ n. nat_le n count) part) both.1).0
    in put_key vid (v ∷ part) parts 1 count low (omega (arith, high))

order_with : (vid count : ℕ) (parts : List (List ℕ)) → list_all (are_there count) parts ≡ true → lists_with vid (keyed 1 count parts) ≡ lists_with vid parts
order_with vid count [] there = none 1 count
  where
    none : (from n : ℕ) → lists_with vid (keyed from n []) ≡ 0
    none from zero = refl
    none from (suc n) = none (from + 1) n
order_with vid count (part ∷ parts) there =
    let both = and_parts (are_there count part) (list_all (are_there count) parts) there
    in omega (arith, order_one vid count part parts both.0, order_with vid count parts both.1, with_cons vid part parts)

-- ---- of all versions

range_ascends : (least from count : ℕ) → least ≤ from → ascend_from least (range_with_len from count) ≡ true
range_ascends least from zero low = refl
range_ascends least from (suc count) low =
    and_from (nat_le least from) (ascend_from (from + 1) (range_with_len (from + 1) count)) (le-leb least from low) (range_ascends (from + 1) (from + 1) count (omega arith))

range_within : (most from count : ℕ) → from + count ≤ most + 1 → list_all (λ n. nat_le n most) (range_with_len from count) ≡ true
range_within most from zero high = refl
range_within most from (suc count) high =
    and_from (nat_le from most) (list_all (λ n. nat_le n most) (range_with_len (from + 1) count)) (le-leb from most (omega (arith, high))) (range_within most (from + 1) count (omega (arith, high)))

range_has : (from count vid : ℕ) → from ≤ vid → vid < from + count → is_one (range_with_len from count) vid ≡ true
range_has from zero vid low high = absurd (omega (arith, low, high))
range_has from (suc count) vid low high =
    elim (cases_Bool (from == vid)) [
      | inl e ↦ rw e refl
      | inr e ↦ rw e (range_has (from + 1) count vid (past from vid low e) (omega (arith, high)))
    ]
  where
    past : (a b : ℕ) → a ≤ b → (a == b) ≡ false → a + 1 ≤ b
    past a b low other = grind (arith, low, other)

there_filter : (count : ℕ) (keep : ℕ → Bool) (vs : List ℕ) → are_there count vs ≡ true → are_there count (filter keep vs) ≡ true
there_filter count keep vs there =
    let both = and_parts (ascend_from 1 vs) (list_all (λ n. nat_le n count) vs) there
    in and_from _ _ (ascend_filter keep 1 vs both.0) (all_filter (λ n. nat_le n count) keep vs both.1)

pub record AreSplit (count : ℕ) (parts : List (List ℕ)) : Type 0 where
  pub some : list_all is_some parts ≡ true
  pub there : list_all (are_there count) parts ≡ true
  pub once : (vid : ℕ) → 1 ≤ vid → vid ≤ count → lists_with vid parts ≡ 1

pub split_parts : (nodes : List Node) (p q : ℕ) → AreSplit (length nodes) (parts_of nodes p q)
unfolding cuts_of
split_parts nodes p q =
    let count : ℕ = length nodes
    in let all : are_there count (vids count) ≡ true = and_from _ _ (range_ascends 1 1 count (omega arith)) (range_within count 1 count (omega arith))
    in let pieces : List (List ℕ) = leaves (cuts_of (tree_of nodes) p q (vids count))
    in let within : list_all (are_there count) pieces ≡ true = leaves_pass (tree_of nodes) p q (are_there count) (there_filter count) (length (vids count)) (vids count) all
    in record {
      some = keyed_some 1 count pieces (omega arith);
      there = order_pass (are_there count) (vids count) pieces within;
      once = λ vid low high.
          order_with vid count pieces within ∙ leaves_with (tree_of nodes) p q (length (vids count)) (vids count) vid
          ∙ ap one_if (range_has 1 count vid low (omega (arith, high)));
    }
