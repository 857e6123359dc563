-- Records of a dataset's versions have one row for each rid; the heaviest edge is one of the edges.
use Rattle.std.proofs.Common.{◌≡◌, ◌≤◌, ℕ, suc, ◌+◌, ◌-◌, Bool, true, false, List, [], ◌∷◌, length, get_or, refl, sym, ◌∙◌, ap, subst, inl, inr, arith}
use Rattle.std.specs.Prelude.{◌≢◌, nat_lt, if◌then◌else◌}
use Rattle.std.specs.List.{zip}
use Rattle.std.proofs.lemmas.Bool.{cond-true, cond-false, cases_Bool, ltb-true}
use Rattle.ov_graph.specs.Versions.{heaviest}
use Rattle.ov_segment.specs.declared.numbered.Record.{Record}
use Rattle.ov_model.specs.Assigned.{stored, stored_parents}
use Rattle.ov_model.specs.Book.{Row, Version}
use Rattle.ov_model.specs.Lists.{IsIn, AreIn, AllAreIn, joined}
use Rattle.ov_model.specs.Records.{Rec, is_same_row, is_same_rec, of_version, recs, order_of, rid_in}
use Rattle.ov_model.proofs.Growing.{same_row-refl, same_rec-refl}
use Rattle.ov_model.proofs.Holds.{same_recs, at_known}
use Rattle.ov_model.proofs.Origins.{all_known}
use Rattle.ov_records.specs.Records.{lists_of}
use Rattle.ov_catalog.proofs.Members.{of_append, of_map}
use Rattle.law_commits.specs.Differing.{NoneDiffer}

-- ---- a rid is one record's

pub rid_some : (xs : List Rec) (r : Rec) → 1 ≤ rid_in xs r
rid_some [] r = omega arith
rid_some (x ∷ xs) r = some_if (is_same_rec r x) (rid_in xs r)
  where
    some_if : (t : Bool) (n : ℕ) → 1 ≤ (if t then 1 else n + 1)
    some_if true n = omega arith
    some_if false n = omega arith

pub in_tail : (x r : Rec) (xs : List Rec) → is_same_rec r x ≡ false → IsIn (x ∷ xs) r → IsIn xs r
in_tail x r xs other (inl same) = absurd (clash (sym (ap (is_same_rec r) (sym same) ∙ same_rec-refl r) ∙ other))
  where
    clash : true ≡ false → ⊥
    clash e = cc
in_tail x r xs other (inr later) = later

-- the record stands where its rid says
at_place : (xs : List Rec) (r d : Rec) → IsIn xs r → get_or xs (rid_in xs r - 1) d ≡ r
at_place [] r d is = absurd is
at_place (x ∷ xs) r d is = elim (cases_Bool (is_same_rec r x)) [
  | inl same ↦ ap (λ n. get_or (x ∷ xs) (n - 1) d) (cond-true (is_same_rec r x) 1 (rid_in xs r + 1) same) ∙ sym (same_recs r x same)
  | inr other ↦
      let some = rid_some xs r
      in let later : rid_in xs r + 1 - 1 ≡ suc (rid_in xs r - 1) = omega arith
      in ap (λ n. get_or (x ∷ xs) (n - 1) d) (cond-false (is_same_rec r x) 1 (rid_in xs r + 1) other)
      ∙ ap (λ n. get_or (x ∷ xs) n d) later
      ∙ at_place xs r d (in_tail x r xs other is)
]

pub one_record : (xs : List Rec) (r q : Rec) → IsIn xs r → IsIn xs q → rid_in xs r ≡ rid_in xs q → r ≡ q
one_record xs r q is there same = sym (at_place xs r r is) ∙ ap (λ n. get_or xs (n - 1) r) same ∙ at_place xs q r there

-- ---- stored records

pub are_at : (rs all : List Rec) (r : Rec) → AreIn rs all → IsIn rs r → IsIn all r
are_at [] all r are is = absurd is
are_at (x ∷ rs) all r are (inl same) = subst (IsIn all) (sym same) are.0
are_at (x ∷ rs) all r are (inr later) = are_at rs all r are.1 later

abbrev IsStored : List Rec → ℕ × Row → Type 0
IsStored all p = (r : Rec) × (IsIn all r × (p ≡ (rid_in all r, r.row)))

of_stored : (vids : List ℕ) (done : List (List Rec)) (all : List Rec) (p : ℕ × Row) → AllAreIn done all → IsIn (joined (stored_parents vids done all)) p → IsStored all p
of_stored [] done all p known is = absurd is
of_stored (vid ∷ vids) done all p known is =
    elim (of_append (stored (of_version done vid) all) (joined (stored_parents vids done all)) p is) [
      | inl here ↦
          let from : (r : Rec) × (IsIn (of_version done vid) r × (p ≡ (rid_in all r, r.row))) = of_map (λ r. (rid_in all r, r.row)) (of_version done vid) p here
          in (from.0, (are_at (of_version done vid) all from.0 (at_known done (vid - 1) all known) from.1.0, from.1.1))
      | inr later ↦ of_stored vids done all p known later
    ]

same_if : (all : List Rec) (a b : ℕ × Row) → IsStored all a → IsStored all b → a.0 ≡ b.0 → is_same_row a.1 b.1 ≡ true
same_if all a b from to same =
    let one : from.0 ≡ to.0 =
    one_record all from.0 to.0 from.1.0 to.1.0 (sym (ap (λ (p : ℕ × Row). p.0) from.1.1) ∙ same ∙ ap (λ (p : ℕ × Row). p.0) to.1.1)
    in let rows : a.1 ≡ b.1 = ap (λ (p : ℕ × Row). p.1) from.1.1 ∙ ap (λ (r : Rec). r.row) one ∙ sym (ap (λ (p : ℕ × Row). p.1) to.1.1)
    in ap (is_same_row a.1) (sym rows) ∙ same_row-refl a.1

pub versions_agree : (versions : List Version) (vids : List ℕ) (parents : List (List Record)) → lists_of parents ≡ stored_parents vids (recs versions []) (order_of versions)
    → NoneDiffer (joined (lists_of parents))
versions_agree versions vids parents are = λ a b in_a in_b same.
    same_if (order_of versions) a b
    (of_stored vids (recs versions []) (order_of versions) a (all_known versions) (subst (λ ls. IsIn (joined ls) a) are in_a))
    (of_stored vids (recs versions []) (order_of versions) b (all_known versions) (subst (λ ls. IsIn (joined ls) b) are in_b))
    same

-- ---- the heaviest edge

head_if : (t : Bool) (vid weight : ℕ) (other : ℕ × ℕ) (vids : List ℕ) → (t ≡ true → IsIn vids other.0) → IsIn (vid ∷ vids) (if t then other else (vid, weight)).0
head_if true vid weight other vids later = inr (later refl)
head_if false vid weight other vids later = inl refl

kept_vid : (vid weight : ℕ) (vids weights : List ℕ) → length weights ≡ length vids → IsIn (vid ∷ vids) (heaviest (zip (vid ∷ vids) (weight ∷ weights))).0
kept_vid vid weight [] weights same =
    head_if (nat_lt weight 0) vid weight (0, 0) [] (λ less. absurd (omega (arith, ltb-true weight 0 less)))
kept_vid vid weight (next ∷ vids) [] same = absurd (omega (arith, same))
kept_vid vid weight (next ∷ vids) (lighter ∷ weights) same =
    head_if (nat_lt weight (heaviest (zip (next ∷ vids) (lighter ∷ weights))).1) vid weight (heaviest (zip (next ∷ vids) (lighter ∷ weights))) (next ∷ vids)
    (λ less. kept_vid next lighter vids weights (omega (arith, same)))

pub tree_parent : (vids weights : List ℕ) → vids ≢ [] → length weights ≡ length vids → IsIn vids (heaviest (zip vids weights)).0
tree_parent [] weights some same = absurd (some refl)
tree_parent (vid ∷ vids) [] some same = absurd (omega (arith, same))
tree_parent (vid ∷ vids) (weight ∷ weights) some same = kept_vid vid weight vids weights (omega (arith, same))
