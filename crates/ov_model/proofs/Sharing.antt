-- The weights and the fresh records of a commit, by the rids that it gives.
use Rattle.std.proofs.Common.{◌≡◌, ◌≤◌, ℕ, suc, ◌+◌, ◌-◌, Bool, true, false, ◌==◌, List, [], ◌∷◌, ◌++◌, length, map, filter, refl, sym, ◌∙◌, ap, subst, inl, inr, arith}
use Rattle.std.specs.Prelude.{◌||◌, Option, Some, None, if◌then◌else◌}
use Rattle.std.specs.Option.{option_map}
use Rattle.std.proofs.lemmas.List.Sums.{length-filter}
use Rattle.std.proofs.lemmas.Bool.{cond-true, eqb-true, eq-eqb, ne_eqb}
use Rattle.ov_value.specs.Rows.{key_cmp}
use Rattle.ov_value.specs.Shapes.{Shape}
use Rattle.ov_model.specs.Assigned.{next_after, assigned, fresh_rows, stored, stored_parents, has_rid, shared_with}
use Rattle.ov_model.specs.Book.{Row, Version}
use Rattle.ov_model.specs.Lists.{IsIn, AreIn, AllAreIn, Rises}
use Rattle.ov_model.specs.Records.{Rec, is_same_rec, is_among, origin_by, of_version, or_own, record_of, records_of, recs, fresh_in, order_of, rid_in, weight}
use Rattle.ov_model.proofs.Assigning.{assigned_is, rid_by_is}
use Rattle.ov_model.proofs.Growing.{same_rec-refl, recs_more, order_of_more, rid_more, length_recs}
use Rattle.ov_model.proofs.Holds.{same_recs, at_known}
use Rattle.ov_model.proofs.Origins.{all_known}
use Rattle.ov_model.proofs.Own.{AllBelow, recs_below, by_below}
use Rattle.ov_model.proofs.Widening.{same_bool}

-- a rid is one record's
rid_some : (xs : List Rec) (r : Rec) → 1 ≤ rid_in xs r
rid_some [] r = omega arith
rid_some (x ∷ xs) r = some_if (is_same_rec r x) (rid_in xs r)
  where
    some_if : (t : Bool) (n : ℕ) → 1 ≤ (if t then 1 else n + 1)
    some_if true n = omega arith
    some_if false n = omega arith

same_if : (t u : Bool) (r q x : Rec) (n m : ℕ) → (t ≡ true → r ≡ x) → (u ≡ true → q ≡ x) → 1 ≤ n → 1 ≤ m → (n ≡ m → r ≡ q) → (if t then 1 else n + 1) ≡ (if u then 1 else m + 1) → r ≡ q
same_if true true r q x n m one two some other later e = one refl ∙ sym (two refl)
same_if true false r q x n m one two some other later e = absurd (omega (arith, other, e))
same_if false true r q x n m one two some other later e = absurd (omega (arith, some, e))
same_if false false r q x n m one two some other later e = later (omega (arith, e))

-- of records that are there
place_same : (xs : List Rec) (r q : Rec) → IsIn xs r → IsIn xs q → rid_in xs r ≡ rid_in xs q → r ≡ q
place_same [] r q is there e = absurd is
place_same (x ∷ xs) r q (inl a) (inl b) e = a ∙ sym b
place_same (x ∷ xs) r q (inl a) (inr b) e =
    let first : rid_in (x ∷ xs) r ≡ 1 = cond-true (is_same_rec r x) 1 (rid_in xs r + 1) (ap (is_same_rec r) (sym a) ∙ same_rec-refl r)
    in first_only (is_same_rec q x) (rid_in xs q) (λ t. a ∙ sym (same_recs q x t)) (rid_some xs q) (sym e ∙ first)
  where
    first_only : (u : Bool) (m : ℕ) → (u ≡ true → r ≡ q) → 1 ≤ m → (if u then 1 else m + 1) ≡ 1 → r ≡ q
    first_only true m is some f = is refl
    first_only false m is some f = absurd (omega (arith, some, f))
place_same (x ∷ xs) r q (inr a) (inl b) e =
    let first : rid_in (x ∷ xs) q ≡ 1 = cond-true (is_same_rec q x) 1 (rid_in xs q + 1) (ap (is_same_rec q) (sym b) ∙ same_rec-refl q)
    in first_only (is_same_rec r x) (rid_in xs r) (λ t. same_recs r x t ∙ sym b) (rid_some xs r) (e ∙ first)
  where
    first_only : (u : Bool) (m : ℕ) → (u ≡ true → r ≡ q) → 1 ≤ m → (if u then 1 else m + 1) ≡ 1 → r ≡ q
    first_only true m is some f = is refl
    first_only false m is some f = absurd (omega (arith, some, f))
place_same (x ∷ xs) r q (inr a) (inr b) e =
    same_if (is_same_rec r x) (is_same_rec q x) r q x (rid_in xs r) (rid_in xs q) (same_recs r x) (same_recs q x) (rid_some xs r) (rid_some xs q) (place_same xs r q a b) e

-- a rid is among a parent's where its record is among the parent's
or_same : (a b c d : Bool) → a ≡ c → b ≡ d → (a || b) ≡ (c || d)
or_same a b c d e f = λ i. e i || f i

module _ (all : List Rec) where
  has_same : (rs : List Rec) (r : Rec) → IsIn all r → AreIn rs all → has_rid (stored rs all) (rid_in all r) ≡ is_among rs r
  has_same [] r is are = refl
  has_same (x ∷ rs) r is are =
      or_same (rid_in all x == rid_in all r) (has_rid (stored rs all) (rid_in all r)) (is_same_rec r x) (is_among rs r)
      (same_bool (rid_in all x == rid_in all r) (is_same_rec r x)
      (λ t. ap (is_same_rec r) (place_same all x r are.0 is (eqb-true (rid_in all x) (rid_in all r) t)) ∙ same_rec-refl r)
      (λ t. eq-eqb (rid_in all x) (rid_in all r) (ap (rid_in all) (sym (same_recs r x t)))))
      (has_same rs r is are.1)

  count_if : (t u : Bool) (rid : ℕ) (r : Rec) (rids : List ℕ) (rs : List Rec) → t ≡ u → length rids ≡ length rs
      → length (if t then rid ∷ rids else rids) ≡ length (if u then r ∷ rs else rs)
  count_if true true rid r rids rs e same = ap (λ n. suc n) same
  count_if true false rid r rids rs e same = cc
  count_if false true rid r rids rs e same = cc
  count_if false false rid r rids rs e same = same

  shared_same : (rs parent : List Rec) → AreIn rs all → AreIn parent all → shared_with (map (rid_in all) rs) (stored parent all) ≡ length (filter (is_among parent) rs)
  shared_same [] parent are known = refl
  shared_same (r ∷ rs) parent are known =
      count_if (has_rid (stored parent all) (rid_in all r)) (is_among parent r) (rid_in all r) r
      (filter (has_rid (stored parent all)) (map (rid_in all) rs)) (filter (is_among parent) rs)
      (has_same parent r are.0 known) (shared_same rs parent are.1 known)

-- a parent's rids stay as the version comes
stored_more : (rs all more : List Rec) → AreIn rs all → stored rs (all ++ more) ≡ stored rs all
stored_more [] all more are = refl
stored_more (r ∷ rs) all more are = λ i. (rid_more all more r are.0 i, r.row) ∷ stored_more rs all more are.1 i

are_more : (rs all more : List Rec) → AreIn rs all → AreIn rs (all ++ more)
are_more [] all more are = tt
are_more (r ∷ rs) all more are = (in_left all more r are.0, are_more rs all more are.1)
  where
    in_left : (xs ys : List Rec) (x : Rec) → IsIn xs x → IsIn (xs ++ ys) x
    in_left [] ys x is = absurd is
    in_left (y ∷ xs) ys x (inl same) = inl same
    in_left (y ∷ xs) ys x (inr later) = inr (in_left xs ys x later)

last_known : (done : List (List Rec)) (l all : List Rec) → AllAreIn (done ++ l ∷ []) all → AreIn l all
last_known [] l all are = are.0
last_known (x ∷ done) l all are = last_known done l all are.1

pub weight_is : (schema : Shape) (vs : List Version) (v : Version) (p : ℕ) → Rises (key_cmp schema) v.rows
    → shared_with (assigned v.rows (stored_parents v.parents (recs vs []) (order_of vs)) (length (order_of vs) + 1)) (stored (of_version (recs vs []) p) (order_of vs))
    ≡ weight (records_of v (recs vs [])) (of_version (recs vs []) p)
weight_is schema vs v p rises =
    let done : List (List Rec) = recs vs []
    in let ours : List Rec = records_of v done
    in let old : List Rec = order_of vs
    in let more : List Rec = fresh_in ours (1 + length done)
    in let all : List Rec = old ++ more
    in let is_all : order_of (vs ++ v ∷ []) ≡ all = order_of_more vs v
    in let known : AreIn (of_version done p) old = at_known done (p - 1) old (all_known vs)
    in let own : AreIn ours all = subst (AreIn ours) is_all (last_known done ours (order_of (vs ++ v ∷ [])) (subst (λ rss. AllAreIn rss (order_of (vs ++ v ∷ []))) (recs_more vs v []) (all_known (vs ++ v ∷ []))))
    in ap (λ rids. shared_with rids (stored (of_version done p) old)) (assigned_is schema vs v rises ∙ ap (λ l. map (rid_in l) ours) is_all)
    ∙ ap (shared_with (map (rid_in all) ours)) (sym (stored_more (of_version done p) old more known))
    ∙ shared_same all ours (of_version done p) own (are_more (of_version done p) old more known)
    ∙ length-filter (is_among (of_version done p)) ours

-- ---- the fresh ones

fresh_if : (found : Option ℕ) (t : Bool) (r : Rec) (rest : List Rec) (n : ℕ) → (found ≡ None → t ≡ true) → ((o : ℕ) → found ≡ Some o → t ≡ false) → n ≡ length rest
    → next_after found n ≡ length (if t then r ∷ rest else rest)
fresh_if None true r rest n new old same = omega (arith, same)
fresh_if None false r rest n new old same = absurd (clash (sym (new refl)))
  where
    clash : true ≡ false → ⊥
    clash e = cc
fresh_if (Some o) true r rest n new old same = absurd (clash (old o refl))
  where
    clash : true ≡ false → ⊥
    clash e = cc
fresh_if (Some o) false r rest n new old same = same

after_mapped : (f : ℕ → ℕ) (found : Option ℕ) (n : ℕ) → next_after (option_map f found) n ≡ next_after found n
after_mapped f None n = refl
after_mapped f (Some o) n = refl

fresh_rows_are : (ps : List ℕ) (done : List (List Rec)) (all : List Rec) (rows : List Row) → AllBelow (length done) done
    → fresh_rows rows (stored_parents ps done all) ≡ length (fresh_in (map (record_of ps done) rows) (length done + 1))
fresh_rows_are ps done all [] low = refl
fresh_rows_are ps done all (row ∷ rows) low =
    ap (λ found. next_after found (fresh_rows rows (stored_parents ps done all))) (rid_by_is ps done all row)
    ∙ after_mapped (λ o. rid_in all (record { origin = o; row = row })) (origin_by ps done row) (fresh_rows rows (stored_parents ps done all))
    ∙ fresh_if (origin_by ps done row) ((record_of ps done row).origin == length done + 1) (record_of ps done row) (fresh_in (map (record_of ps done) rows) (length done + 1))
    (fresh_rows rows (stored_parents ps done all))
    (λ none. ap (λ found. or_own found (length done + 1) == length done + 1) none ∙ eq-eqb (length done + 1) (length done + 1) refl)
    (λ o some. ap (λ found. or_own found (length done + 1) == length done + 1) some ∙ ne_eqb o (length done + 1) (λ e. omega (arith, e, by_below (length done) ps done row o low some)))
    (fresh_rows_are ps done all rows low)

pub fresh_is : (vs : List Version) (v : Version) → fresh_rows v.rows (stored_parents v.parents (recs vs []) (order_of vs)) ≡ length (fresh_in (records_of v (recs vs [])) (length vs + 1))
fresh_is vs v =
    let number : 0 + length vs ≡ length (recs vs []) = sym (length_recs vs [])
    in fresh_rows_are v.parents (recs vs []) (order_of vs) v.rows (subst (λ n. AllBelow n (recs vs [])) number (recs_below vs [] tt))
    ∙ ap (λ n. length (fresh_in (records_of v (recs vs [])) n)) (omega (arith, number))
