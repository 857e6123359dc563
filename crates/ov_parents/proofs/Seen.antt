-- One record more that is looked at, beside those that were seen.
use Rattle.std.proofs.Common.{◌≡◌, ◌<◌, ℕ, zero, suc, ◌+◌, Bool, true, false, ◌==◌, List, [], ◌∷◌, ◌++◌, length, get_or, take, drop, cond, BTreeMap, refl, sym, ◌∙◌, ap, subst, inl, inr, arith, append_assoc}
use Rattle.std.specs.Prelude.{None, Some}
use Rattle.std.specs.List.{All}
use Rattle.std.specs.BTreeMap.{get, Updates}
use Rattle.std.specs.Cmp.{unsigned_tied}
use Rattle.std.specs.Option.{option_map}
use Rattle.std.specs.Ordering.{nat_cmp}
use Rattle.std.proofs.lemmas.Bool.{eqb-true, eqb-false}
use Rattle.std.proofs.lemmas.List.{append-nil, drop_more, map-append, take_more, take-append-drop}
use Rattle.std.proofs.lemmas.List.Elements.{All-head, All-tail}
use Rattle.std.proofs.lemmas.Option.{same_Some}
use Rattle.ov_value.specs.Rows.{Fits}
use Rattle.ov_value.specs.Shapes.{Shape}
use Rattle.ov_segment.specs.declared.numbered.Record.{Record}
use Rattle.ov_model.specs.Book.{Row}
use Rattle.ov_model.specs.Lists.{IsIn, joined}
use Rattle.ov_model.specs.Placed.{times}
use Rattle.ov_model.specs.Records.{is_same_row}
use Rattle.ov_model.proofs.Counting.{one_same, times-append}
use Rattle.ov_model.proofs.Growing.{same_row-refl}
use Rattle.ov_records.specs.Records.{lists_of, pairs_of, RowsFit}
use Rattle.ov_catalog.proofs.Members.{left_in, right_in, of_append}
use Rattle.law_commits.specs.Differing.{rids_of, HasNoRidTwice, IsFirstDisagreeing, NoneDiffer, Clash}
use Rattle.ov_parents.specs.Seeing.{Maps, PairsFit}
use Rattle.law_commits.proofs.Times.{in_times, pairs_rid}

module _ {V : Type 0} (entry : V → Row) where
  -- a rid is mapped to one row
  pub one_row : (m : BTreeMap ℕ V) (seen : List (ℕ × Row)) → Maps entry m seen → NoneDiffer seen
  one_row m seen maps = λ a b in_a in_b same.
      let rows : a.1 ≡ b.1 =
      same_Some a.1 b.1 (sym ((maps a.0 a.1).1 in_a) ∙ ap (λ rid. option_map entry (get nat_cmp m rid)) same ∙ (maps b.0 b.1).1 in_b)
      in ap (is_same_row a.1) (sym rows) ∙ same_row-refl a.1

  module _ (m n : BTreeMap ℕ V) (seen : List (ℕ × Row)) (rid : ℕ) (v : V) (maps : Maps entry m seen) (updates : Updates nat_cmp m n rid (Some v))
      (alike : (row : Row) → option_map entry (get nat_cmp m rid) ≡ Some row → row ≡ entry v) where
    abbrev more : List (ℕ × Row)
    more = (rid, entry v) ∷ []

    there : (q : ℕ) (row : Row) (t : Bool) → (rid == q) ≡ t → option_map entry (cond t (Some v) (get nat_cmp m q)) ≡ Some row → IsIn (seen ++ more) (q, row)
    there q row true same e = right_in seen more (q, row) (inl (λ i. (sym (eqb-true rid q same) i, sym (same_Some (entry v) row e) i)))
    there q row false other e = left_in seen more (q, row) ((maps q row).0 e)

    back : (q : ℕ) (row : Row) (t : Bool) → (rid == q) ≡ t → IsIn (seen ++ more) (q, row) → option_map entry (cond t (Some v) (get nat_cmp m q)) ≡ Some row
    back q row true same is =
        elim (of_append seen more (q, row) is) [
          | inl old ↦ ap Some (sym (alike row (ap (λ x. option_map entry (get nat_cmp m x)) (eqb-true rid q same) ∙ (maps q row).1 old)))
          | inr new ↦ ap Some (last new)
        ]
      where
        last : IsIn more (q, row) → entry v ≡ row
        last (inl e) = sym (ap (λ (p : ℕ × Row). p.1) e)
        last (inr none) = absurd none
    back q row false other is =
        elim (of_append seen more (q, row) is) [
          | inl old ↦ (maps q row).1 old
          | inr new ↦ absurd (last new)
        ]
      where
        last : IsIn more (q, row) → ⊥
        last (inl e) = eqb-false rid q other (sym (ap (λ (p : ℕ × Row). p.0) e))
        last (inr none) = none

    at : (q : ℕ) → option_map entry (get nat_cmp n q) ≡ option_map entry (cond (rid == q) (Some v) (get nat_cmp m q))
    at q = ap (option_map entry) (updates.0 q ∙ ap (λ t. cond t (Some v) (get nat_cmp m q)) (unsigned_tied rid q))

    pub maps_more : Maps entry n (seen ++ (rid, entry v) ∷ [])
    maps_more q row = (λ e. there q row (rid == q) refl (sym (at q) ∙ e), λ is. at q ∙ back q row (rid == q) refl is)

module _ (records : List Record) (k : ℕ) (r : Record) (low : k < length records) (is : r ≡ get_or records k r) where
  split : records ≡ take k records ++ r ∷ drop (k + 1) records
  split = sym (take-append-drop k records) ∙ ap (λ l. take k records ++ l) (drop_more records k r low ∙ ap (λ x. x ∷ drop (k + 1) records) (sym is))

  -- the records before a place, and the one there
  pub pairs_more : (before : List (ℕ × Row)) → (before ++ pairs_of (take k records)) ++ (r.rid, r.row) ∷ [] ≡ before ++ pairs_of (take (k + 1) records)
  pairs_more before =
      append_assoc before (pairs_of (take k records)) ((r.rid, r.row) ∷ [])
      ∙ ap (λ l. before ++ l) (sym (ap pairs_of (take_more records k r low ∙ ap (λ x. take k records ++ x ∷ []) (sym is)) ∙ map-append (λ x. (x.rid, x.row)) (take k records) (r ∷ [])))

  pub here_in : IsIn (pairs_of records) (r.rid, r.row)
  here_in =
      subst (λ l. IsIn (pairs_of l) (r.rid, r.row)) (sym split)
      (subst (λ l. IsIn l (r.rid, r.row)) (sym (map-append (λ x. (x.rid, x.row)) (take k records) (r ∷ drop (k + 1) records)))
      (right_in (pairs_of (take k records)) (pairs_of (r ∷ drop (k + 1) records)) (r.rid, r.row) (inl refl)))

  none_before : HasNoRidTwice records → (row : Row) → IsIn (pairs_of (take k records)) (r.rid, row) → ⊥
  none_before once row before =
      let parts : rids_of records ≡ rids_of (take k records) ++ rids_of (r ∷ drop (k + 1) records) = ap rids_of split ∙ map-append (λ x. x.rid) (take k records) (r ∷ drop (k + 1) records)
      in omega (
        arith,
        once r.rid,
        ap (λ l. times l r.rid) parts,
        times-append (rids_of (take k records)) (rids_of (r ∷ drop (k + 1) records)) r.rid,
        in_times (rids_of (take k records)) r.rid (pairs_rid (take k records) (r.rid, row) before),
        one_same r.rid r.rid refl,
      )

  -- a rid that was seen before these records with another row
  pub clash : HasNoRidTwice records → (before : List (ℕ × Row)) (old : Row) → IsIn (before ++ pairs_of (take k records)) (r.rid, old) → is_same_row old r.row ≡ false
      → Clash before (pairs_of records)
  clash once before old seen differ =
      elim (of_append before (pairs_of (take k records)) (r.rid, old) seen) [
        | inl was ↦ record { rid = r.rid; before = old; after = r.row; was = was; is = here_in; differ = differ }
        | inr own ↦ absurd (none_before once old own)
      ]

-- ---- rows that fit

pub records_fit : (schema : Shape) (records : List Record) → RowsFit schema records → PairsFit schema (pairs_of records)
records_fit schema [] fit rid row is = absurd is
records_fit schema (r ∷ records) fit rid row (inl same) = subst (Fits schema) (sym (ap (λ (p : ℕ × Row). p.1) same)) (fit 0 r.row (omega arith))
records_fit schema (r ∷ records) fit rid row (inr later) = records_fit schema records (λ k d lt. fit (suc k) d (omega (arith, lt))) rid row later

both_fit : (schema : Shape) (xs ys : List (ℕ × Row)) → PairsFit schema xs → PairsFit schema ys → PairsFit schema (xs ++ ys)
both_fit schema xs ys fit more rid row is = elim (of_append xs ys (rid, row) is) [ inl here ↦ fit rid row here | inr later ↦ more rid row later ]

pub first_fit : (schema : Shape) (n : ℕ) (records : List Record) → RowsFit schema records → PairsFit schema (pairs_of (take n records))
first_fit schema zero records fit rid row is = absurd is
first_fit schema (suc n) [] fit rid row is = absurd is
first_fit schema (suc n) (r ∷ records) fit rid row (inl same) = subst (Fits schema) (sym (ap (λ (p : ℕ × Row). p.1) same)) (fit 0 r.row (omega arith))
first_fit schema (suc n) (r ∷ records) fit rid row (inr later) = first_fit schema n records (λ k d lt. fit (suc k) d (omega (arith, lt))) rid row later

pub seen_fit : (schema : Shape) (before : List (ℕ × Row)) (n : ℕ) (records : List Record) → PairsFit schema before → RowsFit schema records → PairsFit schema (before ++ pairs_of (take n records))
seen_fit schema before n records fit more = both_fit schema before (pairs_of (take n records)) fit (first_fit schema n records more)

pub joined_fit : (schema : Shape) (n : ℕ) (parents : List (List Record)) → All (RowsFit schema) parents → PairsFit schema (joined (take n (lists_of parents)))
joined_fit schema zero parents fit rid row is = absurd is
joined_fit schema (suc n) [] fit rid row is = absurd is
joined_fit schema (suc n) (p ∷ parents) fit rid row is =
    both_fit schema (pairs_of p) (joined (take n (lists_of parents))) (records_fit schema p (All-head (RowsFit schema) p parents fit))
    (joined_fit schema n parents (All-tail (RowsFit schema) p parents fit)) rid row is

-- ---- a parent alone

pub one_alone : (records : List Record) → HasNoRidTwice records → NoneDiffer (pairs_of records)
one_alone [] once a b in_a in_b same = absurd in_a
one_alone (r ∷ records) once a b (inl is_a) (inl is_b) same =
    ap (λ (p : ℕ × Row). is_same_row p.1 b.1) (is_a ∙ sym is_b) ∙ same_row-refl b.1
one_alone (r ∷ records) once a b (inl is_a) (inr in_b) same =
    absurd (omega (arith, once r.rid, one_same r.rid r.rid refl, in_times (rids_of records) r.rid (subst (IsIn (rids_of records)) (sym same ∙ ap (λ (p : ℕ × Row). p.0) is_a) (pairs_rid records b in_b))))
one_alone (r ∷ records) once a b (inr in_a) (inl is_b) same =
    absurd (omega (arith, once r.rid, one_same r.rid r.rid refl, in_times (rids_of records) r.rid (subst (IsIn (rids_of records)) (same ∙ ap (λ (p : ℕ × Row). p.0) is_b) (pairs_rid records a in_a))))
one_alone (r ∷ records) once a b (inr in_a) (inr in_b) same = one_alone records (λ rid. omega (arith, once rid)) a b in_a in_b same

pub few_agree : (parents : List (List Record)) → length parents < 2 → All HasNoRidTwice parents → IsFirstDisagreeing (lists_of parents) None
few_agree [] few once = λ a b in_a in_b same. absurd in_a
few_agree (p ∷ []) few once = subst NoneDiffer (sym (append-nil (pairs_of p))) (one_alone p (All-head HasNoRidTwice p [] once))
few_agree (p ∷ q ∷ parents) few once = absurd (omega (arith, few))
