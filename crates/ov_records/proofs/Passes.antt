-- A row beside a parent's list in key order: which of the records before a place, and behind it, matter.
use Rattle.std.proofs.Common.{◌≡◌, ◌≢◌, ◌↔◌, ◌<◌, ◌≤◌, ℕ, zero, suc, ◌+◌, Bool, true, false, ◌==◌, List, [], ◌∷◌, length, get_or, take, drop, refl, sym, ◌∙◌, ap, subst, inl, inr, arith}
use Rattle.std.specs.Prelude.{◌||◌, ◌&&◌, IsTrue, Option, Some, None}
use Rattle.std.specs.Ordering.{is_lt, is_le, ordering_index, ordering_reverse}
use Rattle.std.specs.List.{All}
use Rattle.std.specs.BTreeMap.Comparable.{le_lt_trans}
use Rattle.std.specs.declared.cmp.Ordering.{Ordering}
use Rattle.std.specs.declared.cmp.Ordering.TheVariants.{Less, Equal, Greater}
use Rattle.std.proofs.lemmas.Bool.{cond-true, cond-false, cases_Bool, eqb-true, eq-eqb}
use Rattle.std.proofs.lemmas.Cmp.{tied_itself}
use Rattle.std.proofs.lemmas.List.{drop_more, drop_all, get_or-drop, get_or-map, get_or_default, length-drop, length-map}
use Rattle.std.proofs.lemmas.List.Elements.{All-more}
use Rattle.std.proofs.lemmas.List.MinMax.{ranks_by}
use Rattle.std.proofs.lemmas.List.Sorted.{sorted_far}
use Rattle.ov_value.specs.Order.{key_cmp_total}
use Rattle.ov_value.specs.Rows.{Fits, key_cmp}
use Rattle.ov_value.specs.Shapes.{Shape}
use Rattle.ov_segment.specs.declared.numbered.Record.{Record}
use Rattle.ov_model.specs.Assigned.{rid_of_row}
use Rattle.ov_model.specs.Book.{Row}
use Rattle.ov_model.specs.Records.{first_of, is_same_row}
use Rattle.ov_model.proofs.Growing.{same_row-refl}
use Rattle.ov_model.proofs.Origins.{same_row_is}
use Rattle.ov_model.proofs.Rids.{and_false-right}
use Rattle.ov_records.specs.Records.{pairs_of, has_record, InKeyOrder, RowsFit}
use Rattle.ov_records.specs.Passing.{AreBelow, AreNotAbove}
use Rattle.ov_records.specs.Found.{has_found, leaves_to}

-- ---- records with other rows

abbrev AreOther : Row → List Record → Type 0
AreOther row rs = All (λ r. is_same_row row r.row ≡ false) rs

rid_none : (row : Row) (rs : List Record) → AreOther row rs → rid_of_row (pairs_of rs) row ≡ None
rid_none row [] other = refl
rid_none row (r ∷ rs) other =
    cond-false (is_same_row row r.row) (Some (r.rid)) (rid_of_row (pairs_of rs) row) (other 0 r (omega arith))
    ∙ rid_none row rs (λ k d lt. other (suc k) d (omega (arith, lt)))

has_none : (row : Row) (rid : ℕ) (rs : List Record) → AreOther row rs → has_record (pairs_of rs) (rid, row) ≡ false
has_none row rid [] other = refl
has_none row rid (r ∷ rs) other =
    ap (λ b. b || has_record (pairs_of rs) (rid, row)) (and_false-right (r.rid == rid) (is_same_row row r.row) (other 0 r (omega arith)))
    ∙ has_none row rid rs (λ k d lt. other (suc k) d (omega (arith, lt)))

rid_past : (row : Row) (n : ℕ) (rs : List Record) → AreOther row (take n rs) → rid_of_row (pairs_of (drop n rs)) row ≡ rid_of_row (pairs_of rs) row
rid_past row zero rs other = refl
rid_past row (suc n) [] other = refl
rid_past row (suc n) (r ∷ rs) other =
    rid_past row n rs (λ k d lt. other (suc k) d (omega (arith, lt)))
    ∙ sym (cond-false (is_same_row row r.row) (Some (r.rid)) (rid_of_row (pairs_of rs) row) (other 0 r (omega arith)))

has_past : (row : Row) (rid n : ℕ) (rs : List Record) → AreOther row (take n rs) → has_record (pairs_of (drop n rs)) (rid, row) ≡ has_record (pairs_of rs) (rid, row)
has_past row rid zero rs other = refl
has_past row rid (suc n) [] other = refl
has_past row rid (suc n) (r ∷ rs) other =
    has_past row rid n rs (λ k d lt. other (suc k) d (omega (arith, lt)))
    ∙ ap (λ b. b || has_record (pairs_of rs) (rid, row)) (sym (and_false-right (r.rid == rid) (is_same_row row r.row) (other 0 r (omega arith))))

-- a record that stands behind a place stands in the list
has_behind : (p : ℕ × Row) (n : ℕ) (rs : List Record) → has_record (pairs_of (drop n rs)) p ≡ true → has_record (pairs_of rs) p ≡ true
has_behind p zero rs has = has
has_behind p (suc n) [] has = has
has_behind p (suc n) (r ∷ rs) has = or_right ((r.rid == p.0) && is_same_row p.1 r.row) (has_record (pairs_of rs) p) (has_behind p n rs has)
  where
    or_right : (a b : Bool) → b ≡ true → (a || b) ≡ true
    or_right true b e = refl
    or_right false b e = e

-- ---- keys below and above

same_key : (schema : Shape) (r row : Row) → is_same_row row r ≡ true → key_cmp schema r row ≡ Equal
same_key schema r row same = ap (λ x. key_cmp schema x row) (sym (same_row_is row r same)) ∙ tied_itself (key_cmp_total schema) row

below_other : (schema : Shape) (r row : Row) → key_cmp schema r row ≡ Less → is_same_row row r ≡ false
below_other schema r row less = elim (cases_Bool (is_same_row row r)) [
  | inl same ↦ absurd (clash (sym less ∙ same_key schema r row same))
  | inr other ↦ other
]
  where
    clash : Less ≡ Equal → ⊥
    clash e = cc

are_other : (schema : Shape) (row : Row) (rs : List Record) → AreBelow schema rs row → AreOther row rs
are_other schema row rs below = λ k d lt. below_other schema (get_or rs k d).row row (below k d lt)

not_greater : (o : Ordering) → o ≢ Greater → IsTrue (is_le o)
not_greater Less other = refl
not_greater Equal other = refl
not_greater Greater other = absurd (other refl)

pub below_later : (schema : Shape) (row later : Row) (rs : List Record) → AreNotAbove schema rs row → key_cmp schema row later ≡ Less → AreBelow schema rs later
below_later schema row later rs above less =
    λ k d lt. le_lt_trans (key_cmp_total schema) (get_or rs k d).row row later (not_greater (key_cmp schema (get_or rs k d).row row) (above k d lt)) less

-- ---- the records from a place on

abbrev pub none : Record
none = record { rid = 0; row = [] }

abbrev pub at : List Record → ℕ → Record
at rs place = get_or rs place none

pub fit_at : (schema : Shape) (rs : List Record) (place : ℕ) → RowsFit schema rs → place < length rs → Fits schema (at rs place).row
fit_at schema rs place fit lt =
    subst (Fits schema) (get_or-map (λ (r : Record). r.row) rs place none [] lt) (fit place [] (omega (arith, lt, length-map rs (λ (r : Record). r.row))))

-- records before the place don't matter for the row, and none has a key above the row's
pub record Looked (schema : Shape) (parent : List Record) (row : Row) (found : Option ℕ) (place : ℕ) : Type 0 where
  pub not_above : AreNotAbove schema (take place parent) row
  pub rid_left : first_of found (rid_of_row (pairs_of (drop place parent)) row) ≡ first_of found (rid_of_row (pairs_of parent) row)
  pub has_left : has_found (pairs_of (drop place parent)) found row ≡ has_found (pairs_of parent) found row

pub record Meets (parent : List Record) (row : Row) (found rid : Option ℕ) (shared : Bool) : Type 0 where
  pub rid_is : rid ≡ first_of found (rid_of_row (pairs_of parent) row)
  pub shared_is : shared ≡ has_found (pairs_of parent) rid row

not_greater_than : {o p : Ordering} → o ≡ p → p ≢ Greater → o ≢ Greater
not_greater_than e other greater = other (sym e ∙ greater)

pub looked_none : (schema : Shape) (parent : List Record) (row : Row) (found : Option ℕ) (place : ℕ) → AreBelow schema (take place parent) row → Looked schema parent row found place
looked_none schema parent row found place below = record {
  not_above = λ k d lt. not_greater_than (below k d lt) (λ e. cc);
  rid_left = ap (first_of found) (rid_past row place parent (are_other schema row (take place parent) below));
  has_left = by found;
}
  where
    by : (f : Option ℕ) → has_found (pairs_of (drop place parent)) f row ≡ has_found (pairs_of parent) f row
    by None = refl
    by (Some rid) = has_past row rid place parent (are_other schema row (take place parent) below)

pub looked_all : (schema : Shape) (parent : List Record) (row : Row) (found : Option ℕ) (place : ℕ) → length parent ≤ place → Looked schema parent row found place → Meets parent row found found false
looked_all schema parent row found place le looked =
    let nothing : drop place parent ≡ [] = drop_all place parent le in
    record {
      rid_is = by found ∙ sym (ap (λ l. first_of found (rid_of_row (pairs_of l) row)) nothing) ∙ looked.rid_left;
      shared_is = has found ∙ sym (ap (λ l. has_found (pairs_of l) found row) nothing) ∙ looked.has_left;
    }
  where
    by : (f : Option ℕ) → f ≡ first_of f None
    by None = refl
    by (Some rid) = refl

    has : (f : Option ℕ) → false ≡ has_found [] f row
    has None = refl
    has (Some rid) = refl

module _ (schema : Shape) (parent : List Record) (row : Row) (found : Option ℕ) (place : ℕ)
    (lt : place < length parent) (looked : Looked schema parent row found place) where
  abbrev one : Record
  one = at parent place

  here : drop place parent ≡ one ∷ drop (place + 1) parent
  here = drop_more parent place none lt

  not_above_more : key_cmp schema one.row row ≢ Greater → AreNotAbove schema (take (place + 1) parent) row
  not_above_more other = All-more (λ r. key_cmp schema r.row row ≢ Greater) parent place none lt looked.not_above other

  -- another row, whose key isn't above the row's
  pub looked_on : is_same_row row one.row ≡ false → key_cmp schema one.row row ≢ Greater → Looked schema parent row found (place + 1)
  looked_on other order = record {
    not_above = not_above_more order;
    rid_left =
        ap (first_of found)
        (sym (ap (λ l. rid_of_row (pairs_of l) row) here ∙ cond-false (is_same_row row one.row) (Some (one.rid)) (rid_of_row (pairs_of (drop (place + 1) parent)) row) other))
        ∙ looked.rid_left;
    has_left = by found looked.has_left;
  }
    where
      by : (f : Option ℕ) → has_found (pairs_of (drop place parent)) f row ≡ has_found (pairs_of parent) f row
          → has_found (pairs_of (drop (place + 1) parent)) f row ≡ has_found (pairs_of parent) f row
      by None left = refl
      by (Some rid) left =
          sym (ap (λ l. has_record (pairs_of l) (rid, row)) here
          ∙ ap (λ b. b || has_record (pairs_of (drop (place + 1) parent)) (rid, row)) (and_false-right (one.rid == rid) (is_same_row row one.row) other))
          ∙ left

  not_above_same : is_same_row row one.row ≡ true → AreNotAbove schema (take (place + 1) parent) row
  not_above_same same = not_above_more (not_greater_than (same_key schema one.row row same) (λ e. cc))

  -- the row under another rid than the one that was found
  pub looked_same : is_same_row row one.row ≡ true → leaves_to found one.rid ≡ false → Looked schema parent row found (place + 1)
  looked_same same other = by found other looked.has_left
    where
      by : (f : Option ℕ) → leaves_to f one.rid ≡ false → has_found (pairs_of (drop place parent)) f row ≡ has_found (pairs_of parent) f row → Looked schema parent row f (place + 1)
      by None e left = absurd cc
      by (Some rid) e left = record {
        not_above = not_above_same same;
        rid_left = refl;
        has_left =
            sym (ap (λ l. has_record (pairs_of l) (rid, row)) here
            ∙ ap (λ b. (b && is_same_row row one.row) || has_record (pairs_of (drop (place + 1) parent)) (rid, row)) e)
            ∙ left;
      }

  -- the row under the rid that it gets
  pub looked_found : is_same_row row one.row ≡ true → leaves_to found one.rid ≡ true → Meets parent row found (Some (one.rid)) true
  looked_found same leaves = record { rid_is = by found leaves looked.rid_left; shared_is = sym (has_behind (one.rid, row) place parent has) }
    where
      by : (f : Option ℕ) → leaves_to f one.rid ≡ true → first_of f (rid_of_row (pairs_of (drop place parent)) row) ≡ first_of f (rid_of_row (pairs_of parent) row)
          → Some (one.rid) ≡ first_of f (rid_of_row (pairs_of parent) row)
      by None e left =
          sym (ap (λ l. rid_of_row (pairs_of l) row) here ∙ cond-true (is_same_row row one.row) (Some (one.rid)) (rid_of_row (pairs_of (drop (place + 1) parent)) row) same)
          ∙ left
      by (Some rid) e left = ap Some (eqb-true one.rid rid e)

      both : (a b c : Bool) → a ≡ true → b ≡ true → ((a && b) || c) ≡ true
      both true true c e f = refl
      both true false c e f = absurd cc
      both false b c e f = absurd cc

      has : has_record (pairs_of (drop place parent)) (one.rid, row) ≡ true
      has =
          ap (λ l. has_record (pairs_of l) (one.rid, row)) here
          ∙ both (one.rid == one.rid) (is_same_row row one.row) (has_record (pairs_of (drop (place + 1) parent)) (one.rid, row)) (eq-eqb one.rid one.rid refl) same

  pub looked_up : is_same_row row one.row ≡ true → AreNotAbove schema (take (place + 1) parent) row
  looked_up = not_above_same

  -- a greater key
  above_other : (r : Row) → key_cmp schema one.row row ≡ Greater → is_lt (key_cmp schema r one.row) ≡ false → is_same_row row r ≡ false
  above_other r greater from = elim (cases_Bool (is_same_row row r)) [
    | inl same ↦
        let less : key_cmp schema row one.row ≡ Less = (key_cmp_total schema).antisymm row one.row ∙ ap (λ o. ordering_reverse o) greater in
        absurd (clash (sym (ap (λ y. is_lt (key_cmp schema y one.row)) (sym (same_row_is row r same)) ∙ ap is_lt less) ∙ from))
    | inr other ↦ other
  ]
    where
      clash : true ≡ false → ⊥
      clash e = cc

  others : InKeyOrder schema parent → key_cmp schema one.row row ≡ Greater → AreOther row (drop place parent)
  others sorted greater k d low =
      let found_at : get_or (drop place parent) k d ≡ get_or parent (place + k) d = get_or-drop place parent k d in
      let from = sorted_far (λ a b. is_lt (key_cmp schema a.row b.row)) (ranks_by (key_cmp_total schema) (λ x. x.row)) parent sorted place (place + k) d (omega arith) (omega (arith, low, lt, length-drop place parent)) in
      let first : get_or parent place d ≡ one = get_or_default parent place d none lt in
      subst (λ (x : Record). is_same_row row x.row ≡ false) (sym found_at)
      (above_other (get_or parent (place + k) d).row greater (subst (λ (x : Record). is_lt (key_cmp schema (get_or parent (place + k) d).row x.row) ≡ false) first from))

  pub looked_above : InKeyOrder schema parent → key_cmp schema one.row row ≡ Greater → Meets parent row found found false
  looked_above sorted greater = record {
    rid_is = by found ∙ ap (first_of found) (sym (rid_none row (drop place parent) (others sorted greater))) ∙ looked.rid_left;
    shared_is = has found ∙ looked.has_left;
  }
    where
      by : (f : Option ℕ) → f ≡ first_of f None
      by None = refl
      by (Some rid) = refl

      has : (f : Option ℕ) → false ≡ has_found (pairs_of (drop place parent)) f row
      has None = refl
      has (Some rid) = sym (has_none row rid (drop place parent) (others sorted greater))

-- ---- a test of two rows

pub same_test : (t : Bool) (a b : Row) → IsTrue t ↔ (a ≡ b) → t ≡ is_same_row a b
same_test true a b iff = sym (ap (λ x. is_same_row a x) (sym (iff.0 refl)) ∙ same_row-refl a)
same_test false a b iff = elim (cases_Bool (is_same_row a b)) [
  | inl same ↦ iff.1 (same_row_is a b same) ∙ sym same
  | inr other ↦ sym other
]

-- ---- a test of two keys

pub is_greater : (o : Ordering) (t : Bool) → t ≡ (ordering_index o == 2) → t ≡ true → o ≡ Greater
is_greater Less t is e = absurd (clash (sym is ∙ e))
  where
    clash : false ≡ true → ⊥
    clash e = cc
is_greater Equal t is e = absurd (clash (sym is ∙ e))
  where
    clash : false ≡ true → ⊥
    clash e = cc
is_greater Greater t is e = refl

pub isnt_greater : (o : Ordering) (t : Bool) → t ≡ (ordering_index o == 2) → t ≡ false → o ≢ Greater
isnt_greater o t is e greater = clash (sym (ap (λ p. ordering_index p == 2) greater) ∙ sym is ∙ e)
  where
    clash : true ≡ false → ⊥
    clash e = cc
