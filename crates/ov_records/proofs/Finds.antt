-- One row more, and one parent more, of rows that a parent's list is passed for.
use Rattle.std.proofs.Common.{◌≡◌, ◌<◌, ◌≤◌, ℕ, ◌+◌, Bool, true, false, ◌==◌, List, [], ◌∷◌, ◌++◌, length, replicate, get_or, set, take, drop, map, refl, sym, ◌∙◌, ap, subst, append_assoc, cond, arith}
use Rattle.std.specs.Prelude.{◌||◌, ◌&&◌, if◌then◌else◌, Option, Some, None}
use Rattle.std.specs.List.{zip}
use Rattle.std.proofs.lemmas.List.{append-nil, take_all, drop_more, drop_all, take_more_set, drop-set-lt}
use Rattle.std.proofs.lemmas.List.Sums.{sum_by-cons}
use Rattle.ov_value.specs.Rows.{key_cmp}
use Rattle.ov_value.specs.Shapes.{Shape}
use Rattle.ov_segment.specs.declared.numbered.Record.{Record}
use Rattle.ov_model.specs.Assigned.{assigned, rid_of_row, rid_by, or_next, next_after}
use Rattle.ov_model.specs.Book.{Row}
use Rattle.ov_model.specs.Lists.{IsBelow, Rises}
use Rattle.ov_model.specs.Records.{first_of, is_same_row}
use Rattle.ov_model.proofs.Rids.{and_false-right}
use Rattle.ov_records.specs.Records.{has_record, shared}
use Rattle.ov_records.specs.Passing.{AreBelow, AreNotAbove}
use Rattle.ov_records.specs.Found.{or_found, has_found, shared_found}
use Rattle.ov_records.proofs.Passes.{below_later}

-- ---- one row more

-- these records have keys below those of all rows that are to come
abbrev pub ArePassed : Shape → List Record → List Row → Type 0
ArePassed schema front [] = Unit {0}
ArePassed schema front (row ∷ rows) = AreBelow schema front row × ArePassed schema front rows

pub passed_none : (schema : Shape) (parent : List Record) (rows : List Row) → ArePassed schema (take 0 parent) rows
passed_none schema parent [] = tt
passed_none schema parent (row ∷ rows) = ((λ k d lt. absurd (omega (arith, lt))), passed_none schema parent rows)

passed_later : (schema : Shape) (front : List Record) (row : Row) (rows : List Row) → AreNotAbove schema front row → IsBelow (key_cmp schema) row rows → ArePassed schema front rows
passed_later schema front row [] above below = tt
passed_later schema front row (later ∷ rows) above below = (below_later schema row later front above below.0, passed_later schema front row rows above below.1)

module _ (schema : Shape) (rows : List Row) (i : ℕ) (lt : i < length rows) where
  row_here : drop i rows ≡ get_or rows i [] ∷ drop (i + 1) rows
  row_here = drop_more rows i [] lt

  pub rises_on : Rises (key_cmp schema) (drop i rows) → Rises (key_cmp schema) (drop (i + 1) rows)
  rises_on up = (subst (Rises (key_cmp schema)) row_here up).1

  pub below_here : (front : List Record) → ArePassed schema front (drop i rows) → AreBelow schema front (get_or rows i [])
  below_here front passed = (subst (ArePassed schema front) row_here passed).0

  pub passed_on : (front : List Record) → Rises (key_cmp schema) (drop i rows) → AreNotAbove schema front (get_or rows i []) → ArePassed schema front (drop (i + 1) rows)
  passed_on front up above = passed_later schema front (get_or rows i []) (drop (i + 1) rows) above (subst (Rises (key_cmp schema)) row_here up).0

-- ---- rids that were found

module _ (parent : List (ℕ × Row)) (found : List (Option ℕ)) (rows : List Row) (i : ℕ) (new : Option ℕ)
    (lt : i < length rows) (long : length found ≡ length rows) (new_is : new ≡ first_of (get_or found i None) (rid_of_row parent (get_or rows i []))) where
  or_found_here : or_found (drop i found) (drop i rows) parent ≡ new ∷ or_found (drop (i + 1) found) (drop (i + 1) rows) parent
  or_found_here =
      let f_here : drop i found ≡ get_or found i None ∷ drop (i + 1) found = drop_more found i None (omega arith)
      in let here : drop i rows ≡ get_or rows i [] ∷ drop (i + 1) rows = drop_more rows i [] lt
      in ap (λ l. or_found l (drop i rows) parent) f_here
      ∙ ap (λ l. or_found (get_or found i None ∷ drop (i + 1) found) l parent) here
      ∙ ap (λ x. x ∷ or_found (drop (i + 1) found) (drop (i + 1) rows) parent) (sym new_is)

  later_same : or_found (drop (i + 1) (set found i new)) (drop (i + 1) rows) parent ≡ or_found (drop (i + 1) found) (drop (i + 1) rows) parent
  later_same = ap (λ l. or_found l (drop (i + 1) rows) parent) (drop-set-lt (i + 1) found i new (omega arith))

  pub found_set : (all : List (Option ℕ)) → take i found ++ or_found (drop i found) (drop i rows) parent ≡ all
      → take (i + 1) (set found i new) ++ or_found (drop (i + 1) (set found i new)) (drop (i + 1) rows) parent ≡ all
  found_set all so_far =
      let later : List (Option ℕ) = or_found (drop (i + 1) found) (drop (i + 1) rows) parent
      in ap (λ l. take (i + 1) (set found i new) ++ l) later_same
      ∙ ap (λ l. l ++ later) (take_more_set found i new (omega arith))
      ∙ append_assoc (take i found) (new ∷ []) later
      ∙ ap (λ l. take i found ++ l) (sym or_found_here)
      ∙ so_far

  pub weight_more : (weight all : ℕ) → weight + shared_found parent (or_found (drop i found) (drop i rows) parent) (drop i rows) ≡ all
      → (weight + cond (has_found parent new (get_or rows i [])) 1 0) + shared_found parent (or_found (drop (i + 1) (set found i new)) (drop (i + 1) rows) parent) (drop (i + 1) rows) ≡ all
  weight_more weight all so_far =
      let here : drop i rows ≡ get_or rows i [] ∷ drop (i + 1) rows = drop_more rows i [] lt
      in let later : List (Option ℕ) = or_found (drop (i + 1) found) (drop (i + 1) rows) parent
      in let one : shared_found parent (or_found (drop i found) (drop i rows) parent) (drop i rows) ≡ cond (has_found parent new (get_or rows i [])) 1 0 + shared_found parent later (drop (i + 1) rows) =
      ap (λ l. shared_found parent l (drop i rows)) or_found_here ∙ ap (λ l. shared_found parent (new ∷ later) l) here
      in let rest : shared_found parent (or_found (drop (i + 1) (set found i new)) (drop (i + 1) rows) parent) (drop (i + 1) rows) ≡ shared_found parent later (drop (i + 1) rows) =
      ap (λ l. shared_found parent l (drop (i + 1) rows)) later_same
      in omega (arith, one, rest, so_far)

-- ---- one parent more

first_none-right : (a : Option ℕ) → first_of a None ≡ a
first_none-right None = refl
first_none-right (Some x) = refl

first_assoc : (a b c : Option ℕ) → first_of (first_of a b) c ≡ first_of a (first_of b c)
first_assoc None b c = refl
first_assoc (Some x) b c = refl

rid_by_more : (ps more : List (List (ℕ × Row))) (p : List (ℕ × Row)) (row : Row) → rid_by (ps ++ p ∷ more) row ≡ first_of (first_of (rid_by ps row) (rid_of_row p row)) (rid_by more row)
rid_by_more [] more p row = refl
rid_by_more (q ∷ ps) more p row =
    ap (first_of (rid_of_row q row)) (rid_by_more ps more p row)
    ∙ sym (first_assoc (rid_of_row q row) (first_of (rid_by ps row) (rid_of_row p row)) (rid_by more row))
    ∙ ap (λ f. first_of f (rid_by more row)) (sym (first_assoc (rid_of_row q row) (rid_by ps row) (rid_of_row p row)))

pub or_found_more : (ps : List (List (ℕ × Row))) (p : List (ℕ × Row)) (rows : List Row) → or_found (map (rid_by ps) rows) rows p ≡ map (rid_by (ps ++ p ∷ [])) rows
or_found_more ps p [] = refl
or_found_more ps p (row ∷ rows) = λ i. sym (rid_by_more ps [] p row ∙ first_none-right (first_of (rid_by ps row) (rid_of_row p row))) i ∷ or_found_more ps p rows i

pub none_found : (rows : List Row) → replicate (length rows) None ≡ map (rid_by []) rows
none_found [] = refl
none_found (row ∷ rows) = ap (λ l. None ∷ l) (none_found rows)

-- ---- records that are shared

has_not : (p : List (ℕ × Row)) (rid : ℕ) (row : Row) → rid_of_row p row ≡ None → has_record p (rid, row) ≡ false
has_not [] rid row e = refl
has_not (r ∷ p) rid row e = by (is_same_row row r.1) refl (has_not p rid row)
  where
    clash : Some r.0 ≡ None → ⊥
    clash e = cc

    by : (t : Bool) → is_same_row row r.1 ≡ t → (rid_of_row p row ≡ None → has_record p (rid, row) ≡ false) → ((r.0 == rid && is_same_row row r.1) || has_record p (rid, row)) ≡ false
    by true same rest = absurd (clash (sym (ap (λ b. if b then Some r.0 else rid_of_row p row) same) ∙ e))
    by false other rest =
        ap (λ b. b || has_record p (rid, row)) (and_false-right (r.0 == rid) (is_same_row row r.1) other)
        ∙ rest (sym (ap (λ b. if b then Some r.0 else rid_of_row p row) other) ∙ e)

-- whether a parent has the row with the rid found so far is whether it has it with the rid that it gets
has_numbered : (p : List (ℕ × Row)) (before later : Option ℕ) (row : Row) (next : ℕ)
    → has_found p (first_of before (rid_of_row p row)) row ≡ has_record p (or_next (first_of (first_of before (rid_of_row p row)) later) next, row)
has_numbered p (Some rid) later row next = refl
has_numbered p None later row next = by (rid_of_row p row) refl
  where
    by : (f : Option ℕ) → rid_of_row p row ≡ f → has_found p f row ≡ has_record p (or_next (first_of f later) next, row)
    by (Some rid) e = refl
    by None e = sym (has_not p (or_next later next) row e)

pub shared_is : (ps more : List (List (ℕ × Row))) (p : List (ℕ × Row)) (rows : List Row) (next : ℕ)
    → shared_found p (map (rid_by (ps ++ p ∷ [])) rows) rows ≡ shared (zip (assigned rows (ps ++ p ∷ more) next) rows) p
shared_is ps more p [] next = refl
shared_is ps more p (row ∷ rows) next =
    let found = rid_by_more ps [] p row ∙ first_none-right (first_of (rid_by ps row) (rid_of_row p row)) in
    let all = rid_by_more ps more p row in
    let here : has_found p (rid_by (ps ++ p ∷ []) row) row ≡ has_record p (or_next (rid_by (ps ++ p ∷ more) row) next, row) =
    ap (λ f. has_found p f row) found ∙ has_numbered p (rid_by ps row) (rid_by more row) row next ∙ ap (λ f. has_record p (or_next f next, row)) (sym all) in
    let later = shared_is ps more p rows (next_after (rid_by (ps ++ p ∷ more) row) next) in
    let cons = sum_by-cons (λ x. cond (has_record p x) 1 0) (or_next (rid_by (ps ++ p ∷ more) row) next, row) (zip (assigned rows (ps ++ p ∷ more) (next_after (rid_by (ps ++ p ∷ more) row) next)) rows) in
    ap (λ b. cond b 1 0 + shared_found p (map (rid_by (ps ++ p ∷ [])) rows) rows) here
    ∙ ap (λ n. cond (has_record p (or_next (rid_by (ps ++ p ∷ more) row) next, row)) 1 0 + n) later
    ∙ sym cons

-- a slice of a whole vector, written
pub written : {X : Type 0} (len : ℕ) (xs ys : List X) → length ys ≡ length xs → length xs ≤ len → take len (ys ++ drop (length ys) xs) ≡ ys
written len xs ys long le = rw (drop_all (length ys) xs (omega arith), append-nil) (take_all len ys (omega arith))
