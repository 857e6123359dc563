-- The first row of a file that has the key of an earlier one is the one with the least number among the sorted rows that have
-- the key of the row before them.
use Rattle.std.proofs.Common.{◌≡◌, ◌<◌, ◌≤◌, ◌⊎◌, ℕ, ◌+◌, Bool, true, false, List, [], ◌∷◌, map, Option, Some, None, refl, sym, ◌∙◌, ap, subst, arith, inl, inr}
use Rattle.std.specs.Prelude.{◌||◌}
use Rattle.std.specs.List.Sorted.{IsPermutation}
use Rattle.std.specs.Ordering.{is_eq}
use Rattle.std.specs.declared.cmp.Ordering.{Ordering}
use Rattle.std.specs.declared.cmp.Ordering.TheVariants.{Equal}
use Rattle.std.proofs.lemmas.Bool.{cases_Bool, cond-true, cond-false}
use Rattle.std.proofs.lemmas.List.Sorted.{IsPermutation-sym}
use Rattle.ov_value.specs.Rows.{key_cmp}
use Rattle.ov_value.specs.Shapes.{Shape}
use Rattle.ov_model.specs.Book.{Row}
use Rattle.ov_model.specs.Lists.{IsIn, Rises}
use Rattle.ov_model.specs.Merge.{has_key}
use Rattle.ov_rows.specs.FileRows.{FileRow, numbered, file_row_cmp, least_repeat}
use Rattle.ov_rows.specs.Refusing.{first_repeat}
use Rattle.ov_rows.proofs.Comparing.{clash, equal_is, is_equal}
use Rattle.ov_rows.proofs.Members.{carried}
use Rattle.ov_rows.proofs.Numbering.{row_of}
use Rattle.ov_rows.proofs.Neighbours.{Pair, AllRepeats, key-sym, no_repeats, least_found}

module _ (schema : Shape) where
  abbrev key : FileRow → FileRow → Ordering
  key a b = key_cmp schema a.row b.row

  -- of these rows those in `seen` were passed, and those in `rows` come, numbered from `nth` on
  pub record Stands (lines seen : List FileRow) (nth : ℕ) (rows : List Row) : Type 0 where
    pub low : (r : FileRow) → IsIn seen r → r.nth < nth
    pub passed : (r : FileRow) → IsIn seen r → IsIn lines r
    pub coming : (r : FileRow) → IsIn (numbered nth rows) r → IsIn lines r
    pub all : (r : FileRow) → IsIn lines r → IsIn seen r ⊎ IsIn (numbered nth rows) r

  pub begins : (lines : List FileRow) (rows : List Row) → IsPermutation (numbered 1 rows) lines → Stands lines [] 1 rows
  begins lines rows moved = record {
    low = λ r is. absurd is;
    passed = λ r is. absurd is;
    coming = λ r is. carried (numbered 1 rows) lines r moved is;
    all = λ r is. inr (carried lines (numbered 1 rows) r (IsPermutation-sym (numbered 1 rows) lines moved) is);
  }

  abbrev pub line : Row → ℕ → FileRow
  line row nth = record { row = row; nth = nth }

  -- one more was passed, wherever it is put
  pub passes : (lines seen more : List FileRow) (nth : ℕ) (row : Row) (rows : List Row) → ((r : FileRow) → IsIn more r → IsIn seen r ⊎ (r ≡ line row nth)) → ((r : FileRow) → IsIn seen r → IsIn more r) → IsIn more (line row nth) → Stands lines seen nth (row ∷ rows) → Stands lines more (nth + 1) rows
  passes lines seen more nth row rows split old new s = record {
    low = λ r is. lower r (split r is);
    passed = λ r is. there r (split r is);
    coming = λ r is. s.coming r (inr is);
    all = λ r is. either r (s.all r is);
  }
    where
      lower : (r : FileRow) → IsIn seen r ⊎ (r ≡ line row nth) → r.nth < nth + 1
      lower r (inl is) = let lt = s.low r is in omega (arith, lt)
      lower r (inr same) = let e : r.nth ≡ nth = ap (λ x. x.nth) same in omega (arith, e)

      there : (r : FileRow) → IsIn seen r ⊎ (r ≡ line row nth) → IsIn lines r
      there r (inl is) = s.passed r is
      there r (inr same) = s.coming r (inl same)

      either : (r : FileRow) → IsIn seen r ⊎ IsIn (numbered nth (row ∷ rows)) r → IsIn more r ⊎ IsIn (numbered (nth + 1) rows) r
      either r (inl is) = inl (old r is)
      either r (inr (inl same)) = inl (subst (IsIn more) (sym same) new)
      either r (inr (inr later)) = inr later

  next : (lines seen : List FileRow) (nth : ℕ) (row : Row) (rows : List Row) → Stands lines seen nth (row ∷ rows) → Stands lines (line row nth ∷ seen) (nth + 1) rows
  next lines seen nth row rows s = passes lines seen (line row nth ∷ seen) nth row rows (λ r is. turned r is) (λ r is. inr is) (inl refl) s
    where
      turned : (r : FileRow) → (r ≡ line row nth) ⊎ IsIn seen r → IsIn seen r ⊎ (r ≡ line row nth)
      turned r (inl same) = inr same
      turned r (inr is) = inl is

  later_numbers : (nth : ℕ) (rows : List Row) (r : FileRow) → IsIn (numbered nth rows) r → nth ≤ r.nth
  later_numbers nth [] r is = absurd is
  later_numbers nth (row ∷ rows) r (inl same) = let e : r.nth ≡ nth = ap (λ x. x.nth) same in omega (arith, e)
  later_numbers nth (row ∷ rows) r (inr later) = let le = later_numbers (nth + 1) rows r later in omega (arith, le)

  -- a row of the key among those that were passed
  record Seen (seen : List FileRow) (row : Row) : Type 0 where
    one : FileRow
    is : IsIn seen one
    same : key_cmp schema row one.row ≡ Equal

  seen_of : (seen : List FileRow) (row : Row) → has_key schema (map row_of seen) row ≡ true → Seen seen row
  seen_of [] row e = absurd (clash e)
  seen_of (r ∷ seen) row e = by (is_eq (key_cmp schema row r.row)) refl e (λ f. seen_of seen row f)
    where
      by : (t : Bool) → is_eq (key_cmp schema row r.row) ≡ t → (t || has_key schema (map row_of seen) row) ≡ true → (has_key schema (map row_of seen) row ≡ true → Seen seen row) → Seen (r ∷ seen) row
      by true t f later = record { one = r; is = inl refl; same = is_equal (key_cmp schema row r.row) t }
      by false t f later = let s = later f in record { one = s.one; is = inr s.is; same = s.same }

  unseen : (seen : List FileRow) (row : Row) (r : FileRow) → has_key schema (map row_of seen) row ≡ false → IsIn seen r → is_eq (key_cmp schema row r.row) ≡ false
  unseen [] row r e is = absurd is
  unseen (x ∷ seen) row r e is = by (is_eq (key_cmp schema row x.row)) refl e is (λ f there. unseen seen row r f there)
    where
      by : (t : Bool) → is_eq (key_cmp schema row x.row) ≡ t → (t || has_key schema (map row_of seen) row) ≡ false → (r ≡ x) ⊎ IsIn seen r
          → (has_key schema (map row_of seen) row ≡ false → IsIn seen r → is_eq (key_cmp schema row r.row) ≡ false)
          → is_eq (key_cmp schema row r.row) ≡ false
      by true t f h rest = absurd (clash (sym f))
      by false t f (inl same) rest = ap (λ y. is_eq (key_cmp schema row y.row)) same ∙ t
      by false t f (inr later) rest = rest f later

  pub has_repeat : (P : ℕ → Type 0) (lines seen : List FileRow) (nth : ℕ) (row : Row) (rows : List Row) → AllRepeats schema P lines → Stands lines seen nth (row ∷ rows) → has_key schema (map row_of seen) row ≡ true → P nth
  has_repeat P lines seen nth row rows all s e =
      let was = seen_of seen row e in
      all was.one (line row nth) (s.passed was.one was.is) (s.coming (line row nth) (inl refl)) (key-sym schema (line row nth) was.one was.same) (s.low was.one was.is)

  first_none : (lines seen : List FileRow) (nth : ℕ) (rows : List Row) → AllRepeats schema (λ _. ⊥) lines → Stands lines seen nth rows → first_repeat schema (map row_of seen) nth rows ≡ None
  first_none lines seen nth [] all s = refl
  first_none lines seen nth (row ∷ rows) all s =
      elim (cases_Bool (has_key schema (map row_of seen) row)) [
        | inl has ↦ absurd (has_repeat (λ _. ⊥) lines seen nth row rows all s has)
        | inr none ↦
            cond-false _ (Some nth) (first_repeat schema (row ∷ map row_of seen) (nth + 1) rows) none
            ∙ first_none lines (line row nth ∷ seen) (nth + 1) rows all (next lines seen nth row rows s)
      ]

  -- the row is no repeat, so the number is not its own
  not_here : (lines seen : List FileRow) (nth n : ℕ) (row : Row) (rows : List Row) → Pair schema lines n → Stands lines seen nth (row ∷ rows) → has_key schema (map row_of seen) row ≡ false → nth ≡ n → ⊥
  not_here lines seen nth n row rows p s none same = second (s.all p.second p.second_in) (s.all p.first p.first_in)
    where
      number : p.second.nth ≡ n
      number = p.number

      low : p.first.nth < p.second.nth
      low = p.low

      first : p.second ≡ line row nth → IsIn seen p.first ⊎ IsIn (numbered nth (row ∷ rows)) p.first → ⊥
      first here (inl is) =
          let tie : is_eq (key_cmp schema row p.first.row) ≡ true = ap (λ r. is_eq (key_cmp schema r.row p.first.row)) (sym here) ∙ equal_is (key p.second p.first) (key-sym schema p.first p.second p.same) in
          clash (sym (unseen seen row p.first none is) ∙ tie)
      first here (inr is) = let le = later_numbers nth (row ∷ rows) p.first is in omega (arith, le, low, number, same)

      second : IsIn seen p.second ⊎ IsIn (numbered nth (row ∷ rows)) p.second → IsIn seen p.first ⊎ IsIn (numbered nth (row ∷ rows)) p.first → ⊥
      second (inl is) h = let lt = s.low p.second is in omega (arith, lt, number, same)
      second (inr (inl here)) h = first here h
      second (inr (inr later)) h = let le = later_numbers (nth + 1) rows p.second later in omega (arith, le, number, same)

  first_some : (lines seen : List FileRow) (nth n : ℕ) (rows : List Row) → AllRepeats schema (λ m. n ≤ m) lines → Pair schema lines n → Stands lines seen nth rows → nth ≤ n → first_repeat schema (map row_of seen) nth rows ≡ Some n
  first_some lines seen nth n [] all p s le = absurd (wrong (s.all p.second p.second_in))
    where
      number : p.second.nth ≡ n
      number = p.number

      wrong : IsIn seen p.second ⊎ ⊥ → ⊥
      wrong (inl is) = let lt = s.low p.second is in omega (arith, lt, number, le)
      wrong (inr is) = is
  first_some lines seen nth n (row ∷ rows) all p s le =
      elim (cases_Bool (has_key schema (map row_of seen) row)) [
        | inl has ↦
            let high : n ≤ nth = has_repeat (λ m. n ≤ m) lines seen nth row rows all s has in
            let same : nth ≡ n = omega (arith, high, le) in
            cond-true _ (Some nth) (first_repeat schema (row ∷ map row_of seen) (nth + 1) rows) has ∙ ap Some same
        | inr none ↦
            let differ : nth ≡ n → ⊥ = not_here lines seen nth n row rows p s none in
            let above : nth + 1 ≤ n = omega (arith, le, differ) in
            cond-false _ (Some nth) (first_repeat schema (row ∷ map row_of seen) (nth + 1) rows) none
            ∙ first_some lines (line row nth ∷ seen) (nth + 1) n rows all p (next lines seen nth row rows s) above
      ]

  -- the least repeat of the sorted rows is the first one of the file
  pub least_is_first : (rows : List Row) (lines : List FileRow) (found : Option ℕ) → IsPermutation (numbered 1 rows) lines → Rises (file_row_cmp schema) lines → least_repeat schema None lines ≡ found → first_repeat schema [] 1 rows ≡ found
  least_is_first rows lines None moved up is = first_none lines [] 1 rows (no_repeats schema lines up is) (begins lines rows moved)
  least_is_first rows lines (Some n) moved up is =
      let found = least_found schema lines n up is in
      let p = found.one in
      let s = begins lines rows moved in
      first_some lines [] 1 n rows found.all p s (from p (s.all p.second p.second_in))
    where
      from : (p : Pair schema lines n) → ⊥ ⊎ IsIn (numbered 1 rows) p.second → 1 ≤ n
      from p (inl is) = absurd is
      from p (inr is) = let le = later_numbers 1 rows p.second is in let number = p.number in omega (arith, le, number)
