-- Sorted rows of a file in which no key stands twice are its rows in key order.
use Rattle.std.proofs.Common.{◌≡◌, ◌<◌, ◌⊎◌, ℕ, ◌+◌, Bool, true, false, List, [], ◌∷◌, ◌++◌, map, None, refl, sym, ◌∙◌, ap, subst, inl, inr}
use Rattle.std.specs.Prelude.{if◌then◌else◌}
use Rattle.std.specs.List.Sorted.{IsPermutation}
use Rattle.std.specs.Ordering.{is_lt, nat_cmp}
use Rattle.std.specs.declared.cmp.Ordering.TheVariants.{Less, Equal}
use Rattle.std.proofs.lemmas.Bool.{cases_Bool, cond-false}
use Rattle.std.proofs.lemmas.List.{append-nil, map-append}
use Rattle.std.proofs.lemmas.List.Sorted.{IsPermutation-refl, IsPermutation-sym, IsPermutation-trans, IsPermutation-cons, IsPermutation-middle, IsPermutation-map}
use Rattle.ov_value.specs.Rows.{key_cmp}
use Rattle.ov_value.specs.Order.{key_cmp_total}
use Rattle.ov_value.specs.Shapes.{Shape}
use Rattle.ov_model.specs.Book.{Row}
use Rattle.ov_model.specs.Lists.{IsIn, IsBelow, Rises}
use Rattle.ov_model.specs.Merge.{has_key, firsts, placed, in_key_order, merged}
use Rattle.ov_model.proofs.Merging.{merged_rises}
use Rattle.ov_rows.specs.FileRows.{FileRow, numbered, file_row_cmp, least_repeat}
use Rattle.ov_rows.proofs.Comparing.{is_less, parts}
use Rattle.ov_rows.proofs.Members.{carried, in_end, in_more, in_either, rising_same}
use Rattle.ov_rows.proofs.Numbering.{row_of, rows_of_numbered}
use Rattle.ov_rows.proofs.Neighbours.{AllRepeats, no_repeats}
use Rattle.ov_rows.proofs.Repeating.{Stands, begins, passes, line, has_repeat}

-- the rows of a file, in the order in which they stand beside their numbers
pub rows_moved : (rows : List Row) (lines : List FileRow) → IsPermutation (numbered 1 rows) lines → IsPermutation rows (map row_of lines)
rows_moved rows lines moved = subst (λ l. IsPermutation l (map row_of lines)) (rows_of_numbered 1 rows) (IsPermutation-map row_of (numbered 1 rows) lines moved)

module _ (schema : Shape) where
  -- no row has the key of one with a lesser number
  abbrev NoRepeats : List FileRow → Type 0
  NoRepeats lines = AllRepeats schema (λ _. ⊥) lines

  below_by_key : (x : FileRow) (lines : List FileRow) → IsBelow (file_row_cmp schema) x lines → ((y : FileRow) → IsIn lines y → key_cmp schema x.row y.row ≡ Equal → x.nth < y.nth → ⊥) → IsBelow (key_cmp schema) x.row (map row_of lines)
  below_by_key x [] below apart = tt
  below_by_key x (y ∷ lines) below apart = (by (parts (key_cmp schema x.row y.row) (nat_cmp x.nth y.nth) below.0), below_by_key x lines below.1 (λ z is. apart z (inr is)))
    where
      by : (key_cmp schema x.row y.row ≡ Less) ⊎ ((key_cmp schema x.row y.row ≡ Equal) × (nat_cmp x.nth y.nth ≡ Less)) → key_cmp schema x.row y.row ≡ Less
      by (inl less) = less
      by (inr tie) = absurd (apart y (inl refl) tie.0 (is_less x.nth y.nth tie.1))

  rows_rise : (lines : List FileRow) → Rises (file_row_cmp schema) lines → NoRepeats lines → Rises (key_cmp schema) (map row_of lines)
  rows_rise [] up none = tt
  rows_rise (x ∷ lines) up none = (
    below_by_key x lines up.0 (λ y is. none x y (inl refl) (inr is)),
    rows_rise lines up.1 (λ a b first second. none a b (inr first) (inr second)),
  )

  firsts_same : (lines seen : List FileRow) (nth : ℕ) (rows : List Row) → NoRepeats lines → Stands schema lines seen nth rows → firsts schema (map row_of seen) rows ≡ rows
  firsts_same lines seen nth [] none s = refl
  firsts_same lines seen nth (row ∷ rows) none s =
      elim (cases_Bool (has_key schema (map row_of seen) row)) [
        | inl has ↦ absurd (has_repeat schema (λ _. ⊥) lines seen nth row rows none s has)
        | inr new ↦
            let more : List FileRow = seen ++ line schema row nth ∷ [] in
            let s_next : Stands schema lines more (nth + 1) rows =
            passes schema lines seen more nth row rows (λ r is. in_either seen (line schema row nth) r is) (λ r is. in_more seen (line schema row nth ∷ []) r is) (in_end seen (line schema row nth)) s
            in cond-false _ (firsts schema (map row_of seen ++ row ∷ []) rows) (row ∷ firsts schema (map row_of seen ++ row ∷ []) rows) new
            ∙ ap (λ l. row ∷ l)
            (ap (λ l. firsts schema l rows) (sym (map-append row_of seen (line schema row nth ∷ [])))
            ∙ firsts_same lines more (nth + 1) rows none s_next)
      ]

  placed_moved : (row : Row) (rows : List Row) → IsPermutation (row ∷ rows) (placed schema row rows)
  placed_moved row [] = IsPermutation-refl (row ∷ [])
  placed_moved row (r ∷ rs) = by (is_lt (key_cmp schema row r)) (placed_moved row rs)
    where
      by : (b : Bool) → IsPermutation (row ∷ rs) (placed schema row rs) → IsPermutation (row ∷ r ∷ rs) (if b then row ∷ r ∷ rs else r ∷ placed schema row rs)
      by true rest = IsPermutation-refl (row ∷ r ∷ rs)
      by false rest =
          IsPermutation-trans (row ∷ r ∷ rs) (r ∷ row ∷ rs) (r ∷ placed schema row rs)
          (IsPermutation-sym (r ∷ row ∷ rs) (row ∷ r ∷ rs) (IsPermutation-middle (r ∷ []) row rs))
          (IsPermutation-cons r (row ∷ rs) (placed schema row rs) rest)

  order_moved : (rows : List Row) → IsPermutation rows (in_key_order schema rows)
  order_moved [] = IsPermutation-refl []
  order_moved (row ∷ rows) =
      IsPermutation-trans (row ∷ rows) (row ∷ in_key_order schema rows) (placed schema row (in_key_order schema rows))
      (IsPermutation-cons row rows (in_key_order schema rows) (order_moved rows))
      (placed_moved row (in_key_order schema rows))

  order_rises : (rows : List Row) → firsts schema [] rows ≡ rows → Rises (key_cmp schema) (in_key_order schema rows)
  order_rises rows same =
      let alone : merged schema (rows ∷ []) ≡ in_key_order schema rows =
      ap (λ all. in_key_order schema (firsts schema [] all)) (append-nil rows) ∙ ap (in_key_order schema) same
      in subst (Rises (key_cmp schema)) alone (merged_rises schema (rows ∷ []))

  pub sorted_rises : (lines : List FileRow) → Rises (file_row_cmp schema) lines → least_repeat schema None lines ≡ None → Rises (key_cmp schema) (map row_of lines)
  sorted_rises lines up none = rows_rise lines up (no_repeats schema lines up none)

  pub sorted_is_order : (rows : List Row) (lines : List FileRow) → IsPermutation (numbered 1 rows) lines → Rises (file_row_cmp schema) lines → least_repeat schema None lines ≡ None → map row_of lines ≡ in_key_order schema rows
  sorted_is_order rows lines moved up none =
      let same = firsts_same lines [] 1 rows (no_repeats schema lines up none) (begins schema lines rows moved) in
      let there : IsPermutation (map row_of lines) (in_key_order schema rows) =
      IsPermutation-trans (map row_of lines) rows (in_key_order schema rows) (IsPermutation-sym rows (map row_of lines) (rows_moved rows lines moved)) (order_moved rows)
      in rising_same (key_cmp schema) (key_cmp_total schema) (map row_of lines) (in_key_order schema rows) (sorted_rises lines up none) (order_rises rows same)
      (λ x is. carried (map row_of lines) (in_key_order schema rows) x there is)
      (λ x is. carried (in_key_order schema rows) (map row_of lines) x (IsPermutation-sym (map row_of lines) (in_key_order schema rows) there) is)
