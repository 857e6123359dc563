-- Rows with one more or one less have no key twice, and a table's row stands where it is found.
use Rattle.std.proofs.Common.{◌≡◌, ◌∙◌, ◌+◌, ℕ, Bool, true, false, List, [], ◌∷◌, refl, sym, ap, subst}
use Rattle.std.specs.Prelude.{Some, None, Option, ◌||◌, if◌then◌else◌, not, is_some, slice_get, slice_index_or}
use Rattle.std.specs.List.{list_any, position_from}
use Rattle.std.proofs.Math.Path.{fun_ext}
use Rattle.std.proofs.lemmas.Cmp.{eq_by_cmp_equiv}
use Rattle.std.proofs.lemmas.Iterator.Adapters.{position_from-zero}
use Rattle.std.specs.Option.{option_and_then}
use Rattle.std.proofs.lemmas.List.Quantifiers.{position-Some}
use Rattle.std.proofs.lemmas.Option.{slice_get-get_or}
use Rattle.law_users.proofs.Ordering.{once_more, rising_filter, rising_once}
use Rattle.ov_model.specs.Act.{repeated_key}
use Rattle.ov_model.specs.Book.{Row}
use Rattle.ov_model.specs.Lists.{Rises}
use Rattle.ov_model.specs.Merge.{has_key}
use Rattle.ov_model.specs.Registry.{find, is_table, is_user, stage_schema, table_in, table_row, user_row, users_schema, with_row, without_row}
use Rattle.ov_model.specs.Users.{is_admin}
use Rattle.ov_value.specs.Order.{key_cmp_total}
use Rattle.ov_value.specs.Rows.{key_cmp}
use Rattle.ov_staging.specs.Taking.{IsTableRow}

right_none : (a b : Bool) → (a || b) ≡ false → b ≡ false
right_none true b e = cc
right_none false b e = e

pub once_with : (rows : List Row) (name : List ℕ) → Rises (key_cmp users_schema) rows → is_user rows name ≡ false
    → repeated_key users_schema [] 1 (with_row rows (user_row name)) ≡ None
once_with rows name rises new =
    once_more users_schema rows (user_row name) (rising_once users_schema rows rises)
    (right_none (is_admin name) (has_key users_schema rows (user_row name)) new)

pub once_without : (rows : List Row) (owner table : List ℕ) → Rises (key_cmp stage_schema) rows
    → repeated_key stage_schema [] 1 (without_row rows owner table) ≡ None
once_without rows owner table rises =
    rising_once stage_schema (without_row rows owner table) (rising_filter stage_schema (λ row. not (is_table owner table row)) rows rises)

-- it has a row exactly where it is found
pub found_there : (rows : List Row) (owner table : List ℕ) → is_some (table_in rows owner table) ≡ is_some (find rows owner table)
found_there rows owner table = by (find rows owner table) refl
  where
    there : (i : ℕ) → find rows owner table ≡ Some i → is_some (slice_get rows i) ≡ true
    there i is = ap (λ (o : Option Row). is_some o) (slice_get-get_or rows i [] (position-Some (is_table owner table) rows i [] is).0)

    by : (o : Option ℕ) → find rows owner table ≡ o → is_some (option_and_then (slice_get rows) o) ≡ is_some o
    by None is = refl
    by (Some i) is = there i is

pub table_at : (rows : List Row) (owner table : List ℕ) (i : ℕ) (d : Row) → find rows owner table ≡ Some i → table_in rows owner table ≡ Some (slice_index_or rows i d)
table_at rows owner table i d is =
    ap (option_and_then (slice_get rows)) is ∙ slice_get-get_or rows i d (position-Some (is_table owner table) rows i d is).0

-- ---- a table more

any_none : (p : Row → Bool) (n : ℕ) (rows : List Row) → position_from p n rows ≡ None → list_any p rows ≡ false
any_none p n [] is = refl
any_none p n (row ∷ rows) is = by (p row) is (any_none p (n + 1) rows)
  where
    by : (b : Bool) → (if b then Some n else position_from p (n + 1) rows) ≡ None → (position_from p (n + 1) rows ≡ None → list_any p rows ≡ false)
        → (b || list_any p rows) ≡ false
    by true is later = absurd cc
    by false is later = later is

not_some : {A : Type 0} (o : Option A) → is_some o ≡ false → o ≡ None
not_some None is = refl
not_some (Some x) is = absurd cc

-- a row of the table has its key
key_free : (rows : List Row) (owner table cvd : List ℕ) (made : ℕ) (vids : List ℕ) → find rows owner table ≡ None
    → has_key stage_schema rows (table_row owner table cvd made vids) ≡ false
key_free rows owner table cvd made vids none =
    let row : Row = table_row owner table cvd made vids
    in ap (λ (f : Row → Bool). list_any f rows) (fun_ext (λ (r : Row). (eq_by_cmp_equiv (key_cmp_total stage_schema)).symm row r))
    ∙ any_none (is_table owner table) 0 rows (sym (position_from-zero (is_table owner table) rows) ∙ none)

pub once_table : (rows : List Row) (owner table : List ℕ) (row : Row) → Rises (key_cmp stage_schema) rows → IsTableRow owner table row
    → is_some (table_in rows owner table) ≡ false → repeated_key stage_schema [] 1 (with_row rows row) ≡ None
once_table rows owner table row rises is new =
    once_more stage_schema rows row (rising_once stage_schema rows rises)
    (subst (λ (r : Row). has_key stage_schema rows r ≡ false) (sym is.is)
    (key_free rows owner table is.cvd is.made is.vids (not_some (find rows owner table) (sym (found_there rows owner table) ∙ new))))
