-- What fits the World that a store is at.
use Rattle.std.proofs.Common.{◌≡◌, ◌==◌, ◌<◌, ◌≤◌, ℕ, ◌+◌, Bool, true, false, List, [], ◌∷◌, length, refl, sym, ◌∙◌, ap, subst}
use Rattle.std.specs.Prelude.{Option, Some, None, IsTrue, is_some, nat_le, if◌then◌else◌}
use Rattle.std.specs.Option.{option_map, option_or}
use Rattle.std.specs.List.{All, list_any}
use Rattle.std.specs.Ordering.{is_lt}
use Rattle.std.specs.List.Sorted.{IsPermutation}
use Rattle.std.proofs.lemmas.Bool.{eq-eqb, leb-false}
use Rattle.std.proofs.lemmas.List.Sorted.{All-permutation}
use Rattle.ov_host.specs.Host.{State}
use Rattle.ov_value.specs.Naming.{is_name}
use Rattle.ov_value.specs.Rows.{is_null, key_cmp}
use Rattle.ov_value.specs.Shapes.{Shape, IsSound}
use Rattle.ov_value.specs.Spelling.{IsRow}
use Rattle.ov_model.specs.Act.{null_row}
use Rattle.ov_model.specs.Lists.{Rises}
use Rattle.ov_model.specs.Merge.{in_key_order, placed}
use Rattle.ov_model.specs.Book.{Row}
use Rattle.ov_model.specs.World.{World, first_set, named}
use Rattle.ov_catalog.specs.Reached.{ArePlain, AreRows, InitFits}
use Rattle.ov_catalog.specs.Stands.{seen, asked}
use Rattle.law_image.specs.Pages.{readings_of}
use Rattle.ov_rows.specs.Refusing.{count_off, first_repeat, format_off, null_off, rows_off}
use Rattle.ov_rows.specs.declared.rows_err.RowsErr.{RowsErr}
use Rattle.ov_rows.specs.declared.rows_err.RowsErr.TheVariants.{DuplicateKey}
use Rattle.ov_core.specs.AtWorld.{IsAtWorld}
use Rattle.ov_core.specs.Held.{Held}
use Rattle.ov_store.specs.declared.errors.StoreErr.{StoreErr}
use Rattle.ov_store.specs.declared.errors.StoreErr.TheVariants as why
use Rattle.ov_store.specs.Beginning.{IsShort}
use Rattle.ov_store.specs.Refusals.{off_if, new_off}
use Rattle.ov_store.proofs.Refusing.{by_counts, new_seen, shown_counts}

-- what is read there is what the World asks for
pub sees : (w : World) (held : Held) (s : State) (at : IsAtWorld w held s) → seen (readings_of s.tape.disk.pages.bytes) held.numbers ≡ asked w
sees w held s at = ap (seen (readings_of s.tape.disk.pages.bytes)) at.numbers_are ∙ at.stands.stands.shows

none_before : (b : Bool) (off : StoreErr) (rest : Option StoreErr) → option_or (off_if b off) rest ≡ None → (b ≡ false) × (rest ≡ None)
none_before true off rest e = absurd cc
none_before false off rest e = (refl, e)

not_some : {A : Type 0} (o : Option A) → is_some o ≡ false → o ≡ None
not_some None e = refl
not_some (Some x) e = absurd cc

module _ (w : World) (held : Held) (s : State) (at : IsAtWorld w held s) (name : List ℕ) (none : new_off held.numbers name ≡ None) where
  counts : by_counts (is_some (first_set (named name) w.sets)) (length w.sets) w.next ≡ None
  counts = sym (shown_counts w name) ∙ sym (new_seen (readings_of s.tape.disk.pages.bytes) held.numbers w name (sees w held s at)) ∙ none

  free : is_some (first_set (named name) w.sets) ≡ false
  free = (none_before (is_some (first_set (named name) w.sets)) why.CvdExists (option_or (off_if (nat_le 1024 (length w.sets)) why.TooManyCvds) (off_if (w.next == 4294967295) why.NoNumbers)) counts).0

  few : nat_le 1024 (length w.sets) ≡ false
  few = (none_before (nat_le 1024 (length w.sets)) why.TooManyCvds (off_if (w.next == 4294967295) why.NoNumbers)
      (none_before (is_some (first_set (named name) w.sets)) why.CvdExists (option_or (off_if (nat_le 1024 (length w.sets)) why.TooManyCvds) (off_if (w.next == 4294967295) why.NoNumbers)) counts).1).0

  pub init_fits : (schema : Shape) (rows : List Row) → held.numbers.next < 4294967295 → IsTrue (is_name name) → IsSound schema → AreRows schema rows → ArePlain w rows → InitFits w name schema rows
  init_fits schema rows below named_well sound sorted plain = record {
    numbers = subst (λ n. n < 4294967295) (ap (λ n. n.next) (sees w held s at)) below;
    named = named_well;
    new = not_some (first_set (named name) w.sets) free;
    few = leb-false 1024 (length w.sets) few;
    sound = sound;
    sorted = sorted;
    plain = plain;
  }

-- ---- rows without NULL

abbrev HaveNoNull : List Row → Type 0
HaveNoNull [] = Unit {0}
HaveNoNull (row ∷ rows) = (list_any is_null row ≡ false) × HaveNoNull rows

from_none : (nth : ℕ) (rows : List Row) → null_row nth rows ≡ None → HaveNoNull rows
from_none nth [] none = tt
from_none nth (row ∷ rows) none = by (list_any is_null row) refl none (from_none (nth + 1) rows)
  where
    by : (b : Bool) → list_any is_null row ≡ b → (if b then Some nth else null_row (nth + 1) rows) ≡ None → (null_row (nth + 1) rows ≡ None → HaveNoNull rows)
        → (list_any is_null row ≡ false) × HaveNoNull rows
    by true is here rest = absurd cc
    by false is later rest = (is, rest later)

to_none : (nth : ℕ) (rows : List Row) → HaveNoNull rows → null_row nth rows ≡ None
to_none nth [] have = refl
to_none nth (row ∷ rows) have = ap (λ b. if b then Some nth else null_row (nth + 1) rows) have.0 ∙ to_none (nth + 1) rows have.1

placed_none : (schema : Shape) (row : Row) (rows : List Row) → list_any is_null row ≡ false → HaveNoNull rows → HaveNoNull (placed schema row rows)
placed_none schema row [] none have = (none, tt)
placed_none schema row (r ∷ rs) none have = by (is_lt (key_cmp schema row r)) (placed_none schema row rs none have.1)
  where
    by : (b : Bool) → HaveNoNull (placed schema row rs) → HaveNoNull (if b then row ∷ r ∷ rs else r ∷ placed schema row rs)
    by true rest = (none, have)
    by false rest = (have.0, rest)

order_none : (schema : Shape) (rows : List Row) → HaveNoNull rows → HaveNoNull (in_key_order schema rows)
order_none schema [] have = tt
order_none schema (row ∷ rows) have = placed_none schema row (in_key_order schema rows) have.0 (order_none schema rows have.1)

last_none : (first rest : Option RowsErr) → option_or first rest ≡ None → rest ≡ None
last_none None rest e = e
last_none (Some off) rest e = absurd cc

null_none : (row : Option ℕ) (adds : Bool) → null_off row adds ≡ None → row ≡ None
null_none None adds e = refl
null_none (Some nth) adds e = absurd cc

add_none : (row : Option ℕ) (adds : Bool) → null_off row adds ≡ None → adds ≡ false
add_none None true e = absurd cc
add_none None false e = refl
add_none (Some nth) adds e = absurd cc

-- rows that are those of a version in a store of this format have no NULL where it is 1
of_format_one : (format : ℕ) (schema : Shape) (adds : Bool) (rows : List Row) → rows_off format schema adds rows ≡ None → format ≡ 1 → null_off (null_row 1 rows) adds ≡ None
of_format_one format schema adds rows none one =
    let old : (format == 1) ≡ true = eq-eqb format 1 one
    in let of_format : format_off format adds rows ≡ None =
    last_none (option_map DuplicateKey (first_repeat schema [] 1 rows)) (format_off format adds rows)
    (last_none (count_off (length rows)) (option_or (option_map DuplicateKey (first_repeat schema [] 1 rows)) (format_off format adds rows)) none)
    in ap (λ b. if b then null_off (null_row 1 rows) adds else None) (sym old) ∙ of_format

-- a store of format 1 takes no columns
pub adds_none : (format : ℕ) (schema : Shape) (adds : Bool) (rows : List Row) → rows_off format schema adds rows ≡ None → format ≡ 1 → adds ≡ false
adds_none format schema adds rows none one = add_none (null_row 1 rows) adds (of_format_one format schema adds rows none one)

pub plain_rows : (w : World) (format : ℕ) (schema : Shape) (adds : Bool) (rows : List Row) → w.format ≡ format → rows_off format schema adds rows ≡ None → ArePlain w (in_key_order schema rows)
plain_rows w format schema adds rows same none one =
    let row : null_row 1 rows ≡ None = null_none (null_row 1 rows) adds (of_format_one format schema adds rows none (sym same ∙ one))
    in to_none 1 (in_key_order schema rows) (order_none schema rows (from_none 1 rows row))

-- rows in another order, which rises
pub rows_sorted : (schema : Shape) (rows made : List Row) → IsPermutation rows made → Rises (key_cmp schema) made → length made ≤ 1000000
    → All (IsRow schema) rows → All IsShort rows → AreRows schema made
rows_sorted schema rows made same rise few fit short = record {
  rise = rise;
  few = few;
  fit = All-permutation (IsRow schema) rows made same fit;
  short = All-permutation IsShort rows made same short;
}
