-- Rows of the same columns are equal where their marks and their bytes are.
use Rattle.std.proofs.Common.{◌≡◌, ◌<◌, ◌++◌, ℕ, Bool, List, length, get_or, sym, ◌∙◌, ap, subst}
use Rattle.std.proofs.lemmas.List.{length-map}
use Rattle.std.specs.List.{flat_map, list_any}
use Rattle.ov_value.specs.declared.column.Column.{Column}
use Rattle.ov_value.specs.declared.value.Value.{Value}
use Rattle.ov_value.specs.Rows.{HasKinds, is_null}
use Rattle.ov_value.specs.Spelling.{kept, mark_bytes, value_bytes}
use Rattle.ov_value.specs.Reading.{Spelled}
use Rattle.ov_value.specs.Decoding.{row_of}
use Rattle.ov_value.proofs.Standing.{row_is}
use Rattle.ov_segment.specs.declared.numbered.Record.{Record}
use Rattle.ov_segment.specs.declared.place.Place.{Place}
use Rattle.ov_segment.specs.Tables.{piece, record_at, records_at, AreAt}
use Rattle.ov_segment.proofs.TableLemmas.{record_there, row_there}

-- the columns are named for the kinds of the values alone
of_columns : (first second : List Column) (marked : Bool) (bytes : List ℕ) (row : List Value) → Spelled first marked bytes row → HasKinds row second → Spelled second marked bytes row
of_columns first second marked bytes row s kinds = record { kinds = kinds; spelled = s.spelled; marked_is = s.marked_is; bytes_are = s.bytes_are }

pub same_rows : (first second columns : List Column) (m n : Bool) (a b : List ℕ) (x y : List Value) → Spelled first m a x → Spelled second n b y → HasKinds x columns → HasKinds y columns
    → (m ≡ n) × (a ≡ b) → x ≡ y
same_rows first second columns m n a b x y p q kinds other e =
    row_is columns m a x (of_columns first columns m a x p kinds)
    ∙ (λ i. row_of columns (e.0 i) (e.1 i))
    ∙ sym (row_is columns n b y (of_columns second columns n b y q other))

pub same_bytes : (first second : List Column) (m n : Bool) (a b : List ℕ) (x y : List Value) → Spelled first m a x → Spelled second n b y → x ≡ y → (m ≡ n) × (a ≡ b)
same_bytes first second m n a b x y p q e = (
  sym p.marked_is ∙ ap (λ (r : List Value). list_any is_null (kept r)) e ∙ q.marked_is,
  p.bytes_are ∙ ap (λ (r : List Value). mark_bytes (kept r) ++ flat_map value_bytes r) e ∙ sym q.bytes_are,
)

-- the same of the rows at two positions
pub same_there : (first second columns : List Column) (xs ys : List ℕ) (ps qs : List Place) (i j : ℕ) (p q : Place) (none : Record) → AreAt first xs ps → AreAt second ys qs
    → p ≡ get_or ps i p → q ≡ get_or qs j q → i < length (records_at first xs ps) → j < length (records_at second ys qs)
    → HasKinds (get_or (records_at first xs ps) i none).row columns → HasKinds (get_or (records_at second ys qs) j none).row columns
    → ((p.marked ≡ q.marked) × (piece xs p ≡ piece ys q) → (get_or (records_at first xs ps) i none).row ≡ (get_or (records_at second ys qs) j none).row)
    × ((get_or (records_at first xs ps) i none).row ≡ (get_or (records_at second ys qs) j none).row → (p.marked ≡ q.marked) × (piece xs p ≡ piece ys q))
same_there first second columns xs ys ps qs i j p q none at_first at_second is_p is_q lt_i lt_j =
    let i_there : i < length ps = subst (λ n. i < n) (length-map ps (record_at first xs)) lt_i in
    let j_there : j < length qs = subst (λ n. j < n) (length-map qs (record_at second ys)) lt_j in
    let a = row_there first xs ps i p at_first is_p i_there in
    let b = row_there second ys qs j q at_second is_q j_there in
    rw (record_there first xs ps i p none is_p i_there, record_there second ys qs j q none is_q j_there)
    (λ kinds other. (
      same_rows first second columns p.marked q.marked (piece xs p) (piece ys q) _ _ a.spelled b.spelled kinds other,
      same_bytes first second p.marked q.marked (piece xs p) (piece ys q) _ _ a.spelled b.spelled,
    ))
