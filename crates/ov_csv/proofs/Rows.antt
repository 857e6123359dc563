-- A record's fields and values from a place on, and what its refusal is made of.
use Rattle.std.proofs.Common.{◌≡◌, ◌<◌, ◌≤◌, ◌+◌, ◌++◌, ◌∷◌, ◌∙◌, [], ℕ, List, refl, sym, suc, length, drop, get_or, arith, ap, append-nil, append_assoc, length-append}
use Rattle.std.specs.Prelude.{Some, None, slice_index_or}
use Rattle.std.proofs.lemmas.List.{drop_more, drop_all}
use Rattle.ov_value.specs.declared.column.Column.{Column}
use Rattle.ov_value.specs.declared.value.Value.{Value}
use Rattle.ov_segment.specs.Drafts.{Draft, Holds}
use Rattle.ov_model.specs.Book.{Row}
use Rattle.ov_model.specs.Csv.{bad_field, field_value, or_null, row_in, unless_spelled}
use Rattle.ov_model.specs.declared.refusal.Refusal.TheVariants.{BadField}

-- what is known before the field at a place is read
pub record SoFar (nth : ℕ) (columns : List Column) (fields : List (List ℕ)) (place : ℕ) (draft : Draft) : Type 0 where
  pub good : bad_field nth columns fields ≡ bad_field nth (drop place columns) (drop place fields)
  pub values : Row
  pub placed : length values ≡ place
  pub made : row_in columns fields ≡ values ++ row_in (drop place columns) (drop place fields)
  pub holds : Holds draft values

pub so_far_none : (nth : ℕ) (columns : List Column) (fields : List (List ℕ)) (draft : Draft) → Holds draft [] → SoFar nth columns fields 0 draft
so_far_none nth columns fields draft h = record { good = refl; values = []; placed = refl; made = refl; holds = h }

-- the field at the place, and those behind it
module _ (columns : List Column) (fields : List (List ℕ)) (place : ℕ) (column : Column) (here : place < length columns) (width : length fields ≡ length columns) (is : column ≡ get_or columns place column) where
  columns_from : drop place columns ≡ column ∷ drop (place + 1) columns
  columns_from = drop_more columns place column here ∙ ap (λ (c : Column). c ∷ drop (place + 1) columns) (sym is)

  fields_from : drop place fields ≡ slice_index_or fields place [] ∷ drop (place + 1) fields
  fields_from = drop_more fields place [] (omega (arith, here, width))

  pub so_far_more : (nth : ℕ) (old new : Draft) (v : Value) → SoFar nth columns fields place old → field_value column.kind (slice_index_or fields place []) ≡ Some v
      → ((values : List Value) → Holds old values → Holds new (values ++ v ∷ [])) → SoFar nth columns fields (place + 1) new
  so_far_more nth old new v s spelled push = record {
    good =
        s.good
        ∙ (λ i. bad_field nth (columns_from i) (fields_from i))
        ∙ ap (λ o. unless_spelled o (Some (BadField nth column.name column.kind)) (bad_field nth (drop (place + 1) columns) (drop (place + 1) fields))) spelled;
    values = s.values ++ v ∷ [];
    placed = omega (arith, s.placed, length-append s.values (v ∷ []));
    made =
        s.made
        ∙ (λ i. s.values ++ row_in (columns_from i) (fields_from i))
        ∙ ap (λ o. s.values ++ or_null o ∷ row_in (drop (place + 1) columns) (drop (place + 1) fields)) spelled
        ∙ sym (append_assoc s.values (v ∷ []) (row_in (drop (place + 1) columns) (drop (place + 1) fields)));
    holds = push s.values s.holds;
  }

  pub refused_here : (nth : ℕ) (draft : Draft) → SoFar nth columns fields place draft → field_value column.kind (slice_index_or fields place []) ≡ None
      → bad_field nth columns fields ≡ Some (BadField nth column.name column.kind)
  refused_here nth draft s none =
      s.good
      ∙ (λ i. bad_field nth (columns_from i) (fields_from i))
      ∙ ap (λ o. unless_spelled o (Some (BadField nth column.name column.kind)) (bad_field nth (drop (place + 1) columns) (drop (place + 1) fields))) none

-- all fields are read
pub record AllRead (nth : ℕ) (columns : List Column) (fields : List (List ℕ)) (draft : Draft) : Type 0 where
  pub none : bad_field nth columns fields ≡ None
  pub holds : Holds draft (row_in columns fields)

pub all_read : (nth : ℕ) (columns : List Column) (fields : List (List ℕ)) (place : ℕ) (draft : Draft) → SoFar nth columns fields place draft → length columns ≤ place → AllRead nth columns fields draft
all_read nth columns fields place draft s past =
    let end : drop place columns ≡ [] = drop_all place columns past in
    let none : (fs : List (List ℕ)) → row_in [] fs ≡ [] = λ fs. refl in
    let row : row_in columns fields ≡ s.values = s.made ∙ (λ i. s.values ++ row_in (end i) (drop place fields)) ∙ append-nil s.values in
    record {
      none = s.good ∙ (λ i. bad_field nth (end i) (drop place fields));
      holds = rw row s.holds;
    }

-- a row has a value for each column, where there is a field for each
pub row_in-length : (columns : List Column) (fields : List (List ℕ)) → length fields ≡ length columns → length (row_in columns fields) ≡ length columns
row_in-length [] fields e = refl
row_in-length (column ∷ columns) [] e = cc
row_in-length (column ∷ columns) (field ∷ fields) e = ap suc (row_in-length columns fields (omega (arith, e)))
