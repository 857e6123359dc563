-- A line that is written field by field.
use Rattle.std.proofs.Common.{◌≡◌, ◌<◌, ◌≤◌, ◌+◌, ◌++◌, ◌==◌, ◌∷◌, ◌∙◌, [], ℕ, List, refl, sym, ap, length, drop, get_or, arith, append_assoc, append-nil, length-append}
use Rattle.std.specs.Prelude.{if◌then◌else◌}
use Rattle.std.proofs.lemmas.Bool.{eq-eqb, ne_eqb}
use Rattle.std.proofs.lemmas.List.{drop_more, drop_all}
use Rattle.csv.specs.Writing.{default_writer, field_text, fields_text, is_blank, next_sep, row_body, row_text}
use Rattle.csv.proofs.WriteFacts.{row-more}
use Rattle.ov_value.specs.declared.column.Column.{Column}
use Rattle.ov_value.specs.declared.value.Value.{Value}
use Rattle.ov_value.specs.Shapes.{names}
use Rattle.ov_model.specs.Csv.{field_of, fields_of}

-- Some fields of a line stand behind what was there, as many as its place says; those that are left are to come.
pub record Writes (before : List ℕ) (all : List (List ℕ)) (place : ℕ) (left : List (List ℕ)) (text : List ℕ) : Type 0 where
  pub fields : List (List ℕ)
  pub placed : length fields ≡ place
  pub all_is : all ≡ fields ++ left
  pub text_is : text ≡ before ++ row_body default_writer fields

pub writes_none : (before : List ℕ) (all : List (List ℕ)) → Writes before all 0 all before
writes_none before all = record { fields = []; placed = refl; all_is = refl; text_is = sym (append-nil before) }

pub writes_more : (before : List ℕ) (all : List (List ℕ)) (place : ℕ) (field : List ℕ) (from left : List (List ℕ)) (text new : List ℕ) → Writes before all place from text → from ≡ field ∷ left
    → new ≡ text ++ (next_sep default_writer place ++ field_text default_writer field) → Writes before all (place + 1) left new
writes_more before all place field from left text new w split added =
    let body : List ℕ = row_body default_writer w.fields in
    record {
      fields = w.fields ++ field ∷ [];
      placed = omega (arith, w.placed, length-append w.fields (field ∷ []));
      all_is = w.all_is ∙ ap (λ l. w.fields ++ l) split ∙ sym (append_assoc w.fields (field ∷ []) left);
      text_is =
          added ∙ ap (λ l. l ++ (next_sep default_writer place ++ field_text default_writer field)) w.text_is
          ∙ append_assoc before body (next_sep default_writer place ++ field_text default_writer field)
          ∙ ap (λ l. before ++ l) (ap (λ n. body ++ (next_sep default_writer n ++ field_text default_writer field)) (sym w.placed) ∙ sym (row-more default_writer w.fields field));
    }

-- no field is left
pub writes_all : (before : List ℕ) (all : List (List ℕ)) (place : ℕ) (left : List (List ℕ)) (text : List ℕ) → Writes before all place left text → left ≡ [] → text ≡ before ++ row_body default_writer all
writes_all before all place left text w none =
    let all_is : all ≡ w.fields = w.all_is ∙ ap (λ l. w.fields ++ l) none ∙ append-nil w.fields in
    w.text_is ∙ ap (λ l. before ++ row_body default_writer l) (sym all_is)

-- a line is blank where it shows no byte
blank_is : (fields : List (List ℕ)) → is_blank default_writer fields ≡ (length (row_body default_writer fields) == 0)
unfolding is_blank fields_text
blank_is [] = refl
blank_is (field ∷ []) = ap (λ l. length l == 0) (sym (append-nil (field_text default_writer field)))
blank_is (field ∷ next ∷ rest) =
    let more : List ℕ = field_text default_writer next ++ fields_text default_writer rest in
    sym (ne_eqb _ 0 (λ none. omega (arith, none, length-append (field_text default_writer field) (44 ∷ more))))

same_length : (before body : List ℕ) → (length (before ++ body) == length before) ≡ (length body == 0)
same_length before [] = eq-eqb _ _ (ap length (append-nil before))
same_length before (b ∷ bs) =
    ne_eqb (length (before ++ b ∷ bs)) (length before) (λ e. omega (arith, e, length-append before (b ∷ bs))) ∙ sym (ne_eqb (length (b ∷ bs)) 0 (λ e. omega (arith, e)))

-- the fields of a line, and its end
pub line_is : (before : List ℕ) (fields : List (List ℕ)) (start : ℕ) (text new : List ℕ) → start ≡ length before → text ≡ before ++ row_body default_writer fields
    → new ≡ text ++ ((if length text == start then 34 ∷ 34 ∷ [] else []) ++ 10 ∷ []) → new ≡ before ++ row_text default_writer fields
line_is before fields start text new at is ended =
    let body : List ℕ = row_body default_writer fields in
    let blank : (length text == start) ≡ is_blank default_writer fields = (λ i. length (is i) == at i) ∙ same_length before body ∙ sym (blank_is fields) in
    ended
    ∙ (λ i. is i ++ ((if blank i then 34 ∷ 34 ∷ [] else []) ++ 10 ∷ []))
    ∙ append_assoc before body ((if is_blank default_writer fields then 34 ∷ 34 ∷ [] else []) ++ 10 ∷ [])

-- the fields from a place on are that of the value there, and the others
pub fields_split : (columns : List Column) (place : ℕ) (rest after : List Value) (column : Column) (v : Value) → place < length columns → column ≡ get_or columns place column → rest ≡ v ∷ after
    → fields_of (drop place columns) rest ≡ field_of column.kind v ∷ fields_of (drop (place + 1) columns) after
fields_split columns place rest after column v here is split =
    let from : drop place columns ≡ column ∷ drop (place + 1) columns = drop_more columns place column here ∙ ap (λ (c : Column). c ∷ drop (place + 1) columns) (sym is) in
    λ i. fields_of (from i) (split i)

no_values : (columns : List Column) → fields_of columns [] ≡ []
no_values [] = refl
no_values (c ∷ cs) = refl

-- no value is left, or no column
pub fields_none : (columns : List Column) (rest : List Value) → rest ≡ [] → fields_of columns rest ≡ []
fields_none columns rest none = ap (fields_of columns) none ∙ no_values columns

pub fields_end : (columns : List Column) (place : ℕ) (rest : List Value) → length columns ≤ place → fields_of (drop place columns) rest ≡ []
fields_end columns place rest past = ap (λ (l : List Column). fields_of l rest) (drop_all place columns past)

-- the names from a place on
pub names_split : (columns : List Column) (place : ℕ) (column : Column) → place < length columns → column ≡ get_or columns place column → names (drop place columns) ≡ column.name ∷ names (drop (place + 1) columns)
names_split columns place column here is = ap names (drop_more columns place column here ∙ ap (λ (c : Column). c ∷ drop (place + 1) columns) (sym is))
