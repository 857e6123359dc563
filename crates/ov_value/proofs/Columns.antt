-- What holds in the course of reading a row's values, one a column.
use Rattle.std.proofs.Common.{◌≡◌, ◌≢◌, ◌<◌, ◌+◌, ◌/◌, ◌%◌, ◌==◌, ◌||◌, ℕ, suc, Bool, true, false, List, [], ◌∷◌, ◌++◌, length, take, drop, get_or, refl, sym, ◌∙◌, ap, subst, arith, append_assoc, add-one}
use Rattle.std.proofs.lemmas.List.{append-nil, nil_from_length}
use Rattle.std.proofs.lemmas.Bool.{eqb-true, eqb-false}
use Rattle.std.proofs.Math.Seq.{take-suc, drop-cons, take-length, drop-length}
use Rattle.std.specs.List.{flat_map, list_any, AllByRecursion}
use Rattle.std.proofs.lemmas.Grind.{flat_map-append}
use Rattle.std.proofs.lemmas.List.Folds.{list_any-append}
use Rattle.ov_value.specs.declared.column.Column.{Column}
use Rattle.ov_value.specs.declared.value.Value.{Value}
use Rattle.ov_value.specs.declared.value.Value.TheVariants.{Null}
use Rattle.ov_value.specs.Rows.{is_null, IsOfKind, HasKinds}
use Rattle.ov_value.specs.Spelling.{value_bytes, kept}
use Rattle.ov_value.specs.Reading.{Steps, Lies, Finds, HasSpelling}
use Rattle.ov_value.proofs.KeptLemmas.{null_is, kept-push_null, kept-push_value}
use Rattle.ov_value.proofs.Parts.{Front, lies_front, lies_end, steps_same}

pub HasKinds-push : (values : List Value) (columns : List Column) (v : Value) (column : Column) → HasKinds values columns → IsOfKind v column.kind → HasKinds (values ++ v ∷ []) (columns ++ column ∷ [])
HasKinds-push [] [] v column h k = (k, tt)
HasKinds-push [] (c ∷ cs) v column h k = absurd h
HasKinds-push (x ∷ xs) [] v column h k = absurd h
HasKinds-push (x ∷ xs) (c ∷ cs) v column h k = (h.0, HasKinds-push xs cs v column h.1 k)

all-push : (values : List Value) (v : Value) → AllByRecursion HasSpelling values → HasSpelling v → AllByRecursion HasSpelling (values ++ v ∷ [])
all-push [] v h s = (s, tt)
all-push (x ∷ xs) v h s = (h.0, all-push xs v h.1 s)

-- where there are no marks: no NULL stands before a value
pub record NoMarks (marks : ℕ) (values : List Value) (rest : List ℕ) : Type 0 where
  pub none : marks ≡ 0
  pub before : 0 < length rest → list_any is_null values ≡ false
  pub kept_none : list_any is_null (kept values) ≡ false

-- what is left of a row whose front has been read
pub record Left (columns : List Column) (marks : ℕ) (rest : List ℕ) (values row : List Value) : Type 0 where
  pub tail : List Value
  pub row_is : row ≡ values ++ tail
  pub lies : Lies columns marks rest tail

-- so many columns have been read
pub record HasRead (columns : List Column) (nulls : ℕ) (bytes : List ℕ) (done : ℕ) (values : List Value) (marks : ℕ) (rest : List ℕ) : Type 0 where
  pub kinds : HasKinds values (take done columns)
  pub spelled : AllByRecursion HasSpelling values
  pub bytes_are : bytes ≡ flat_map value_bytes values ++ rest
  pub plain : nulls ≡ 0 → NoMarks marks values rest
  pub only : (row : List Value) → Lies columns nulls bytes row → Left (drop done columns) marks rest values row

pub read_first : (columns : List Column) (nulls : ℕ) (bytes : List ℕ) → HasRead columns nulls bytes 0 [] nulls bytes
read_first columns nulls bytes = record {
  kinds = tt;
  spelled = tt;
  bytes_are = refl;
  plain = λ e. record { none = e; before = λ h. refl; kept_none = refl };
  only = λ row lies. record { tail = row; row_is = refl; lies = lies };
}

no_marks_step : (marks : ℕ) (values : List Value) (rest : List ℕ) (column : Column) (v : Value) (after : List ℕ) → NoMarks marks values rest → Steps column.kind (marks % 2 == 1) rest v after → NoMarks (marks / 2) (values ++ v ∷ []) after
no_marks_step marks values rest column v after h step = by (is_null v) refl
  where
    by : (b : Bool) → is_null v ≡ b → NoMarks (marks / 2) (values ++ v ∷ []) after
    by true e =
        let is : v ≡ Null = null_is v e in
        let ended : length rest ≡ 0 = eqb-true (length rest) 0 (subst (λ m. (m % 2 == 1 || length rest == 0) ≡ true) h.none (sym step.null_where ∙ e)) in
        let after_is : rest ≡ after = step.bytes_are ∙ ap (λ (w : Value). value_bytes w ++ after) is in
        record {
          none = omega (arith, h.none);
          before = λ more. absurd (omega (arith, ap length after_is));
          kept_none = ap (λ (w : Value). list_any is_null (kept (values ++ w ∷ []))) is ∙ ap (list_any is_null) (kept-push_null values) ∙ h.kept_none;
        }
    by false e =
        let more : (length rest == 0) ≡ false = subst (λ m. (m % 2 == 1 || length rest == 0) ≡ false) h.none (sym step.null_where ∙ e) in
        let before : list_any is_null values ≡ false = h.before (let ne : length rest ≢ 0 = eqb-false (length rest) 0 more in omega arith) in
        let all : list_any is_null (values ++ v ∷ []) ≡ false = list_any-append is_null values (v ∷ []) ∙ (λ i. before i || (e i || false)) in
        record { none = omega (arith, h.none); before = λ _. all; kept_none = ap (list_any is_null) (kept-push_value values v e) ∙ all }

-- the value of the next column
next_of : (columns : List Column) (done : ℕ) (column : Column) (marks : ℕ) (rest : List ℕ) (row : List Value) → done < length columns → column ≡ get_or columns done column
    → Lies (drop done columns) marks rest row → Front column (drop (done + 1) columns) marks rest row
next_of columns done column marks rest row lt is lies =
    let split : drop done columns ≡ column ∷ drop (done + 1) columns = rw add-one (drop-cons columns done column lt ∙ ap (λ (c : Column). c ∷ drop (suc done) columns) (sym is)) in
    lies_front column (drop (done + 1) columns) marks rest row (subst (λ (l : List Column). Lies l marks rest row) split lies)

pub read_next : (columns : List Column) (nulls : ℕ) (bytes : List ℕ) (done : ℕ) (values : List Value) (marks : ℕ) (rest : List ℕ) (column : Column) (v : Value) (after : List ℕ)
    → HasRead columns nulls bytes done values marks rest → done < length columns → column ≡ get_or columns done column
    → Steps column.kind (marks % 2 == 1) rest v after
    → HasRead columns nulls bytes (done + 1) (values ++ v ∷ []) (marks / 2) after
read_next columns nulls bytes done values marks rest column v after h lt is step = record {
  kinds =
      let front : take (done + 1) columns ≡ take done columns ++ column ∷ [] = rw add-one (take-suc columns done column lt ∙ ap (λ (c : Column). take done columns ++ c ∷ []) (sym is)) in
      rw front (HasKinds-push values (take done columns) v column h.kinds step.of_kind);
  spelled = all-push values v h.spelled step.spelled;
  bytes_are =
      let more : flat_map value_bytes (values ++ v ∷ []) ≡ flat_map value_bytes values ++ value_bytes v =
      flat_map-append value_bytes values (v ∷ []) ∙ ap (λ (l : List ℕ). flat_map value_bytes values ++ l) (append-nil (value_bytes v)) in
      h.bytes_are ∙ ap (λ (l : List ℕ). flat_map value_bytes values ++ l) step.bytes_are
      ∙ sym (append_assoc (flat_map value_bytes values) (value_bytes v) after) ∙ ap (λ (l : List ℕ). l ++ after) (sym more);
  plain = λ e. no_marks_step marks values rest column v after (h.plain e) step;
  only = λ row lies.
      let left = h.only row lies in
      let next = next_of columns done column marks rest left.tail lt is left.lies in
      let same = steps_same column.kind (marks % 2 == 1) rest next.value (flat_map value_bytes next.tail) v after next.steps step in
      record {
        tail = next.tail;
        row_is = left.row_is ∙ ap (λ (l : List Value). values ++ l) next.row_is ∙ ap (λ (w : Value). values ++ w ∷ next.tail) same.0 ∙ sym (append_assoc values (v ∷ []) next.tail);
        lies = subst (λ (l : List ℕ). Lies (drop (done + 1) columns) (marks / 2) l next.tail) same.1 next.lies;
      };
}

-- where nothing can be read next, no row has these bytes
pub read_none : (columns : List Column) (nulls : ℕ) (bytes : List ℕ) (done : ℕ) (values : List Value) (marks : ℕ) (rest : List ℕ) (column : Column)
    → HasRead columns nulls bytes done values marks rest → done < length columns → column ≡ get_or columns done column
    → ((v : Value) (after : List ℕ) → Steps column.kind (marks % 2 == 1) rest v after → ⊥)
    → (row : List Value) → Lies columns nulls bytes row → ⊥
read_none columns nulls bytes done values marks rest column h lt is none row lies =
    let left = h.only row lies in
    let next = next_of columns done column marks rest left.tail lt is left.lies in
    none next.value (flat_map value_bytes next.tail) next.steps

-- all columns have been read
pub read_all : (columns : List Column) (nulls : ℕ) (bytes : List ℕ) (values : List Value) (marks : ℕ) (rest : List ℕ) → HasRead columns nulls bytes (length columns) values marks rest → length rest ≡ 0 → Finds columns nulls bytes values
read_all columns nulls bytes values marks rest h e =
    let ended : rest ≡ [] = nil_from_length rest e in
    record {
      kinds = subst (HasKinds values) (take-length columns) h.kinds;
      spelled = h.spelled;
      bytes_are = h.bytes_are ∙ ap (λ (l : List ℕ). flat_map value_bytes values ++ l) ended ∙ append-nil (flat_map value_bytes values);
      plain = λ z. (h.plain z).kept_none;
    }

pub read_only : (columns : List Column) (nulls : ℕ) (bytes : List ℕ) (values : List Value) (marks : ℕ) (rest : List ℕ) → HasRead columns nulls bytes (length columns) values marks rest
    → (row : List Value) → Lies columns nulls bytes row → (values ≡ row) × (length rest ≡ 0)
read_only columns nulls bytes values marks rest h row lies =
    let left = h.only row lies in
    let end = lies_end marks rest left.tail (subst (λ (l : List Column). Lies l marks rest left.tail) (drop-length columns) left.lies) in
    (sym (left.row_is ∙ ap (λ (l : List Value). values ++ l) end.0 ∙ append-nil values), ap length end.1)
