-- The row of bytes as a function: it is the row that has the bytes, and it is found from the left.
use Rattle.std.proofs.Common.{◌≡◌, ◌≢◌, ◌<◌, ◌≤◌, ◌+◌, ◌*◌, ◌/◌, ◌%◌, ◌==◌, ◌||◌, ℕ, suc, Bool, true, false, cond, List, [], ◌∷◌, ◌++◌, length, take, drop, get_or, refl, sym, ◌∙◌, ap, subst, arith, add-one}
use Rattle.std.proofs.Math.Seq.{drop-cons}
use Rattle.std.proofs.Math.Facts.{Fits-of_z}
use Rattle.std.specs.List.{flat_map}
use Rattle.std.specs.Int.{w64, from_be_bytes, to_be_bytes, cast_signed, cast_unsigned}
use Rattle.std.proofs.lemmas.Nat.{from_be_bytes-to_be_bytes_8}
use Rattle.std.proofs.lemmas.Int.{to_z-of_z}
use Rattle.std.proofs.lemmas.Bool.{eqb-true, eqb-false, false_from_ne_true}
use Rattle.std.proofs.lemmas.List.{nil_from_length, drop_all}
use Rattle.ov_value.specs.declared.column.Column.{Column}
use Rattle.ov_value.specs.declared.column.Kind.{Kind}
use Rattle.ov_value.specs.declared.column.Kind.TheVariants as kind
use Rattle.ov_value.specs.declared.value.Value.{Value}
use Rattle.ov_value.specs.declared.value.Value.TheVariants.{Int, Text, Flag, Null}
use Rattle.ov_value.specs.Rows.{is_null}
use Rattle.ov_value.specs.Spelling.{value_bytes, kept_with, kept, marks}
use Rattle.ov_value.specs.Reading.{Begins, Steps, Lies}
use Rattle.ov_value.specs.Decoding.{front_value, front_rest, step_value, step_rest, decoded, CanRead, text_len}
use Rattle.ov_value.proofs.KeptLemmas.{null_is, flat_map-kept}
use Rattle.ov_value.proofs.Parts.{text_front, null_front, begins_of, lies_front, lies_end}

-- what stands in front is what the bytes decode to
pub front_is : (k : Kind) (bytes : List ℕ) (v : Value) (r : List ℕ) → Begins k bytes v r → (v ≡ front_value k bytes) × (r ≡ front_rest k bytes)
front_is kind.Int bytes (Int x) r b =
    let front : take 8 bytes ≡ to_be_bytes w64 (cast_unsigned w64 x) = ap (take 8) b.bytes_are in
    let bits : from_be_bytes w64 (take 8 bytes) ≡ cast_unsigned w64 x =
    ap (from_be_bytes w64) front ∙ from_be_bytes-to_be_bytes_8 (cast_unsigned w64 x) (omega (arith, Fits-of_z {w = w64} {z = x} b.spelled.0)) in
    (ap Int (sym (ap (cast_signed w64) bits ∙ to_z-of_z w64 x b.spelled.0)), sym (ap (drop 8) b.bytes_are))
front_is kind.Int bytes (Text _) r b = absurd b.of_kind
front_is kind.Int bytes (Flag _) r b = absurd b.of_kind
front_is kind.Int bytes Null r b = absurd (b.not_null refl)
front_is kind.Text bytes (Text t) r b =
    let is = text_front bytes t r (text_len bytes) b.spelled.1 b.bytes_are refl in
    (ap Text (sym is.1), sym is.2)
front_is kind.Text bytes (Int _) r b = absurd b.of_kind
front_is kind.Text bytes (Flag _) r b = absurd b.of_kind
front_is kind.Text bytes Null r b = absurd (b.not_null refl)
front_is kind.Flag bytes (Flag true) r b = (sym (ap (λ (l : List ℕ). Flag (get_or l 0 0 == 1)) b.bytes_are), sym (ap (drop 1) b.bytes_are))
front_is kind.Flag bytes (Flag false) r b = (sym (ap (λ (l : List ℕ). Flag (get_or l 0 0 == 1)) b.bytes_are), sym (ap (drop 1) b.bytes_are))
front_is kind.Flag bytes (Int _) r b = absurd b.of_kind
front_is kind.Flag bytes (Text _) r b = absurd b.of_kind
front_is kind.Flag bytes Null r b = absurd (b.not_null refl)

pub step_is : (k : Kind) (null : Bool) (bytes : List ℕ) (v : Value) (r : List ℕ) → Steps k null bytes v r → (v ≡ step_value k null bytes) × (r ≡ step_rest k null bytes)
step_is k null bytes v r step = by (is_null v) refl
  where
    by : (b : Bool) → is_null v ≡ b → (v ≡ step_value k null bytes) × (r ≡ step_rest k null bytes)
    by true e =
        let test : (null || length bytes == 0) ≡ true = sym step.null_where ∙ e in
        let front = null_front k null bytes v r step e in
        rw test (front.0, sym front.1)
    by false e =
        let test : (null || length bytes == 0) ≡ false = sym step.null_where ∙ e in
        rw test (front_is k bytes v r (begins_of k null bytes v r step e))

-- a row that has the bytes is what they decode to
pub lies_decoded : (columns : List Column) (nulls : ℕ) (bytes : List ℕ) (row : List Value) → Lies columns nulls bytes row → row ≡ decoded columns nulls bytes
lies_decoded [] nulls bytes row lies = (lies_end nulls bytes row lies).0
lies_decoded (column ∷ columns) nulls bytes row lies =
    let first = lies_front column columns nulls bytes row lies in
    let same = step_is column.kind (nulls % 2 == 1) bytes first.value (flat_map value_bytes first.tail) first.steps in
    let tail = lies_decoded columns (nulls / 2) (flat_map value_bytes first.tail) first.tail first.lies ∙ ap (λ (l : List ℕ). decoded columns (nulls / 2) l) same.1 in
    first.row_is ∙ (λ i. same.0 i ∷ tail i)

pub can_read : (columns : List Column) (nulls : ℕ) (bytes : List ℕ) (row : List Value) → Lies columns nulls bytes row → CanRead columns nulls bytes
can_read columns nulls bytes row lies = subst (λ (r : List Value). Lies columns nulls bytes r) (lies_decoded columns nulls bytes row lies) lies

-- the first of the values, and the bytes of the others
pub record Goes (column : Column) (columns : List Column) (nulls : ℕ) (bytes : List ℕ) : Type 0 where
  pub step : Steps column.kind (nulls % 2 == 1) bytes (step_value column.kind (nulls % 2 == 1) bytes) (step_rest column.kind (nulls % 2 == 1) bytes)
  pub others : CanRead columns (nulls / 2) (step_rest column.kind (nulls % 2 == 1) bytes)

pub can_go_on : (column : Column) (columns : List Column) (nulls : ℕ) (bytes : List ℕ) → CanRead (column ∷ columns) nulls bytes → Goes column columns nulls bytes
can_go_on column columns nulls bytes can =
    let row = decoded (column ∷ columns) nulls bytes in
    let first = lies_front column columns nulls bytes row can in
    let same = step_is column.kind (nulls % 2 == 1) bytes first.value (flat_map value_bytes first.tail) first.steps in
    record {
      step = subst (λ (l : List ℕ). Steps column.kind (nulls % 2 == 1) bytes (step_value column.kind (nulls % 2 == 1) bytes) l) same.1
          (subst (λ (v : Value). Steps column.kind (nulls % 2 == 1) bytes v (flat_map value_bytes first.tail)) same.0 first.steps);
      others = subst (λ (l : List ℕ). CanRead columns (nulls / 2) l) same.1 (can_read columns (nulls / 2) (flat_map value_bytes first.tail) first.tail first.lies);
    }

-- ---- from the first value and the others

kept_more : (v : Value) (ys : List Value) → (is_null v ≡ true → 0 < length ys) → kept_with v ys ≡ v ∷ ys
kept_more (Int _) ys h = refl
kept_more (Text _) ys h = refl
kept_more (Flag _) ys h = refl
kept_more Null [] h = absurd (omega (arith, h refl))
kept_more Null (y ∷ ys) h = refl

-- values with bytes are kept
kept_some : (vs : List Value) → 0 < length (flat_map value_bytes vs) → 0 < length (kept vs)
kept_some vs h = by (kept vs) (flat_map-kept vs)
  where
    by : (ys : List Value) → flat_map value_bytes ys ≡ flat_map value_bytes vs → 0 < length ys
    by [] e = absurd (omega (arith, h, ap length e))
    by (y ∷ ys) e = omega arith

-- values with no bytes are all NULL
kept_none : (vs : List Value) → length (flat_map value_bytes vs) ≡ 0 → kept vs ≡ []
kept_none [] h = refl
kept_none (Int _ ∷ vs) h = absurd (omega (arith, h))
kept_none (Text _ ∷ vs) h = absurd (omega (arith, h))
kept_none (Flag _ ∷ vs) h = absurd (omega (arith, h))
kept_none (Null ∷ vs) h = rw (kept_none vs h) refl

-- bytes of a first value and of others are those of all, where some bytes are left
pub record Joined (column : Column) (columns : List Column) (nulls : ℕ) (bytes : List ℕ) (v : Value) (tail : List Value) : Type 0 where
  pub lies : Lies (column ∷ columns) nulls bytes (v ∷ tail)
  pub kept_is : kept (v ∷ tail) ≡ v ∷ kept tail

marks_front : (v : Value) (ys : List Value) (nulls : ℕ) → is_null v ≡ (nulls % 2 == 1) → marks ys ≡ nulls / 2 → marks (v ∷ ys) ≡ nulls
marks_front v ys nulls e h = by (is_null v) refl
  where
    by : (b : Bool) → is_null v ≡ b → cond (is_null v) 1 0 + 2 * marks ys ≡ nulls
    by true t = let odd : nulls % 2 ≡ 1 = eqb-true (nulls % 2) 1 (sym e ∙ t) in rw t (omega arith)
    by false t = let even : nulls % 2 ≢ 1 = eqb-false (nulls % 2) 1 (sym e ∙ t) in rw t (omega arith)

pub joined : (column : Column) (columns : List Column) (nulls : ℕ) (bytes : List ℕ) (v : Value) (rest : List ℕ) (tail : List Value) → 0 < length bytes
    → Steps column.kind (nulls % 2 == 1) bytes v rest → Lies columns (nulls / 2) rest tail → Joined column columns nulls bytes v tail
joined column columns nulls bytes v rest tail more step lies =
    let some : (length bytes == 0) ≡ false = false_from_ne_true (length bytes == 0) (λ e. let z : length bytes ≡ 0 = eqb-true (length bytes) 0 e in omega arith) in
    let null : is_null v ≡ (nulls % 2 == 1) = step.null_where ∙ ap (λ b. (nulls % 2 == 1) || b) some ∙ or_false (nulls % 2 == 1) in
    let all_kept : kept_with v (kept tail) ≡ v ∷ kept tail = kept_more v (kept tail) (λ e. kept_some tail (rw (← lies.bytes_are, ← (null_front column.kind (nulls % 2 == 1) bytes v rest step e).1) more)) in
    record {
      lies = record {
        kinds = (step.of_kind, lies.kinds);
        spelled = (step.spelled, lies.spelled);
        marked = ap marks all_kept ∙ marks_front v (kept tail) nulls null lies.marked;
        bytes_are = step.bytes_are ∙ ap (λ (l : List ℕ). value_bytes v ++ l) lies.bytes_are;
      };
      kept_is = all_kept;
    }
  where
    or_false : (b : Bool) → (b || false) ≡ b
    or_false true = refl
    or_false false = refl

-- ---- where no bytes are left

-- all values are NULL
pub nothing_left : (columns : List Column) → CanRead columns 0 [] × (kept (decoded columns 0 []) ≡ [])
nothing_left [] = (record { kinds = tt; spelled = tt; marked = refl; bytes_are = refl }, refl)
nothing_left (column ∷ columns) =
    let rest = nothing_left columns in
    let none : kept (decoded (column ∷ columns) 0 []) ≡ [] = ap (kept_with Null) rest.1 in (
      record {
        kinds = (tt, rest.0.kinds);
        spelled = ((tt, tt), rest.0.spelled);
        marked = ap marks none;
        bytes_are = rest.0.bytes_are;
      },
      none,
    )

pub none_marked : (columns : List Column) (nulls : ℕ) → CanRead columns nulls [] → nulls ≡ 0
none_marked columns nulls can =
    let none : kept (decoded columns nulls []) ≡ [] = kept_none (decoded columns nulls []) (sym (ap (λ (l : List ℕ). length l) can.bytes_are)) in
    sym can.marked ∙ ap marks none

-- ---- the walk over the columns

-- so many columns have been passed
pub record Passed (columns : List Column) (nulls : ℕ) (bytes : List ℕ) (passed marks : ℕ) (rest : List ℕ) : Type 0 where
  pub within : passed ≤ length columns
  pub needs : CanRead columns nulls bytes → CanRead (drop passed columns) marks rest
  pub enough : CanRead (drop passed columns) marks rest → CanRead columns nulls bytes
  pub kept_are : CanRead (drop passed columns) marks rest → length (kept (decoded columns nulls bytes)) ≡ passed + length (kept (decoded (drop passed columns) marks rest))

pub pass_none : (columns : List Column) (nulls : ℕ) (bytes : List ℕ) → Passed columns nulls bytes 0 nulls bytes
pass_none columns nulls bytes = record { within = omega arith; needs = λ can. can; enough = λ can. can; kept_are = λ can. omega arith }

at_column : (columns : List Column) (passed : ℕ) (column : Column) → passed < length columns → column ≡ get_or columns passed column → drop passed columns ≡ column ∷ drop (passed + 1) columns
at_column columns passed column lt is = rw add-one (drop-cons columns passed column lt ∙ ap (λ (c : Column). c ∷ drop (suc passed) columns) (sym is))

pub pass_more : (columns : List Column) (nulls : ℕ) (bytes : List ℕ) (passed marks : ℕ) (rest : List ℕ) (column : Column) (v : Value) (after : List ℕ)
    → Passed columns nulls bytes passed marks rest → passed < length columns → column ≡ get_or columns passed column → 0 < length rest
    → Steps column.kind (marks % 2 == 1) rest v after → Passed columns nulls bytes (passed + 1) (marks / 2) after
pass_more columns nulls bytes passed marks rest column v after h lt is more step =
    let same = step_is column.kind (marks % 2 == 1) rest v after step in
    let split = at_column columns passed column lt is in
    let others : List Column = drop (passed + 1) columns in
    let all : CanRead others (marks / 2) after → Joined column others marks rest v (decoded others (marks / 2) after) = λ can. joined column others marks rest v after (decoded others (marks / 2) after) more step can in
    let whole : v ∷ decoded others (marks / 2) after ≡ decoded (column ∷ others) marks rest = λ i. same.0 i ∷ decoded others (marks / 2) (same.1 i) in
    let back : CanRead others (marks / 2) after → CanRead (drop passed columns) marks rest = λ can.
    subst (λ (l : List Column). CanRead l marks rest) (sym split) (subst (λ (r : List Value). Lies (column ∷ others) marks rest r) whole (all can).lies) in
    record {
      within = omega arith;
      needs = λ can.
          let here : CanRead (column ∷ others) marks rest = subst (λ (l : List Column). CanRead l marks rest) split (h.needs can) in
          subst (λ (l : List ℕ). CanRead others (marks / 2) l) (sym same.1) (can_go_on column others marks rest here).others;
      enough = λ can. h.enough (back can);
      kept_are = λ can.
          let one : length (kept (decoded (drop passed columns) marks rest)) ≡ 1 + length (kept (decoded others (marks / 2) after)) =
          ap (λ (l : List Column). length (kept (decoded l marks rest))) split
          ∙ ap (λ (r : List Value). length (kept r)) (sym whole)
          ∙ ap (λ (r : List Value). length r) (all can).kept_is ∙ omega arith in
          omega (arith, h.kept_are (back can), one);
    }

-- a value that is marked NULL, and one that isn't
pub marked_step : (k : Kind) (marks : ℕ) (rest : List ℕ) → marks % 2 ≡ 1 → Steps k (marks % 2 == 1) rest Null rest
marked_step k marks rest odd = rw odd (record { of_kind = tt; spelled = (tt, tt); null_where = refl; bytes_are = refl })

pub plain_step : (k : Kind) (marks : ℕ) (rest : List ℕ) (v : Value) (after : List ℕ) → marks % 2 ≡ 0 → 0 < length rest → Begins k rest v after → Steps k (marks % 2 == 1) rest v after
plain_step k marks rest v after even more begins =
    let some : (length rest == 0) ≡ false = false_from_ne_true (length rest == 0) (λ e. let z : length rest ≡ 0 = eqb-true (length rest) 0 e in omega arith) in
    rw even (record {
      of_kind = begins.of_kind;
      spelled = begins.spelled;
      null_where = false_from_ne_true (is_null v) (λ e. begins.not_null (null_is v e)) ∙ sym some;
      bytes_are = begins.bytes_are;
    })

-- where no value of the kind begins, nothing can be read
pub pass_stops : (columns : List Column) (nulls : ℕ) (bytes : List ℕ) (passed marks : ℕ) (rest : List ℕ) (column : Column)
    → Passed columns nulls bytes passed marks rest → passed < length columns → column ≡ get_or columns passed column → marks % 2 ≡ 0 → 0 < length rest
    → ((v : Value) (after : List ℕ) → Begins column.kind rest v after → ⊥) → CanRead columns nulls bytes → ⊥
pass_stops columns nulls bytes passed marks rest column h lt is even more none can =
    let others : List Column = drop (passed + 1) columns in
    let here : CanRead (column ∷ others) marks rest = subst (λ (l : List Column). CanRead l marks rest) (at_column columns passed column lt is) (h.needs can) in
    let step = (can_go_on column others marks rest here).step in
    let some : (length rest == 0) ≡ false = false_from_ne_true (length rest == 0) (λ e. let z : length rest ≡ 0 = eqb-true (length rest) 0 e in omega arith) in
    let null : ((marks % 2 == 1) || (length rest == 0)) ≡ false = rw (even, some) refl in
    none _ _ (begins_of column.kind (marks % 2 == 1) rest _ _ step (step.null_where ∙ null))

-- the end: all bytes have been passed, and all marks
pub pass_all : (columns : List Column) (nulls : ℕ) (bytes : List ℕ) (passed marks : ℕ) (rest : List ℕ) → Passed columns nulls bytes passed marks rest → length rest ≡ 0 → marks ≡ 0
    → CanRead columns nulls bytes × (passed ≡ length (kept (decoded columns nulls bytes)))
pass_all columns nulls bytes passed marks rest h ended none =
    let left = nothing_left (drop passed columns) in
    let can : CanRead (drop passed columns) marks rest = rw (none, nil_from_length rest ended) left.0 in
    let kept_none : length (kept (decoded (drop passed columns) marks rest)) ≡ 0 = rw (none, nil_from_length rest ended) (ap (λ (r : List Value). length r) left.1) in
    (h.enough can, omega (arith, h.kept_are can, kept_none))

-- or not all
pub pass_short : (columns : List Column) (nulls : ℕ) (bytes : List ℕ) (passed marks : ℕ) (rest : List ℕ) → Passed columns nulls bytes passed marks rest
    → (0 < length rest → length columns ≤ passed) → (length rest ≡ 0 → marks ≢ 0) → CanRead columns nulls bytes → ⊥
pass_short columns nulls bytes passed marks rest h ended some can = by rest refl
  where
    by : (l : List ℕ) → rest ≡ l → ⊥
    by [] e = some (ap (λ (l : List ℕ). length l) e) (none_marked (drop passed columns) marks (subst (λ (l : List ℕ). CanRead (drop passed columns) marks l) e (h.needs can)))
    by (b ∷ bs) e =
        let more : 0 < length rest = omega (arith, ap (λ (l : List ℕ). length l) e) in
        let last : drop passed columns ≡ [] = drop_all passed columns (ended more) in
        let nil = (lies_end marks rest _ (subst (λ (l : List Column). CanRead l marks rest) last (h.needs can))).1 in
        omega (arith, more, ap (λ (l : List ℕ). length l) nil)
