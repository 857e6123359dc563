-- The parts of a row's bytes: what stands in front is found in one way only.
use Rattle.std.proofs.Common.{◌≡◌, ◌<◌, ◌+◌, ◌*◌, ◌/◌, ◌%◌, ◌==◌, ◌||◌, ◌&&◌, ◌^◌, not, ℕ, ℤ, suc, Bool, true, false, IsUtf8, List, [], ◌∷◌, ◌++◌, length, take, drop, refl, sym, ◌∙◌, ap, arith}
use Rattle.std.specs.List.{flat_map}
use Rattle.std.specs.Int.{w32, w64, cast_signed, cast_unsigned, from_be_bytes, to_be_bytes}
use Rattle.std.proofs.lemmas.List.{take_at, drop_at}
use Rattle.std.proofs.lemmas.Nat.{from_be_bytes-to_be_bytes_4, from_be_bytes-to_be_bytes_8}
use Rattle.std.proofs.lemmas.Int.{to_z-of_z}
use Rattle.std.proofs.Math.Facts.{Fits-of_z}
use Rattle.std.proofs.lemmas.Bool.{eqb-true, false_from_ne_true}
use mathlib.Core.Bool.{true≢false}
use Rattle.ov_value.specs.declared.column.Column.{Column}
use Rattle.ov_value.specs.declared.column.Kind.{Kind}
use Rattle.ov_value.specs.declared.column.Kind.TheVariants as kind
use Rattle.ov_value.specs.declared.value.Value.{Value}
use Rattle.ov_value.specs.declared.value.Value.TheVariants.{Int, Text, Flag, Null}
use Rattle.ov_value.specs.Rows.{is_null}
use Rattle.ov_value.specs.Spelling.{value_bytes, kept_with, kept, marks}
use Rattle.ov_value.specs.Reading.{Begins, Steps, Lies}
use Rattle.ov_value.proofs.KeptLemmas.{null_is, flat_map-kept}

-- the bytes of a text in front are as many as the number before them
pub text_front : (bytes text rest : List ℕ) (n : ℕ) → length text < 2 ^ 32 → bytes ≡ value_bytes (Text text) ++ rest → n ≡ from_be_bytes w32 (take 4 bytes)
    → (n ≡ length text) × (take n (drop 4 bytes) ≡ text) × (drop n (drop 4 bytes) ≡ rest)
text_front bytes text rest n short e is =
    let front : take 4 bytes ≡ to_be_bytes w32 (length text) = ap (take 4) e in
    let behind : drop 4 bytes ≡ text ++ rest = ap (drop 4) e in
    let len : n ≡ length text = is ∙ ap (from_be_bytes w32) front ∙ from_be_bytes-to_be_bytes_4 (length text) short in
    (len, rw (behind, len) (take_at text rest (length text) refl), rw (behind, len) (drop_at text rest (length text) refl))

-- a text that stands in front is UTF-8
pub text_utf8 : (bytes : List ℕ) (value : Value) (rest : List ℕ) (n : ℕ) → Begins kind.Text bytes value rest → n ≡ from_be_bytes w32 (take 4 bytes) → IsUtf8 (take n (drop 4 bytes))
text_utf8 bytes (Text text) rest n b e = rw (text_front bytes text rest n b.spelled.1 b.bytes_are e).1 b.spelled.0
text_utf8 bytes (Int _) rest n b e = absurd b.of_kind
text_utf8 bytes (Flag _) rest n b e = absurd b.of_kind
text_utf8 bytes Null rest n b e = absurd (b.not_null refl)

same_int : (x y : ℤ) (bytes r s : List ℕ) → Begins kind.Int bytes (Int x) r → Begins kind.Int bytes (Int y) s → (Int x ≡ Int y) × (r ≡ s)
same_int x y bytes r s b c =
    let e : value_bytes (Int x) ++ r ≡ value_bytes (Int y) ++ s = sym b.bytes_are ∙ c.bytes_are in
    let fronts : to_be_bytes w64 (cast_unsigned w64 x) ≡ to_be_bytes w64 (cast_unsigned w64 y) = ap (take 8) e in
    let bits : cast_unsigned w64 x ≡ cast_unsigned w64 y =
    sym (from_be_bytes-to_be_bytes_8 (cast_unsigned w64 x) (omega (arith, Fits-of_z {w = w64} {z = x} b.spelled.0))) ∙ ap (from_be_bytes w64) fronts ∙ from_be_bytes-to_be_bytes_8 (cast_unsigned w64 y) (omega (arith, Fits-of_z {w = w64} {z = y} c.spelled.0)) in
    (ap Int (sym (to_z-of_z w64 x b.spelled.0) ∙ ap (cast_signed w64) bits ∙ to_z-of_z w64 y c.spelled.0), ap (drop 8) e)

same_text : (t u : List ℕ) (bytes r s : List ℕ) → Begins kind.Text bytes (Text t) r → Begins kind.Text bytes (Text u) s → (Text t ≡ Text u) × (r ≡ s)
same_text t u bytes r s b c =
    let first = text_front bytes t r (from_be_bytes w32 (take 4 bytes)) b.spelled.1 b.bytes_are refl in
    let second = text_front bytes u s (from_be_bytes w32 (take 4 bytes)) c.spelled.1 c.bytes_are refl in
    (ap Text (sym first.1 ∙ second.1), sym first.2 ∙ second.2)

same_flag : (x y : Bool) (bytes r s : List ℕ) → Begins kind.Flag bytes (Flag x) r → Begins kind.Flag bytes (Flag y) s → (Flag x ≡ Flag y) × (r ≡ s)
same_flag true true bytes r s b c = (refl, ap (drop 1) (sym b.bytes_are ∙ c.bytes_are))
same_flag false false bytes r s b c = (refl, ap (drop 1) (sym b.bytes_are ∙ c.bytes_are))
same_flag true false bytes r s b c = let e : 1 ∷ r ≡ 0 ∷ s = sym b.bytes_are ∙ c.bytes_are in cc
same_flag false true bytes r s b c = let e : 0 ∷ r ≡ 1 ∷ s = sym b.bytes_are ∙ c.bytes_are in cc

-- one value of a kind stands in front
pub begins_same : (k : Kind) (bytes : List ℕ) (v : Value) (r : List ℕ) (w : Value) (s : List ℕ) → Begins k bytes v r → Begins k bytes w s → (v ≡ w) × (r ≡ s)
begins_same kind.Int bytes (Int x) r (Int y) s b c = same_int x y bytes r s b c
begins_same kind.Int bytes (Int x) r (Text _) s b c = absurd c.of_kind
begins_same kind.Int bytes (Int x) r (Flag _) s b c = absurd c.of_kind
begins_same kind.Int bytes (Int x) r Null s b c = absurd (c.not_null refl)
begins_same kind.Int bytes (Text _) r w s b c = absurd b.of_kind
begins_same kind.Int bytes (Flag _) r w s b c = absurd b.of_kind
begins_same kind.Int bytes Null r w s b c = absurd (b.not_null refl)
begins_same kind.Text bytes (Text x) r (Text y) s b c = same_text x y bytes r s b c
begins_same kind.Text bytes (Text x) r (Int _) s b c = absurd c.of_kind
begins_same kind.Text bytes (Text x) r (Flag _) s b c = absurd c.of_kind
begins_same kind.Text bytes (Text x) r Null s b c = absurd (c.not_null refl)
begins_same kind.Text bytes (Int _) r w s b c = absurd b.of_kind
begins_same kind.Text bytes (Flag _) r w s b c = absurd b.of_kind
begins_same kind.Text bytes Null r w s b c = absurd (b.not_null refl)
begins_same kind.Flag bytes (Flag x) r (Flag y) s b c = same_flag x y bytes r s b c
begins_same kind.Flag bytes (Flag x) r (Text _) s b c = absurd c.of_kind
begins_same kind.Flag bytes (Flag x) r (Int _) s b c = absurd c.of_kind
begins_same kind.Flag bytes (Flag x) r Null s b c = absurd (c.not_null refl)
begins_same kind.Flag bytes (Text _) r w s b c = absurd b.of_kind
begins_same kind.Flag bytes (Int _) r w s b c = absurd b.of_kind
begins_same kind.Flag bytes Null r w s b c = absurd (b.not_null refl)

-- what is not NULL stands in front
pub begins_of : (k : Kind) (null : Bool) (bytes : List ℕ) (v : Value) (r : List ℕ) → Steps k null bytes v r → is_null v ≡ false → Begins k bytes v r
begins_of k null bytes v r step e = record {
  of_kind = step.of_kind;
  spelled = step.spelled;
  not_null = λ n. true≢false (sym (ap is_null n) ∙ e);
  bytes_are = step.bytes_are;
}

pub null_front : (k : Kind) (null : Bool) (bytes : List ℕ) (v : Value) (r : List ℕ) → Steps k null bytes v r → is_null v ≡ true → (v ≡ Null) × (bytes ≡ r)
null_front k null bytes v r step e =
    let is : v ≡ Null = null_is v e in
    (is, step.bytes_are ∙ ap (λ (w : Value). value_bytes w ++ r) is)

-- one value is the next
pub steps_same : (k : Kind) (null : Bool) (bytes : List ℕ) (v : Value) (r : List ℕ) (w : Value) (s : List ℕ) → Steps k null bytes v r → Steps k null bytes w s → (v ≡ w) × (r ≡ s)
steps_same k null bytes v r w s step other = by (is_null v) refl
  where
    alike : is_null v ≡ is_null w
    alike = step.null_where ∙ sym other.null_where

    by : (b : Bool) → is_null v ≡ b → (v ≡ w) × (r ≡ s)
    by true e =
        let first = null_front k null bytes v r step e in
        let second = null_front k null bytes w s other (sym alike ∙ e) in
        (first.0 ∙ sym second.0, sym first.1 ∙ second.1)
    by false e = begins_same k bytes v r w s (begins_of k null bytes v r step e) (begins_of k null bytes w s other (sym alike ∙ e))

-- ---- rows

pub not_zero : (n : ℕ) → (suc n == 0) ≡ false
not_zero n = false_from_ne_true (suc n == 0) (λ e. let z : suc n ≡ 0 = eqb-true (suc n) 0 e in omega arith)

even : (n : ℕ) → ((0 + 2 * n) % 2 == 1 ≡ false) × ((0 + 2 * n) / 2 ≡ n)
even n = let r : (0 + 2 * n) % 2 ≡ 0 = omega arith in (rw r refl, omega arith)

odd : (n : ℕ) → ((1 + 2 * n) % 2 == 1 ≡ true) × ((1 + 2 * n) / 2 ≡ n)
odd n = let r : (1 + 2 * n) % 2 ≡ 1 = omega arith in (rw r refl, omega arith)

-- the mark of the first value, and those of the rest
mark_front : (v : Value) (ys : List Value) → (marks (kept_with v ys) % 2 == 1 ≡ (is_null v && not (length ys == 0))) × (marks (kept_with v ys) / 2 ≡ marks ys)
mark_front (Int _) ys = even (marks ys)
mark_front (Text _) ys = even (marks ys)
mark_front (Flag _) ys = even (marks ys)
mark_front Null [] = (refl, refl)
mark_front Null (y ∷ ys) =
    let more = odd (marks (y ∷ ys)) in
    (more.0 ∙ ap not (sym (not_zero (length ys))), more.1)

-- a value is NULL where its mark says so, or no bytes are left
null_law : (v : Value) (vs : List Value) → is_null v ≡ ((is_null v && not (length (kept vs) == 0)) || length (value_bytes v ++ flat_map value_bytes vs) == 0)
null_law (Int x) vs = sym (not_zero _)
null_law (Text x) vs = sym (not_zero _)
null_law (Flag x) vs = sym (not_zero _)
null_law Null vs = by (kept vs) (flat_map-kept vs)
  where
    by : (ys : List Value) → flat_map value_bytes ys ≡ flat_map value_bytes vs → true ≡ (not (length ys == 0) || length (flat_map value_bytes vs) == 0)
    by [] e = ap (λ (l : List ℕ). length l == 0) e
    by (y ∷ ys) e = ap (λ b. not b || length (flat_map value_bytes vs) == 0) (sym (not_zero (length ys)))

-- the first value of a row, and the rest of it
pub record Front (column : Column) (columns : List Column) (nulls : ℕ) (bytes : List ℕ) (row : List Value) : Type 0 where
  pub value : Value
  pub tail : List Value
  pub row_is : row ≡ value ∷ tail
  pub steps : Steps column.kind (nulls % 2 == 1) bytes value (flat_map value_bytes tail)
  pub lies : Lies columns (nulls / 2) (flat_map value_bytes tail) tail

pub lies_front : (column : Column) (columns : List Column) (nulls : ℕ) (bytes : List ℕ) (row : List Value) → Lies (column ∷ columns) nulls bytes row → Front column columns nulls bytes row
lies_front column columns nulls bytes [] lies = absurd lies.kinds
lies_front column columns nulls bytes (v ∷ vs) lies =
    let mark = mark_front v (kept vs) in
    let first : nulls % 2 == 1 ≡ (is_null v && not (length (kept vs) == 0)) = ap (λ n. n % 2 == 1) (sym lies.marked) ∙ mark.0 in
    record {
      value = v;
      tail = vs;
      row_is = refl;
      steps = record {
        of_kind = lies.kinds.0;
        spelled = lies.spelled.0;
        null_where = rw (first, lies.bytes_are) (null_law v vs);
        bytes_are = lies.bytes_are;
      };
      lies = record {
        kinds = lies.kinds.1;
        spelled = lies.spelled.1;
        marked = sym mark.1 ∙ ap (λ n. n / 2) lies.marked;
        bytes_are = refl;
      };
    }

-- no columns, no bytes
pub lies_end : (nulls : ℕ) (bytes : List ℕ) (row : List Value) → Lies [] nulls bytes row → (row ≡ []) × (bytes ≡ [])
lies_end nulls bytes [] lies = (refl, lies.bytes_are)
lies_end nulls bytes (v ∷ vs) lies = absurd lies.kinds
