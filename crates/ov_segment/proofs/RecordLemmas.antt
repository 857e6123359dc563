-- What stands at the front of a record's bytes, and that it stands nowhere else.
use Rattle.std.proofs.Common.{◌≡◌, ◌<◌, ◌≤◌, ◌+◌, ◌%◌, ◌^◌, ℕ, Bool, true, false, nat_le, List, [], ◌∷◌, ◌++◌, length, take, drop, refl, sym, ◌∙◌, ap, arith, append_assoc, length-append, length-take}
use Rattle.std.specs.List.{flat_map, All, AllByRecursion}
use Rattle.std.specs.Int.{w32, to_be_bytes}
use Rattle.std.proofs.lemmas.Bool.Decides.{nat_tests}
use Rattle.std.proofs.lemmas.Bool.{leb-true, leb-false}
use Rattle.std.proofs.lemmas.List.{take-append-drop, length-drop, drop-drop}
use Rattle.std.proofs.lemmas.Nat.{be_bytes_4, from_be_bytes-to_be_bytes_4}
use Rattle.ov_value.specs.declared.value.Value.{Value}
use Rattle.ov_value.specs.Shapes.{Shape}
use Rattle.ov_value.specs.declared.value.Value.TheVariants.{Int, Text, Flag, Null}
use Rattle.ov_value.specs.Spelling.{value_bytes, kept, mark_bytes, row_spelling, IsSpelling, IsRow, IsShort}
use Rattle.std.proofs.lemmas.List.Elements.{All-from_recursion}
use Rattle.ov_value.proofs.LowBytes.{AreBytes, take_fits, drop_fits}
use Rattle.ov_segment.specs.declared.numbered.Record.{Record}
use Rattle.ov_segment.specs.Segments.{with_mark, record_bytes}
use Rattle.ov_segment.specs.Reading.{rid_at, number_at, len_at, marked_at, InBounds, Begins}

-- a length and its mark, and back
mark_back : (marked : Bool) (len : ℕ) → len ≤ 65536 → (with_mark marked len < 2 ^ 32) × (with_mark marked len % 2 ^ 31 ≡ len) × (nat_le (2 ^ 31) (with_mark marked len) ≡ marked)
mark_back true len h = (omega arith, omega arith, grind (arith, nat_tests))
mark_back false len h = (omega arith, omega arith, grind (arith, nat_tests))

mark_again : (number : ℕ) → number < 2 ^ 32 → with_mark (nat_le (2 ^ 31) number) (number % 2 ^ 31) ≡ number
mark_again number h = by (nat_le (2 ^ 31) number) refl
  where
    by : (b : Bool) → nat_le (2 ^ 31) number ≡ b → with_mark b (number % 2 ^ 31) ≡ number
    by true e = let high : 2 ^ 31 ≤ number = leb-true (2 ^ 31) number e in omega arith
    by false e = let low : number < 2 ^ 31 = leb-false (2 ^ 31) number e in omega arith

-- a record's bytes are at the front
pub record Front (held : List ℕ) (r : Record) (rest : List ℕ) : Type 0 where
  pub rid : rid_at held ≡ r.rid
  pub len : len_at held ≡ length (row_spelling r.row).bytes
  pub marked : marked_at held ≡ (row_spelling r.row).marked
  pub behind : drop 8 held ≡ (row_spelling r.row).bytes ++ rest
  pub whole : 8 + length (row_spelling r.row).bytes ≤ length held

pub front : (schema : Shape) (last : ℕ) (held : List ℕ) (r : Record) (rest : List ℕ) → Begins schema last held r rest → Front held r rest
unfolding record_bytes
front schema last held r rest b =
    let number : ℕ = with_mark (row_spelling r.row).marked (length (row_spelling r.row).bytes) in
    let back = mark_back (row_spelling r.row).marked (length (row_spelling r.row).bytes) b.next.small in
    let number_is : number_at held ≡ with_mark (row_spelling r.row).marked (length (row_spelling r.row).bytes) = ap (λ (l : List ℕ). number_at l) b.held_is ∙ from_be_bytes-to_be_bytes_4 _ back.0 in
    record {
      rid = ap (λ (l : List ℕ). rid_at l) b.held_is ∙ from_be_bytes-to_be_bytes_4 r.rid (omega (arith, b.next.below));
      len = ap (λ n. n % 2 ^ 31) number_is ∙ back.1;
      marked = ap (λ n. nat_le (2 ^ 31) n) number_is ∙ back.2;
      behind = ap (drop 8) b.held_is;
      whole = rw b.held_is (omega (arith, length-append (row_spelling r.row).bytes rest));
    }

assemble : (a n x rest : List ℕ) → a ++ (n ++ (x ++ rest)) ≡ (a ++ (n ++ x)) ++ rest
assemble a n x rest = ap (λ (l : List ℕ). a ++ l) (sym (append_assoc n x rest)) ∙ sym (append_assoc a (n ++ x) rest)

whole_is : (held : List ℕ) (len : ℕ) → held ≡ take 4 held ++ (take 4 (drop 4 held) ++ (take len (drop 8 held) ++ drop (8 + len) held))
whole_is held len =
    let eight : drop 4 (drop 4 held) ≡ drop 8 held = drop-drop 4 4 held in
    let behind : drop len (drop 8 held) ≡ drop (8 + len) held = drop-drop len 8 held in
    sym (take-append-drop 4 held)
    ∙ ap (λ (l : List ℕ). take 4 held ++ l) (sym (take-append-drop 4 (drop 4 held))
    ∙ ap (λ (l : List ℕ). take 4 (drop 4 held) ++ l) (eight ∙ sym (take-append-drop len (drop 8 held)) ∙ ap (λ (l : List ℕ). take len (drop 8 held) ++ l) behind))

-- four bytes are a number of 32 bits
number-small : (held : List ℕ) → AreBytes (drop 4 held) → number_at held < 2 ^ 32
number-small held bytes =
    let four : AreBytes (take 4 (drop 4 held)) = take_fits 4 (drop 4 held) bytes in
    omega (arith, four 0, four 1, four 2, four 3)

-- and from what is at the front, a record
pub record_again : (schema : Shape) (last : ℕ) (held : List ℕ) (row : List Value) → AreBytes held → 8 ≤ length held → InBounds last held → 8 + len_at held ≤ length held
    → IsRow schema row → IsSpelling row (marked_at held) (take (len_at held) (drop 8 held))
    → Begins schema last held (record { rid = rid_at held; row = row }) (drop (8 + len_at held) held)
unfolding record_bytes
record_again schema last held row bytes eight bounds whole is spelled =
    let long : length (take (len_at held) (drop 8 held)) ≡ len_at held = omega (arith, length-take (len_at held) (drop 8 held), length-drop 8 held) in
    let len_is : length (row_spelling row).bytes ≡ len_at held = ap length (sym spelled.1) ∙ long in
    let first : to_be_bytes w32 (rid_at held) ≡ take 4 held = be_bytes_4 (take 4 held) (rid_at held) (omega (arith, length-take 4 held)) (take_fits 4 held bytes) refl in
    let number : to_be_bytes w32 (number_at held) ≡ take 4 (drop 4 held) =
    be_bytes_4 (take 4 (drop 4 held)) (number_at held) (omega (arith, length-take 4 (drop 4 held), length-drop 4 held)) (take_fits 4 (drop 4 held) (drop_fits 4 held bytes)) refl in
    let marked : with_mark (row_spelling row).marked (length (row_spelling row).bytes) ≡ number_at held =
    (λ i. with_mark (sym spelled.0 i) (len_is i)) ∙ mark_again (number_at held) (number-small held (drop_fits 4 held bytes)) in
    record {
      next = record { above = bounds.above; below = bounds.below; row = is; small = omega (arith, len_is, bounds.small) };
      held_is =
          whole_is held (len_at held)
          ∙ assemble (take 4 held) (take 4 (drop 4 held)) (take (len_at held) (drop 8 held)) (drop (8 + len_at held) held)
          ∙ (λ i. (sym first i ++ (sym (ap (to_be_bytes w32) marked ∙ number) i ++ spelled.1 i)) ++ drop (8 + len_at held) held);
    }

-- ---- a row of few bytes has short texts

short_value : (v : Value) → length (value_bytes v) ≤ 65536 → IsShort v
short_value (Int _) h = tt
short_value (Text text) h = omega arith
short_value (Flag _) h = tt
short_value Null h = tt

short_all : (row : List Value) → length (flat_map value_bytes row) ≤ 65536 → AllByRecursion IsShort row
short_all [] h = tt
short_all (v ∷ vs) h =
    let parts : length (value_bytes v ++ flat_map value_bytes vs) ≡ length (value_bytes v) + length (flat_map value_bytes vs) = length-append (value_bytes v) (flat_map value_bytes vs) in
    (short_value v (omega (arith, parts, h)), short_all vs (omega (arith, parts, h)))

pub short_row : (row : List Value) → length (row_spelling row).bytes ≤ 65536 → All IsShort row
unfolding row_spelling
short_row row h =
    All-from_recursion IsShort row (short_all row (omega (arith, length-append (mark_bytes (kept row)) (flat_map value_bytes row), h)))

-- a number and bytes, appended one after another
pub appended : (old first second bytes : List ℕ) → ((old ++ first) ++ second) ++ bytes ≡ old ++ (first ++ (second ++ bytes))
appended old first second bytes = append_assoc (old ++ first) second bytes ∙ append_assoc old first (second ++ bytes)
