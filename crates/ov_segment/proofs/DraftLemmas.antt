-- A row in the making, with one value more.
use Rattle.std.proofs.Common.{◌≡◌, ◌≢◌, ◌<◌, ◌≤◌, ◌+◌, ◌*◌, ◌/◌, ◌%◌, ◌^◌, ◌==◌, ◌++◌, ◌∷◌, [], ℕ, zero, suc, Bool, true, false, not, cond, IsTrue, nat_lt, List, length, take, min, refl, sym, ◌∙◌, ap, arith, append_assoc, length-append}
use Rattle.std.specs.List.{flat_map, list_any}
use Rattle.std.specs.Int.{w64, byte_at, bytes_low_first, to_le_bytes}
use Rattle.std.proofs.Math.Nat.{pow-suc, div-div-eq-div-mul}
use Rattle.std.proofs.lemmas.Bool.{lt-ltb, le-ltb, ne_eqb, false_from_ne_true, true_from_ne_false}
use Rattle.std.proofs.lemmas.List.{append-nil}
use Rattle.std.proofs.lemmas.Grind.{flat_map-append}
use Rattle.ov_value.specs.declared.value.Value.{Value}
use Rattle.ov_value.specs.declared.value.Value.TheVariants.{Null}
use Rattle.ov_value.specs.Rows.{is_null, value_at}
use Rattle.ov_value.specs.Spelling.{value_bytes, kept, marks, low_bytes, mark_bytes, row_spelling}
use Rattle.ov_value.proofs.KeptLemmas.{kept-push_null, kept-push_value}
use Rattle.ov_value.proofs.MarkLemmas.{marks_none, marks_some, mark_bytes_none, length-mark_bytes}
use Rattle.ov_value.proofs.Standing.{stands_is}
use Rattle.ov_segment.specs.Drafts.{Draft, Holds, IsWhole, ArePartsOf}

-- the marks of one value more
marks-push : (xs : List Value) (v : Value) → marks (xs ++ v ∷ []) ≡ marks xs + cond (is_null v) (2 ^ length xs) 0
marks-push [] v = by (is_null v)
  where
    by : (b : Bool) → cond b 1 0 + 2 * 0 ≡ 0 + cond b (2 ^ 0) 0
    by true = refl
    by false = refl
marks-push (x ∷ xs) v = by (is_null v) (marks-push xs v)
  where
    by : (b : Bool) → marks (xs ++ v ∷ []) ≡ marks xs + cond b (2 ^ length xs) 0 → cond (is_null x) 1 0 + 2 * marks (xs ++ v ∷ []) ≡ cond (is_null x) 1 0 + 2 * marks xs + cond b (2 ^ suc (length xs)) 0
    by true e = rw pow-suc (omega (arith, e))
    by false e = omega (arith, e)

bytes-push : (xs : List Value) (v : Value) → flat_map value_bytes (xs ++ v ∷ []) ≡ flat_map value_bytes xs ++ value_bytes v
bytes-push xs v = flat_map-append value_bytes xs (v ∷ []) ∙ ap (λ (l : List ℕ). flat_map value_bytes xs ++ l) (append-nil (value_bytes v))

pub held_null : (d : Draft) (values : List Value) (nulls count : ℕ) → Holds d values → nulls ≡ d.nulls + 2 ^ d.count → count ≡ d.count + 1
    → Holds (record { count = count; nulls = nulls; width = d.width; marks = d.marks; size = d.size; bytes = d.bytes }) (values ++ Null ∷ [])
held_null d values nulls count h more next =
    let bytes : flat_map value_bytes (values ++ Null ∷ []) ≡ flat_map value_bytes values = bytes-push values Null ∙ append-nil (flat_map value_bytes values) in
    record {
      count_is = omega (arith, next, h.count_is, length-append values (Null ∷ []));
      nulls_are = more ∙ (λ i. h.nulls_are i + 2 ^ h.count_is i) ∙ sym (marks-push values Null);
      width_is = h.width_is ∙ ap length (sym (kept-push_null values));
      marks_are = h.marks_are ∙ ap marks (sym (kept-push_null values));
      size_is = h.size_is ∙ ap (λ (l : List ℕ). min (length l) 0xffff_ffff_ffff_ffff) (sym bytes);
      bytes_are = λ few. h.bytes_are few ∙ sym bytes;
    }

pub held_value : (d : Draft) (values : List Value) (v : Value) (front rest bytes : List ℕ) (count size : ℕ) → Holds d values → ArePartsOf v front rest → count ≡ d.count + 1
    → size ≡ min (min (d.size + length front) 0xffff_ffff_ffff_ffff + length rest) 0xffff_ffff_ffff_ffff
    → (size ≤ 65536 → bytes ≡ (d.bytes ++ front) ++ rest)
    → Holds (record { count = count; nulls = d.nulls; width = count; marks = d.nulls; size = size; bytes = bytes }) (values ++ v ∷ [])
held_value d values v front rest bytes count size h parts next counted made =
    let push = bytes-push values v in
    let kept_is : kept (values ++ v ∷ []) ≡ values ++ v ∷ [] = kept-push_value values v parts.some in
    let count_is : count ≡ length (values ++ v ∷ []) = omega (arith, next, h.count_is, length-append values (v ∷ [])) in
    let same : marks (values ++ v ∷ []) ≡ marks values = marks-push values v ∙ rw parts.some (omega arith) in
    let len : length (flat_map value_bytes (values ++ v ∷ [])) ≡ length (flat_map value_bytes values) + (length front + length rest) =
    ap length push ∙ length-append (flat_map value_bytes values) (value_bytes v) ∙ ap (λ n. length (flat_map value_bytes values) + n) parts.size in
    record {
      count_is = count_is;
      nulls_are = h.nulls_are ∙ sym same;
      width_is = count_is ∙ ap length (sym kept_is);
      marks_are = h.nulls_are ∙ sym same ∙ ap marks (sym kept_is);
      size_is = omega (arith, counted, h.size_is, len);
      bytes_are = λ few.
          made few ∙ ap (λ (l : List ℕ). (l ++ front) ++ rest) (h.bytes_are (omega (arith, counted, few)))
          ∙ append_assoc (flat_map value_bytes values) front rest
          ∙ ap (λ (l : List ℕ). flat_map value_bytes values ++ l) (sym (parts.bytes (omega (arith, counted, few))))
          ∙ sym push;
    }

-- the same of a value whose bytes come at once
pub held_bytes : (d : Draft) (values : List Value) (v : Value) (added bytes : List ℕ) (count size : ℕ) → Holds d values → is_null v ≡ false → value_bytes v ≡ added → count ≡ d.count + 1
    → size ≡ min (d.size + length added) 0xffff_ffff_ffff_ffff
    → (size ≤ 65536 → bytes ≡ d.bytes ++ added)
    → Holds (record { count = count; nulls = d.nulls; width = count; marks = d.nulls; size = size; bytes = bytes }) (values ++ v ∷ [])
held_bytes d values v added bytes count size h some is next counted made =
    held_value d values v added [] bytes count size h (record { some = some; size = omega (arith, ap (λ (l : List ℕ). length l) is); bytes = λ few. is ∙ sym (append-nil added) }) next
    (omega (arith, counted)) (λ few. made few ∙ sym (append-nil (d.bytes ++ added)))

-- ---- what the marks say

pub value_there : (d : Draft) (values : List Value) (place : ℕ) → Holds d values → place < d.width
    → (IsTrue (d.marks / 2 ^ place % 2 == 0) → value_at values place ≢ Null) × (value_at values place ≢ Null → IsTrue (d.marks / 2 ^ place % 2 == 0))
value_there d values place h lt =
    let there : nat_lt place (length (kept values)) ≡ true = lt-ltb place (length (kept values)) (omega (arith, h.width_is)) in
    let stands = rw there at (stands_is values place) in
    rw h.marks_are stands

pub value_past : (d : Draft) (values : List Value) (place : ℕ) → Holds d values → d.width ≤ place
    → (IsTrue (nat_lt place d.width) → value_at values place ≢ Null) × (value_at values place ≢ Null → IsTrue (nat_lt place d.width))
value_past d values place h le =
    let past : nat_lt place (length (kept values)) ≡ false = le-ltb place (length (kept values)) (omega (arith, h.width_is)) in
    let stands = rw past at (stands_is values place) in
    rw (h.width_is, past) stands

-- none of them is NULL where no mark is set
pub null_where : (values : List Value) (n : ℕ) → n ≡ marks values → (not (n == 0)) ≡ list_any is_null values
null_where values n e = by (list_any is_null values) refl
  where
    by : (b : Bool) → list_any is_null values ≡ b → (not (n == 0)) ≡ b
    by true some = let more : 0 < marks values = marks_some values some in rw (ne_eqb n 0 (λ z. omega (arith, z, e, more))) refl
    by false none = rw (e, marks_none values none) refl

unmarked : (values : List Value) → marks (kept values) ≡ 0 → list_any is_null (kept values) ≡ false
unmarked values e = false_from_ne_true (list_any is_null (kept values)) (λ t. omega (arith, marks_some (kept values) t, e))

marked : (values : List Value) → marks (kept values) ≢ 0 → list_any is_null (kept values) ≡ true
marked values e = true_from_ne_false (list_any is_null (kept values)) (λ f. e (marks_none (kept values) f))

-- ---- the bytes of the row

pub len_plain : (d : Draft) (values : List Value) → Holds d values → d.marks ≡ 0 → d.size ≡ min (length (row_spelling values).bytes) 0xffff_ffff_ffff_ffff
unfolding row_spelling
len_plain d values h e = rw (mark_bytes_none (kept values) (unmarked values (sym h.marks_are ∙ e))) h.size_is

pub len_marked : (d : Draft) (values : List Value) (len : ℕ) → Holds d values → d.marks ≢ 0 → len ≡ min (d.size + (1 + (d.width + 7) / 8)) 0xffff_ffff_ffff_ffff
    → len ≡ min (length (row_spelling values).bytes) 0xffff_ffff_ffff_ffff
unfolding row_spelling
len_marked d values len h e is =
    let some : list_any is_null (kept values) ≡ true = marked values (λ z. e (h.marks_are ∙ z)) in
    let len_is : 1 + (d.width + 7) / 8 ≡ length (mark_bytes (kept values)) = ap (λ n. 1 + (n + 7) / 8) h.width_is ∙ length-mark_bytes (kept values) some in
    omega (arith, is, len_is, h.size_is, length-append (mark_bytes (kept values)) (flat_map value_bytes values))

kept_bytes : (d : Draft) (values : List Value) → IsWhole d values → d.bytes ≡ flat_map value_bytes values
unfolding row_spelling
kept_bytes d values w = w.holds.bytes_are (omega (arith, w.holds.size_is, w.small, length-append (mark_bytes (kept values)) (flat_map value_bytes values)))

pub whole_plain : (d : Draft) (values : List Value) → IsWhole d values → d.marks ≡ 0 → (false ≡ (row_spelling values).marked) × (d.bytes ≡ (row_spelling values).bytes)
unfolding row_spelling
whole_plain d values w e =
    let none = unmarked values (sym w.holds.marks_are ∙ e) in
    (sym none, kept_bytes d values w ∙ ap (λ (l : List ℕ). l ++ flat_map value_bytes values) (sym (mark_bytes_none (kept values) none)))

-- the low bytes of a number are the first of those that it has with the low byte first
byte_is : (i n : ℕ) → byte_at i n ≡ n / 256 ^ i % 256
byte_is zero n = omega arith
byte_is (suc i) n = refl

low_first : (i k n : ℕ) → bytes_low_first i k n ≡ low_bytes k (n / 256 ^ i)
low_first i zero n = refl
low_first i (suc k) n =
    let next : n / 256 ^ suc i ≡ n / 256 ^ i / 256 = rw pow-suc (ap (λ m. n / m) (omega arith) ∙ sym (div-div-eq-div-mul n (256 ^ i) 256)) in
    (λ j. byte_is i n j ∷ low_first (suc i) k n j) ∙ ap (λ m. n / 256 ^ i % 256 ∷ low_bytes k m) next

take-low : (count more n : ℕ) → count ≤ more → take count (low_bytes more n) ≡ low_bytes count n
take-low zero more n h = refl
take-low (suc count) zero n h = absurd (omega arith)
take-low (suc count) (suc more) n h = ap (λ (l : List ℕ). n % 256 ∷ l) (take-low count more (n / 256) (omega arith))

low_of : (count n : ℕ) → count ≤ 8 → take count (to_le_bytes w64 n) ≡ low_bytes count n
low_of count n h =
    let one : n / 256 ^ 0 ≡ n = omega arith in
    ap (take count) (low_first 0 8 n) ∙ ap (λ m. take count (low_bytes 8 m)) one ∙ take-low count 8 n h

pub whole_marked : (d : Draft) (values : List Value) → IsWhole d values → d.marks ≢ 0 → d.width ≤ 64
    → (true ≡ (row_spelling values).marked) × (d.width ∷ (take ((d.width + 7) / 8) (to_le_bytes w64 d.marks) ++ d.bytes) ≡ (row_spelling values).bytes)
unfolding row_spelling
whole_marked d values w e few =
    let some : list_any is_null (kept values) ≡ true = marked values (λ z. e (w.holds.marks_are ∙ z)) in
    let front : d.width ∷ take ((d.width + 7) / 8) (to_le_bytes w64 d.marks) ≡ mark_bytes (kept values) =
    ap (λ (l : List ℕ). d.width ∷ l) (low_of ((d.width + 7) / 8) d.marks (omega (arith, few)))
    ∙ (λ i. w.holds.width_is i ∷ low_bytes ((w.holds.width_is i + 7) / 8) (w.holds.marks_are i))
    ∙ rw some refl in
    (sym some, λ i. front i ++ kept_bytes d values w i)

-- behind the old bytes
pub behind_one : (old rest : List ℕ) (n : ℕ) → (old ++ n ∷ []) ++ rest ≡ old ++ (n ∷ rest)
behind_one old rest n = append_assoc old (n ∷ []) rest

pub behind_front : (old front rest : List ℕ) (n : ℕ) → (old ++ n ∷ front) ++ rest ≡ old ++ (n ∷ (front ++ rest))
behind_front old front rest n = append_assoc old (n ∷ front) rest
