-- The header of a journal, where some of its bytes change.
use Rattle.std.proofs.Common.{◌≡◌, ◌≢◌, ◌<◌, ◌≤◌, ◌⊎◌, inl, inr, ℕ, ◌+◌, ◌^◌, Bool, true, false, Option, Some, None, List, ◌++◌, length, take, drop, get_or, refl, sym, ◌∙◌, ap, arith}
use Rattle.std.specs.Prelude.{if◌then◌else◌, nat_lt}
use Rattle.std.specs.Int.{w32, from_be_bytes}
use Rattle.std.proofs.lemmas.Bool.{ne_eqb, le-ltb, lt-ltb}
use Rattle.std.proofs.lemmas.List.{drop-drop, get_or-take, get_or-drop, length-take, length-drop, take-append-drop}
use Rattle.std.proofs.lemmas.Grind.{same_number_lists}
use Rattle.std.proofs.lemmas.Nat.{from_be_bytes-to_be_bytes_4}
use Rattle.std.proofs.lemmas.Option.{same_Some, none-some}
use Rattle.ov_journal.specs.declared.header.Side.{Side}
use Rattle.ov_journal.specs.declared.header.Side.TheVariants.{First, Second}
use Rattle.ov_journal.specs.Bytes.{AreSame, Slot, IsHeader, fields_of, greater_of, is_open, live_place, number_at, other_of, place_of, slot_at}

-- ---- pieces of bytes

pub piece_same : (b c : List ℕ) (from n : ℕ) → from + n ≤ length b → from + n ≤ length c → AreSame from (from + n) b c → take n (drop from c) ≡ take n (drop from b)
piece_same b c from n long_b long_c same =
    same_number_lists (take n (drop from c)) (take n (drop from b))
    (omega (arith, length-take n (drop from c), length-take n (drop from b), length-drop from c, length-drop from b))
    (λ k lt.
    let below : k < n = omega (arith, length-take n (drop from c))
    in get_or-take n (drop from c) k 0 below
    ∙ get_or-drop from c k 0
    ∙ same (from + k) (omega arith) (omega arith)
    ∙ sym (get_or-drop from b k 0)
    ∙ sym (get_or-take n (drop from b) k 0 below))

-- fewer places
pub within : (from to first last : ℕ) (b c : List ℕ) → AreSame from to b c → from ≤ first → last ≤ to → AreSame first last b c
within from to first last b c same low high p lo hi = same p (omega arith) (omega arith)

-- a piece stands before the rest
pub piece_there : (at : ℕ) (c x : List ℕ) → take (length x) (drop at c) ≡ x → drop at c ≡ x ++ drop (length x) (drop at c)
piece_there at c x is = sym (take-append-drop (length x) (drop at c)) ∙ ap (λ b. b ++ drop (length x) (drop at c)) is

number_same : (b c : List ℕ) (p : ℕ) → p + 4 ≤ length b → p + 4 ≤ length c → AreSame p (p + 4) b c → number_at p c ≡ number_at p b
number_same b c p long_b long_c same = ap (from_be_bytes w32) (piece_same b c p 4 long_b long_c same)

-- ---- a slot

slot_same : (b c : List ℕ) (p : ℕ) → p + 13 ≤ length b → p + 13 ≤ length c → AreSame p (p + 13) b c → slot_at p c ≡ slot_at p b
slot_same b c p long_b long_c same =
    let Number = λ (at : ℕ) (low : p ≤ at) (high : at + 4 ≤ p + 13).
    number_same b c at (omega (arith, high, long_b)) (omega (arith, high, long_c)) (within p (p + 13) at (at + 4) b c same low high)
    in ap (λ (n : ℕ). let s : Slot = record { epoch = n; start = number_at (p + 5) c; format = number_at (p + 9) c } in s)
    (Number (p + 1) (omega arith) (omega arith))
    ∙ ap (λ (n : ℕ). let s : Slot = record { epoch = number_at (p + 1) b; start = n; format = number_at (p + 9) c } in s)
    (Number (p + 5) (omega arith) (omega arith))
    ∙ ap (λ (n : ℕ). let s : Slot = record { epoch = number_at (p + 1) b; start = number_at (p + 5) b; format = n } in s)
    (Number (p + 9) (omega arith) (omega arith))

-- the fields that were written read so
pub slot_written : (g : ℕ) (c : List ℕ) (slot : Slot) → take 12 (drop (g + 1) c) ≡ fields_of slot → slot.epoch < 2 ^ 32 → slot.start < 2 ^ 32 → slot.format < 2 ^ 32 → slot_at g c ≡ slot
slot_written g c slot is epoch start format =
    let rest : List ℕ = drop 12 (drop (g + 1) c)
    in let there : drop (g + 1) c ≡ fields_of slot ++ rest = piece_there (g + 1) c (fields_of slot) is
    in let Behind = λ (n at : ℕ) (place : at ≡ g + 1 + n). ap (λ m. drop m c) place ∙ sym (drop-drop n (g + 1) c) ∙ ap (drop n) there
    in let first : number_at (g + 1) c ≡ slot.epoch =
    ap (λ b. from_be_bytes w32 (take 4 b)) there ∙ from_be_bytes-to_be_bytes_4 slot.epoch epoch
    in let second : number_at (g + 5) c ≡ slot.start =
    ap (λ b. from_be_bytes w32 (take 4 b)) (Behind 4 (g + 5) (omega arith)) ∙ from_be_bytes-to_be_bytes_4 slot.start start
    in let third : number_at (g + 9) c ≡ slot.format =
    ap (λ b. from_be_bytes w32 (take 4 b)) (Behind 8 (g + 9) (omega arith)) ∙ from_be_bytes-to_be_bytes_4 slot.format format
    in ap (λ (n : ℕ). let s : Slot = record { epoch = n; start = number_at (g + 5) c; format = number_at (g + 9) c } in s) first
    ∙ ap (λ (n : ℕ). let s : Slot = record { epoch = slot.epoch; start = n; format = number_at (g + 9) c } in s) second
    ∙ ap (λ (n : ℕ). let s : Slot = record { epoch = slot.epoch; start = slot.start; format = n } in s) third

-- ---- which slot is live

abbrev live_by : Bool → Bool → ℕ → ℕ → Option ℕ
live_by first second m n =
    if first then (if second then greater_of m n else Some 12) else (if second then Some 25 else None)

first_open : (a b : Bool) (m n : ℕ) → live_by a b m n ≡ Some 12 → a ≡ true
first_open true b m n e = refl
first_open false true m n e = let f : 25 ≡ 12 = same_Some 25 12 e in absurd (omega (arith, f))
first_open false false m n e = absurd (none-some 12 e)

second_open : (a b : Bool) (m n : ℕ) → live_by a b m n ≡ Some 25 → b ≡ true
second_open a true m n e = refl
second_open true false m n e = let f : 12 ≡ 25 = same_Some 12 25 e in absurd (omega (arith, f))
second_open false false m n e = absurd (none-some 25 e)

live_same : (a b a' b' : Bool) (m n m' n' : ℕ) → a' ≡ a → b' ≡ b → m' ≡ m → n' ≡ n → live_by a' b' m' n' ≡ live_by a b m n
live_same a b a' b' m n m' n' ea eb em en =
    ap (λ x. live_by x b' m' n') ea ∙ ap (λ x. live_by a x m' n') eb ∙ ap (λ x. live_by a b x n') em ∙ ap (λ x. live_by a b m x) en

second_newer : (m n : ℕ) → n ≡ m + 1 → greater_of m n ≡ Some 25
second_newer m n e =
    ap (λ t. if t then None else (if nat_lt n m then Some 12 else Some 25)) (ne_eqb m n (λ f. omega (arith, e, f)))
    ∙ ap (λ t. if t then Some 12 else Some 25) (le-ltb n m (omega (arith, e)))

first_newer : (m n : ℕ) → m ≡ n + 1 → greater_of m n ≡ Some 12
first_newer m n e =
    ap (λ t. if t then None else (if nat_lt n m then Some 12 else Some 25)) (ne_eqb m n (λ f. omega (arith, e, f)))
    ∙ ap (λ t. if t then Some 12 else Some 25) (lt-ltb n m (omega (arith, e)))

-- a gate as a test
abbrev pub gate_of : ℕ → List ℕ → Bool
gate_of place b = is_open (get_or b place 0)

pub closed_gate : (place : ℕ) (c : List ℕ) → get_or c place 0 ≢ 165 → gate_of place c ≡ false
closed_gate place c closed = ne_eqb (get_or c place 0) 165 closed

opened_gate : (place : ℕ) (c : List ℕ) → get_or c place 0 ≡ 165 → gate_of place c ≡ true
opened_gate place c opened = ap is_open opened

-- the live slot's gate is open
pub live_open : (side : Side) (b : List ℕ) → live_place b ≡ Some (place_of side) → gate_of (place_of side) b ≡ true
live_open First b live = first_open (gate_of 12 b) (gate_of 25 b) (number_at 13 b) (number_at 26 b) live
live_open Second b live = second_open (gate_of 12 b) (gate_of 25 b) (number_at 13 b) (number_at 26 b) live

module _ (b c : List ℕ) (long_b : 38 ≤ length b) (long_c : 38 ≤ length c) where
  epoch_first : AreSame 12 25 b c → number_at 13 c ≡ number_at 13 b
  epoch_first same =
      number_same b c 13 (omega (arith, long_b)) (omega (arith, long_c)) (within 12 25 13 17 b c same (omega arith) (omega arith))

  epoch_second : AreSame 25 38 b c → number_at 26 c ≡ number_at 26 b
  epoch_second same =
      number_same b c 26 (omega (arith, long_b)) (omega (arith, long_c)) (within 25 38 26 30 b c same (omega arith) (omega arith))

  gate_first : AreSame 12 25 b c → gate_of 12 c ≡ gate_of 12 b
  gate_first same = ap is_open (same 12 (omega arith) (omega arith))

  gate_second : AreSame 25 38 b c → gate_of 25 c ≡ gate_of 25 b
  gate_second same = ap is_open (same 25 (omega arith) (omega arith))

  -- the live slot stays so where the other's gate is closed, or that slot stays too
  live_stays : (side : Side) → live_place b ≡ Some (place_of side) → AreSame (place_of side) (place_of side + 13) b c
      → (get_or c (place_of (other_of side)) 0 ≢ 165) ⊎ AreSame (place_of (other_of side)) (place_of (other_of side) + 13) b c → live_place c ≡ Some (place_of side)
  live_stays First live same (inl closed) =
      ap (λ t. live_by t (gate_of 25 c) (number_at 13 c) (number_at 26 c))
      (gate_first same ∙ first_open (gate_of 12 b) (gate_of 25 b) (number_at 13 b) (number_at 26 b) live)
      ∙ ap (λ t. live_by true t (number_at 13 c) (number_at 26 c)) (closed_gate 25 c closed)
  live_stays First live same (inr other) =
      live_same (gate_of 12 b) (gate_of 25 b) (gate_of 12 c) (gate_of 25 c) (number_at 13 b) (number_at 26 b) (number_at 13 c) (number_at 26 c)
      (gate_first same) (gate_second other) (epoch_first same) (epoch_second other)
      ∙ live
  live_stays Second live same (inl closed) =
      ap (λ t. live_by t (gate_of 25 c) (number_at 13 c) (number_at 26 c)) (closed_gate 12 c closed)
      ∙ ap (λ t. live_by false t (number_at 13 c) (number_at 26 c))
      (gate_second same ∙ second_open (gate_of 12 b) (gate_of 25 b) (number_at 13 b) (number_at 26 b) live)
  live_stays Second live same (inr other) =
      live_same (gate_of 12 b) (gate_of 25 b) (gate_of 12 c) (gate_of 25 c) (number_at 13 b) (number_at 26 b) (number_at 13 c) (number_at 26 c)
      (gate_first other) (gate_second same) (epoch_first other) (epoch_second same)
      ∙ live

  -- the other slot becomes the live one, with the next epoch
  live_turns : (side : Side) (slot next : Slot) → live_place b ≡ Some (place_of side) → slot_at (place_of side) b ≡ slot → AreSame (place_of side) (place_of side + 13) b c
      → get_or c (place_of (other_of side)) 0 ≡ 165 → slot_at (place_of (other_of side)) c ≡ next → next.epoch ≡ slot.epoch + 1 → live_place c ≡ Some (place_of (other_of side))
  live_turns First slot next live fields same opened written later =
      let old : number_at 13 c ≡ slot.epoch = epoch_first same ∙ ap (λ (s : Slot). s.epoch) fields
      in let new : number_at 26 c ≡ next.epoch = ap (λ (s : Slot). s.epoch) written
      in ap (λ t. live_by t (gate_of 25 c) (number_at 13 c) (number_at 26 c))
      (gate_first same ∙ first_open (gate_of 12 b) (gate_of 25 b) (number_at 13 b) (number_at 26 b) live)
      ∙ ap (λ t. live_by true t (number_at 13 c) (number_at 26 c)) (opened_gate 25 c opened)
      ∙ second_newer (number_at 13 c) (number_at 26 c) (omega (arith, old, new, later))
  live_turns Second slot next live fields same opened written later =
      let old : number_at 26 c ≡ slot.epoch = epoch_second same ∙ ap (λ (s : Slot). s.epoch) fields
      in let new : number_at 13 c ≡ next.epoch = ap (λ (s : Slot). s.epoch) written
      in ap (λ t. live_by t (gate_of 25 c) (number_at 13 c) (number_at 26 c)) (opened_gate 12 c opened)
      ∙ ap (λ t. live_by true t (number_at 13 c) (number_at 26 c))
      (gate_second same ∙ second_open (gate_of 12 b) (gate_of 25 b) (number_at 13 b) (number_at 26 b) live)
      ∙ first_newer (number_at 13 c) (number_at 26 c) (omega (arith, old, new, later))

  slot_high : (side : Side) → place_of side + 13 ≤ 38
  slot_high First = omega arith
  slot_high Second = omega arith

  -- ---- the header

  pub header_stays : (side : Side) (slot : Slot) → IsHeader (place_of side) slot b → AreSame 0 12 b c → AreSame (place_of side) (place_of side + 13) b c
      → (get_or c (place_of (other_of side)) 0 ≢ 165) ⊎ AreSame (place_of (other_of side)) (place_of (other_of side) + 13) b c → IsHeader (place_of side) slot c
  header_stays side slot is front same other =
      record {
        opened = front 0 (omega arith) (omega arith) ∙ is.opened;
        text =
            piece_same b c 1 11 (omega (arith, long_b)) (omega (arith, long_c)) (within 0 12 1 12 b c front (omega arith) (omega arith))
            ∙ is.text;
        live = live_stays side is.live same other;
        fields =
            slot_same b c (place_of side) (omega (arith, slot_high side, long_b)) (omega (arith, slot_high side, long_c)) same
            ∙ is.fields;
      }

  pub header_turns : (side : Side) (slot next : Slot) → IsHeader (place_of side) slot b → AreSame 0 12 b c → AreSame (place_of side) (place_of side + 13) b c
      → get_or c (place_of (other_of side)) 0 ≡ 165 → slot_at (place_of (other_of side)) c ≡ next → next.epoch ≡ slot.epoch + 1 → IsHeader (place_of (other_of side)) next c
  header_turns side slot next is front same opened written later =
      record {
        opened = front 0 (omega arith) (omega arith) ∙ is.opened;
        text =
            piece_same b c 1 11 (omega (arith, long_b)) (omega (arith, long_c)) (within 0 12 1 12 b c front (omega arith) (omega arith))
            ∙ is.text;
        live = live_turns side slot next is.live is.fields same opened written later;
        fields = written;
      }

-- ---- the first 38 bytes

all_same : (side : Side) (slot : Slot) (b c : List ℕ) → 38 ≤ length b → 38 ≤ length c → AreSame 0 38 b c → IsHeader (place_of side) slot b → IsHeader (place_of side) slot c
all_same side slot b c long_b long_c same is =
    header_stays b c long_b long_c side slot is
    (within 0 38 0 12 b c same (omega arith) (omega arith))
    (within 0 38 (place_of side) (place_of side + 13) b c same (omega arith) (slot_high b c long_b long_c side))
    (inr (within 0 38 (place_of (other_of side)) (place_of (other_of side) + 13) b c same (omega arith) (slot_high b c long_b long_c (other_of side))))

head-length : (b : List ℕ) → 38 ≤ length b → 38 ≤ length (take 38 b)
head-length b long = omega (arith, length-take 38 b)

pub head_of : (side : Side) (slot : Slot) (b : List ℕ) → 38 ≤ length b → IsHeader (place_of side) slot b → IsHeader (place_of side) slot (take 38 b)
head_of side slot b long is =
    all_same side slot b (take 38 b) long (head-length b long) (λ p low high. get_or-take 38 b p 0 high) is

pub head_in : (side : Side) (slot : Slot) (b : List ℕ) → 38 ≤ length b → IsHeader (place_of side) slot (take 38 b) → IsHeader (place_of side) slot b
head_in side slot b long is =
    all_same side slot (take 38 b) b (head-length b long) long (λ p low high. sym (get_or-take 38 b p 0 high)) is
