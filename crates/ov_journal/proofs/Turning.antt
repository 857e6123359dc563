-- The bytes of a journal through a checkpoint: the other slot's gate is closed, the snapshot and that slot's fields are
-- written, and the gate is opened.
use Rattle.std.proofs.Common.{◌≡◌, ◌≢◌, ◌<◌, ◌≤◌, ◌⊎◌, inl, inr, ℕ, ◌+◌, ◌^◌, Bool, true, false, List, [], ◌∷◌, ◌++◌, length, take, drop, get_or, refl, sym, ◌∙◌, ap, subst, arith}
use Rattle.std.specs.List.{flat_map}
use Rattle.std.proofs.lemmas.Bool.{cases_lt, eqb-true}
use Rattle.std.proofs.lemmas.List.{append_assoc, take_at, drop_at, get_or-take, get_or-drop, length-take, length-append}
use Rattle.ov_host.specs.Tape.{Torn, overwritten}
use Rattle.ov_host.proofs.Writes.{same_off, torn_overwritten}
use Rattle.ov_journal.specs.declared.header.Side.{Side}
use Rattle.ov_journal.specs.declared.header.Side.TheVariants.{First, Second}
use Rattle.ov_journal.specs.Bytes.{AreSame, Slot, IsHeader, IsLive, fields_of, is_open, other_of, place_of, record_of}
use Rattle.ov_journal.specs.Journal.{Kept, IsJournal, end_of, slot_of}
use Rattle.ov_journal.specs.Snapshots.{frames_of, size_of}
use Rattle.ov_journal.proofs.Halves.{header_is, half_begins, half_stays, past_gate}
use Rattle.ov_journal.proofs.Records.{is_or_not, longer}
use Rattle.ov_journal.proofs.Slots.{gate_of, head_of, header_stays, header_turns, live_open, piece_same, slot_written}

-- ---- what was written

reads : (b x : List ℕ) (at : ℕ) → at ≤ length b → take (length x) (drop at (overwritten b at x)) ≡ x
reads b x at within =
    let front : length (take at b) ≡ at = omega (arith, length-take at b)
    in ap (λ xs. take (length x) (drop at xs)) (append_assoc (take at b) x (drop (at + length x) b))
    ∙ ap (take (length x)) (drop_at (take at b) (x ++ drop (at + length x) b) at front)
    ∙ take_at x (drop (at + length x) b) (length x) refl

reads_byte : (b : List ℕ) (g v : ℕ) → g ≤ length b → get_or (overwritten b g (v ∷ [])) g 0 ≡ v
reads_byte b g v within =
    let c : List ℕ = overwritten b g (v ∷ [])
    in ap (λ n. get_or c n 0) (omega arith)
    ∙ sym (get_or-drop g c 0 0)
    ∙ sym (get_or-take 1 (drop g c) 0 0 (omega arith))
    ∙ ap (λ (xs : List ℕ). get_or xs 0 0) (reads b (v ∷ []) g within)

reaches : (b x : List ℕ) (at : ℕ) → at ≤ length b → at + length x ≤ length (overwritten b at x)
reaches b x at within =
    omega (arith, length-append (take at b ++ x) (drop (at + length x) b), length-append (take at b) x, length-take at b)

-- ---- places

gate_low : (side : Side) → 12 ≤ place_of side
gate_low First = omega arith
gate_low Second = omega arith

gate_high : (side : Side) → place_of side + 13 ≤ 38
gate_high First = omega arith
gate_high Second = omega arith

-- the two slots lie apart
slots_apart : (side : Side) (p : ℕ) → place_of side ≤ p → p < place_of side + 13 → (p < place_of (other_of side)) ⊎ (place_of (other_of side) + 13 ≤ p)
slots_apart First p low high = inl (omega (arith, high))
slots_apart Second p low high = inr (omega (arith, low))

twice : (side : Side) → other_of (other_of side) ≡ side
twice First = refl
twice Second = refl

-- ---- what stays

-- the same bytes of the text, of the live slot and of the live half
record Keeps (kept : Kept) (side : Side) (b c : List ℕ) : Type 0 where
  long : length b ≤ length c
  front : AreSame 0 12 b c
  slot : AreSame (place_of side) (place_of side + 13) b c
  half : AreSame kept.start (end_of kept + 1) b c

module _ (kept : Kept) (side : Side) (spare_open : Bool) (b : List ℕ) (is : IsJournal kept b) (slots : IsLive side spare_open (take 38 b)) where
  abbrev gate : ℕ
  gate = place_of (other_of side)

  long_b : 38 ≤ length b
  long_b = omega (arith, longer kept b is)

  header : IsHeader (place_of side) (slot_of kept) b
  header = header_is kept side spare_open b is slots

  header_kept : (c : List ℕ) → Keeps kept side b c → (get_or c gate 0 ≢ 165) ⊎ AreSame gate (gate + 13) b c → IsHeader (place_of side) (slot_of kept) c
  header_kept c keeps other =
      header_stays b c long_b (omega (arith, long_b, keeps.long)) side (slot_of kept) header keeps.front keeps.slot other

  journal_kept : (c : List ℕ) → Keeps kept side b c → (get_or c gate 0 ≢ 165) ⊎ AreSame gate (gate + 13) b c → IsJournal kept c
  journal_kept c keeps other = half_stays kept side b c is (header_kept c keeps other) (omega (arith, past_gate kept b is, keeps.long)) keeps.half

  -- what stays where only one place before the other slot's fields and these fields change, and places off the live half
  keeps_off : (at n : ℕ) → 38 ≤ at → (at + n ≤ kept.start) ⊎ (end_of kept < at) → (c : List ℕ) → length b ≤ length c
      → ((p : ℕ) → p < length b → (p < at) ⊎ (at + n ≤ p) → (p < gate) ⊎ (gate + 13 ≤ p) → get_or c p 0 ≡ get_or b p 0) → Keeps kept side b c
  keeps_off at n low apart c long same =
      record {
        long = long;
        front = λ p lo hi. same p (omega (arith, hi, long_b)) (inl (omega (arith, hi, low))) (inl (omega (arith, hi, gate_low (other_of side))));
        slot = λ p lo hi. same p (omega (arith, hi, gate_high side, long_b)) (inl (omega (arith, hi, gate_high side, low))) (slots_apart side p lo hi);
        half = λ p lo hi.
            same p (omega (arith, hi, past_gate kept b is))
            (elim apart [ inl before ↦ inr (omega (arith, before, lo)) | inr behind ↦ inl (omega (arith, behind, hi)) ])
            (inr (omega (arith, gate_high (other_of side), is.begins.low, lo)));
      }

  -- ---- the other slot's gate

  -- some byte stands there
  gate_torn : (c : List ℕ) → Torn gate 1 b c → Keeps kept side b c
  gate_torn c torn =
      keeps_off 38 0 (omega arith) (inl (omega (arith, is.begins.low))) c torn.no_shorter
      (λ p below _ off. same_off b c gate 1 p torn (elim off [ inl before ↦ inl before | inr after ↦ inr (omega (arith, after)) ]))

  was_open : spare_open ≡ true → get_or b gate 0 ≡ 165
  was_open open_ =
      eqb-true (get_or b gate 0) 165
      (ap is_open (sym (get_or-take 38 b gate 0 (omega (arith, gate_high (other_of side))))) ∙ slots.spare ∙ open_)

  slot_torn : (c : List ℕ) → Torn gate 1 b c → get_or c gate 0 ≡ get_or b gate 0 → AreSame gate (gate + 13) b c
  slot_torn c torn same p low high =
      elim (cases_lt gate p) [
        | inl behind ↦ same_off b c gate 1 p torn (inr (omega (arith, behind)))
        | inr here ↦
            let place : p ≡ gate = omega (arith, low, here)
            in ap (λ n. get_or c n 0) place ∙ same ∙ sym (ap (λ n. get_or b n 0) place)
      ]

  -- a stop while an open gate is closed
  pub closing : spare_open ≡ true → (c : List ℕ) → Torn gate 1 b c → IsJournal kept c
  closing open_ c torn =
      journal_kept c (gate_torn c torn)
      (elim (is_or_not (get_or c gate 0)) [
        | inl still ↦ inr (slot_torn c torn (still ∙ sym (was_open open_)))
        | inr shut ↦ inl shut
      ])

  module _ (c : List ℕ) (is_closed : c ≡ overwritten b gate (0 ∷ [])) where
    closed_torn : Torn gate 1 b c
    closed_torn =
        let T : List ℕ → Type 0 = λ x. Torn gate 1 b x
        in subst T (sym is_closed) (torn_overwritten b (0 ∷ []) gate (omega (arith, gate_high (other_of side), long_b)))

    closed_byte : get_or c gate 0 ≡ 0
    closed_byte =
        ap (λ (x : List ℕ). get_or x gate 0) is_closed ∙ reads_byte b gate 0 (omega (arith, gate_high (other_of side), long_b))

    closed_shut : get_or c gate 0 ≢ 165
    closed_shut e = let f : 0 ≡ 165 = sym closed_byte ∙ e in absurd (omega (arith, f))

    pub closed_journal : IsJournal kept c
    closed_journal = journal_kept c (gate_torn c closed_torn) (inl closed_shut)

    pub closed_slots : IsLive side false (take 38 c)
    closed_slots =
        let long_c : 38 ≤ length c = omega (arith, long_b, closed_torn.no_shorter)
        in record {
          live = (head_of side (slot_of kept) c long_c (header_kept c (gate_torn c closed_torn) (inl closed_shut))).live;
          spare =
              ap is_open (get_or-take 38 c gate 0 (omega (arith, gate_high (other_of side))) ∙ closed_byte);
        }

  -- ---- the snapshot, and then the gate

  module _ (at : ℕ) (x y : List ℕ) (low : 38 ≤ at) (apart : (at + length x ≤ kept.start) ⊎ (end_of kept < at)) (there : at ≤ length b) (twelve : length y ≡ 12) where
    still_shut : (b' c : List ℕ) → get_or c gate 0 ≡ get_or b' gate 0 → gate_of gate b' ≡ false → get_or c gate 0 ≢ 165
    still_shut b' c same shut e = let f : true ≡ false = sym (ap is_open (sym same ∙ e)) ∙ shut in cc

    -- a stop while both are written
    pub staging : spare_open ≡ false → (c : List ℕ) → length b ≤ length c → ((p : ℕ) → p < length b → (p < at) ⊎ (at + length x ≤ p) → (p < gate + 1) ⊎ (gate + 13 ≤ p) → get_or c p 0 ≡ get_or b p 0) → IsJournal kept c
    staging shut c long same =
        let here : get_or c gate 0 ≡ get_or b gate 0 =
        same gate (omega (arith, gate_high (other_of side), long_b)) (inl (omega (arith, gate_high (other_of side), low))) (inl (omega arith))
        in let shut_b : gate_of gate b ≡ false =
        ap is_open (sym (get_or-take 38 b gate 0 (omega (arith, gate_high (other_of side))))) ∙ slots.spare ∙ shut
        in journal_kept c
        (keeps_off at (length x) low apart c long
        (λ p below off slot. same p below off (elim slot [ inl before ↦ inl (omega (arith, before)) | inr after ↦ inr after ])))
        (inl (still_shut b c here shut_b))

    abbrev one : List ℕ
    one = overwritten b at x

    abbrev two : List ℕ
    two = overwritten one (gate + 1) y

    torn_one : Torn at (length x) b one
    torn_one = torn_overwritten b x at there

    slot_there : gate + 13 ≤ length one
    slot_there = omega (arith, gate_high (other_of side), long_b, torn_one.no_shorter)

    torn_two : Torn (gate + 1) (length y) one two
    torn_two = torn_overwritten one y (gate + 1) (omega (arith, slot_there))

    pub two_long : length b ≤ length two
    two_long = omega (arith, torn_one.no_shorter, torn_two.no_shorter)

    two_reaches : at + length x ≤ length two
    two_reaches = omega (arith, reaches b x at there, torn_two.no_shorter)

    two_off : (p : ℕ) → (p < at) ⊎ (at + length x ≤ p) → (p < gate + 1) ⊎ (gate + 13 ≤ p) → get_or two p 0 ≡ get_or b p 0
    two_off p off slot =
        same_off one two (gate + 1) (length y) p torn_two
        (elim slot [ inl before ↦ inl before | inr after ↦ inr (omega (arith, after, twelve)) ])
        ∙ same_off b one at (length x) p torn_one off

    module _ (qs : List (List ℕ)) (frames : x ≡ frames_of qs) (fields : y ≡ fields_of (record { epoch = kept.epoch + 1; start = at; format = 2 })) (high : at + length x ≤ 2 ^ 28) (epoch : kept.epoch + 1 < 2 ^ 32) where
      abbrev next : Slot
      next = record { epoch = kept.epoch + 1; start = at; format = 2 }

      abbrev new : Kept
      new = record { epoch = kept.epoch + 1; start = at; format = 2; payloads = qs }

      size : length x ≡ size_of qs
      size = ap length frames ∙ length-append (flat_map record_of qs) (0 ∷ [])

      module _ (c : List ℕ) (torn : Torn gate 1 two c) where
        turning_keeps : Keeps kept side b c
        turning_keeps =
            keeps_off at (length x) low apart c (omega (arith, two_long, torn.no_shorter))
            (λ p below off slot.
            same_off two c gate 1 p torn (elim slot [ inl before ↦ inl before | inr after ↦ inr (omega (arith, after)) ])
            ∙ two_off p off (elim slot [ inl before ↦ inl (omega (arith, before)) | inr after ↦ inr after ]))

        turning_piece : take (size_of qs) (drop at c) ≡ frames_of qs
        turning_piece =
            ap (λ n. take n (drop at c)) (sym size)
            ∙ piece_same two c at (length x) two_reaches (omega (arith, two_reaches, torn.no_shorter))
            (λ p lo hi. same_off two c gate 1 p torn (inr (omega (arith, gate_high (other_of side), low, lo))))
            ∙ piece_same one two at (length x) (reaches b x at there) two_reaches
            (λ p lo hi. same_off one two (gate + 1) (length y) p torn_two (inr (omega (arith, gate_high (other_of side), low, lo, twelve))))
            ∙ reads b x at there
            ∙ frames

        turning_fields : take 12 (drop (gate + 1) c) ≡ fields_of next
        turning_fields =
            piece_same two c (gate + 1) 12
            (omega (arith, slot_there, torn_two.no_shorter))
            (omega (arith, slot_there, torn_two.no_shorter, torn.no_shorter))
            (λ p lo hi. same_off two c gate 1 p torn (inr (omega (arith, lo))))
            ∙ ap (λ n. take n (drop (gate + 1) two)) (sym twelve)
            ∙ reads one y (gate + 1) (omega (arith, slot_there))
            ∙ fields

        long_c : 38 ≤ length c
        long_c = omega (arith, long_b, turning_keeps.long)

        new_header : get_or c gate 0 ≡ 165 → IsHeader gate next c
        new_header opened =
            header_turns b c long_b long_c side (slot_of kept) next header turning_keeps.front turning_keeps.slot opened
            (slot_written gate c next turning_fields epoch (omega (arith, high)) (omega arith)) refl

        turns_open : get_or c gate 0 ≡ 165 → IsJournal new c
        turns_open opened =
            half_begins c (other_of side) next qs (new_header opened) (inr refl) low
            (omega (arith, size, two_reaches, torn.no_shorter))
            (omega (arith, size, high))
            turning_piece

        -- a stop while the gate is opened
        pub turning : IsJournal kept c ⊎ IsJournal new c
        turning =
            elim (is_or_not (get_or c gate 0)) [
              | inl counts ↦ inr (turns_open counts)
              | inr shut ↦ inl (journal_kept c turning_keeps (inl shut))
            ]

      module _ (c : List ℕ) (is_opened : c ≡ overwritten two gate (165 ∷ [])) where
        opened_torn : Torn gate 1 two c
        opened_torn =
            let T : List ℕ → Type 0 = λ z. Torn gate 1 two z
            in subst T (sym is_opened) (torn_overwritten two (165 ∷ []) gate (omega (arith, slot_there, torn_two.no_shorter)))

        opened_byte : get_or c gate 0 ≡ 165
        opened_byte =
            ap (λ (z : List ℕ). get_or z gate 0) is_opened
            ∙ reads_byte two gate 165 (omega (arith, slot_there, torn_two.no_shorter))

        pub turned_journal : IsJournal new c
        turned_journal = turns_open c opened_torn opened_byte

        pub turned_slots : IsLive (other_of side) true (take 38 c)
        turned_slots =
            let Other : Side → Type 0 = λ z. is_open (get_or (take 38 c) (place_of z) 0) ≡ true
            in record {
              live = (head_of (other_of side) next c (long_c c opened_torn) (new_header c opened_torn opened_byte)).live;
              spare =
                  subst Other (sym (twice side))
                  (ap is_open
                  (get_or-take 38 c (place_of side) 0 (omega (arith, gate_high side))
                  ∙ (turning_keeps c opened_torn).slot (place_of side) (omega arith) (omega arith))
                  ∙ live_open side b header.live);
            }
