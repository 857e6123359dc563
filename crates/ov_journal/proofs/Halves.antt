-- The records of a half, in bytes that changed elsewhere.
use Rattle.std.proofs.Common.{◌≡◌, ◌≢◌, ◌<◌, ◌≤◌, inl, ℕ, ◌+◌, ◌^◌, Bool, List, [], ◌∷◌, ◌++◌, length, take, drop, get_or, Some, refl, sym, ◌∙◌, ap, subst, arith}
use Rattle.std.specs.List.{flat_map}
use Rattle.std.proofs.lemmas.List.{append_assoc, drop-append-le, take_at, take-append-le, length-append}
use Rattle.std.proofs.lemmas.Option.{same_Some}
use Rattle.ov_journal.specs.declared.header.Side.{Side}
use Rattle.ov_journal.specs.Bytes.{AreSame, live_place, other_of, Slot, IsHeader, IsLive, place_of, record_of}
use Rattle.ov_journal.specs.Journal.{Kept, IsKnown, IsJournal, end_of, slot_of, journal_end}
use Rattle.ov_journal.specs.Snapshots.{frames_of, size_of}
use Rattle.ov_journal.specs.Reading.{AreRecords}
use Rattle.ov_journal.proofs.Loading.{stands}
use Rattle.ov_journal.proofs.Records.{front_ends, longer}
use Rattle.ov_journal.proofs.Slots.{header_stays, piece_same, piece_there, head_of, head_in}

-- a journal's header is that of its live slot
pub header_is : (kept : Kept) (side : Side) (spare_open : Bool) (b : List ℕ) → IsJournal kept b → IsLive side spare_open (take 38 b) → IsHeader (place_of side) (slot_of kept) b
header_is kept side spare_open b is slots =
    let front : take 38 b ≡ take 38 is.front =
    ap (take 38) is.whole ∙ take-append-le 38 is.front (is.gate ∷ is.rest) (omega (arith, is.begins.low, is.begins.start))
    in let Header : List ℕ → Type 0 = λ head. IsHeader is.begins.place (slot_of kept) head
    in let header : Header (take 38 b) = subst Header (sym front) is.begins.header
    in let place : is.begins.place ≡ place_of side = same_Some is.begins.place (place_of side) (sym header.live ∙ slots.live)
    in let Placed : ℕ → Type 0 = λ p. IsHeader p (slot_of kept) (take 38 b)
    in head_in side (slot_of kept) b (omega (arith, longer kept b is)) (subst Placed place header)

-- the records from a place on
half_stands : (c : List ℕ) (side : Side) (slot : Slot) (ps : List (List ℕ)) (gate : ℕ) → IsHeader (place_of side) slot c → IsKnown slot.format → 38 ≤ slot.start → slot.start + size_of ps ≤ length c → slot.start + size_of ps ≤ 2 ^ 28 → gate ≢ 165
    → take (size_of ps) (drop slot.start c) ≡ flat_map record_of ps ++ gate ∷ []
    → IsJournal (record { epoch = slot.epoch; start = slot.start; format = slot.format; payloads = ps }) c
half_stands c side slot ps gate header known low long high closed piece =
    let frames : List ℕ = flat_map record_of ps ++ gate ∷ []
    in let size : length frames ≡ size_of ps = length-append (flat_map record_of ps) (gate ∷ [])
    in let there : drop slot.start c ≡ frames ++ drop (length frames) (drop slot.start c) =
    piece_there slot.start c frames (ap (λ n. take n (drop slot.start c)) size ∙ piece)
    in let are : AreRecords slot.start (slot.start + length (flat_map record_of ps)) c ps =
    record {
      gate = gate;
      rest = drop (length frames) (drop slot.start c);
      closed = closed;
      whole = there ∙ append_assoc (flat_map record_of ps) (gate ∷ []) (drop (length frames) (drop slot.start c));
      there = refl;
    }
    in stands c (place_of side) (journal_end c) slot (head_of side slot c (omega (arith, long, low)) header) known refl low (omega (arith, long, high)) (slot.start + length (flat_map record_of ps)) ps are (omega (arith, long, high))

-- what stands from the live start on, up to the first closed gate
half_is : (kept : Kept) (b : List ℕ) (is : IsJournal kept b) → take (size_of kept.payloads) (drop kept.start b) ≡ flat_map record_of kept.payloads ++ is.gate ∷ []
half_is kept b is =
    let frames : List ℕ = flat_map record_of kept.payloads ++ is.gate ∷ []
    in let tail : drop kept.start b ≡ frames ++ is.rest =
    ap (drop kept.start) is.whole
    ∙ drop-append-le kept.start is.front (is.gate ∷ is.rest) is.begins.start
    ∙ ap (λ x. x ++ is.gate ∷ is.rest) is.begins.records
    ∙ sym (append_assoc (flat_map record_of kept.payloads) (is.gate ∷ []) is.rest)
    in ap (take (size_of kept.payloads)) tail
    ∙ take_at frames is.rest (size_of kept.payloads) (length-append (flat_map record_of kept.payloads) (is.gate ∷ []))

pub past_gate : (kept : Kept) (b : List ℕ) → IsJournal kept b → end_of kept < length b
past_gate kept b is =
    omega (arith, ap length is.whole, length-append is.front (is.gate ∷ is.rest), front_ends kept is.front is.begins)

pub end_low : (kept : Kept) (b : List ℕ) → IsJournal kept b → end_of kept < 2 ^ 28
end_low kept b is = omega (arith, front_ends kept is.front is.begins, is.begins.fits)

-- the same live half under a header with the same live slot
pub half_stays : (kept : Kept) (side : Side) (b c : List ℕ) → IsJournal kept b → IsHeader (place_of side) (slot_of kept) c → end_of kept < length c → AreSame kept.start (end_of kept + 1) b c → IsJournal kept c
half_stays kept side b c is header long same =
    let size : kept.start + size_of kept.payloads ≡ end_of kept + 1 = omega arith
    in let there : kept.start + size_of kept.payloads ≤ length b = omega (arith, size, past_gate kept b is)
    in let Same : ℕ → Type 0 = λ n. AreSame kept.start n b c
    in half_stands c side (slot_of kept) kept.payloads is.gate header is.begins.known is.begins.low (omega (arith, size, long)) (omega (arith, size, end_low kept b is)) is.closed
    (piece_same b c kept.start (size_of kept.payloads) there (omega (arith, size, long)) (subst Same (sym size) same) ∙ half_is kept b is)

-- the frames of a snapshot under a header with their slot
pub half_begins : (c : List ℕ) (side : Side) (slot : Slot) (ps : List (List ℕ)) → IsHeader (place_of side) slot c → IsKnown slot.format → 38 ≤ slot.start → slot.start + size_of ps ≤ length c → slot.start + size_of ps ≤ 2 ^ 28
    → take (size_of ps) (drop slot.start c) ≡ frames_of ps → IsJournal (record { epoch = slot.epoch; start = slot.start; format = slot.format; payloads = ps }) c
half_begins c side slot ps header known low long high piece =
    half_stands c side slot ps 0 header known low long high (λ e. absurd cc) piece

-- only the text, the live slot and the live half matter, where the other slot is closed
pub live_half : (kept : Kept) (side : Side) (b c : List ℕ) → IsJournal kept b → live_place (take 38 b) ≡ Some (place_of side) → AreSame 0 12 b c → AreSame (place_of side) (place_of side + 13) b c → AreSame kept.start (end_of kept + 1) b c → end_of kept < length c
    → get_or c (place_of (other_of side)) 0 ≢ 165 → IsJournal kept c
live_half kept side b c is live text slot half long closed =
    let long_b : 38 ≤ length b = omega (arith, longer kept b is)
    in let low : 38 ≤ end_of kept = omega (arith, is.begins.low)
    in half_stays kept side b c is
    (header_stays b c long_b (omega (arith, low, long)) side (slot_of kept) (header_is kept side _ b is (record { live = live; spare = refl })) text slot (inl closed))
    long half
