-- From the records that were read to the journal that they are of.
use Rattle.std.proofs.Common.{◌≡◌, ◌≢◌, ◌<◌, ◌≤◌, ◌⊎◌, inl, inr, ◌+◌, ℕ, List, ◌∷◌, ◌++◌, length, take, drop, get_or, Err, sym, ◌∙◌, ap, subst, arith}
use Rattle.std.specs.List.{flat_map}
use Rattle.std.proofs.lemmas.List.{append_assoc, drop_at, take-append-drop, take-append-le, take-take, length-take, length-append, get_or-take}
use Rattle.ov_host.specs.Stops.{Only}
use Rattle.ov_host.specs.Tape.{Tape}
use Rattle.ov_host.specs.Disk.{Image}
use Rattle.ov_journal.specs.declared.errors.JournalErr.{JournalErr}
use Rattle.ov_journal.specs.declared.errors.JournalErr.TheVariants as errors
use Rattle.ov_journal.specs.Bytes.{Slot, IsHeader, record_of}
use Rattle.ov_journal.specs.Journal.{Kept, IsKnown, IsFront, IsJournal, journal_end, IsForeign, HasNoSlot, MayBeMade, PassesEnd}
use Rattle.ov_journal.specs.Opened.{Loads}
use Rattle.ov_journal.specs.Reading.{AreRecords, PassAt, RecordsAre, RefusesHeader}
use Rattle.ov_journal.proofs.Records.{is_or_not}

-- a look leaves the stops as they are
pub looked_stops : (s t u : Tape) (P : Image → Type 0) → u ≡ t → Only s t P → Only s u P
looked_stops s t u P same stops = subst (λ x. Only s x P) (sym same) stops

may_be_long : (bytes : List ℕ) → MayBeMade bytes → 39 ≤ length bytes
may_be_long bytes (inl more) = omega arith
may_be_long bytes (inr exact) = omega arith

first_stays : (bytes : List ℕ) → get_or (take 38 bytes) 0 0 ≡ get_or bytes 0 0
first_stays bytes = get_or-take 38 bytes 0 0 (omega arith)

no_slot : (bytes : List ℕ) → MayBeMade bytes → HasNoSlot (take 38 bytes) → IsForeign bytes
no_slot bytes (inl more) none =
    elim (is_or_not (get_or bytes 0 0)) [ inl counts ↦ inr (omega arith, counts, none) | inr shut ↦ inl (more, shut) ]
no_slot bytes (inr exact) none = inr (omega (arith, exact.0), exact.1, none)

foreign : (bytes : List ℕ) → MayBeMade bytes → (get_or (take 38 bytes) 0 0 ≢ 165) ⊎ HasNoSlot (take 38 bytes) → IsForeign bytes
foreign bytes (inl more) (inl closed) = inl (more, λ e. closed (first_stays bytes ∙ e))
foreign bytes (inr exact) (inl closed) = absurd (closed (first_stays bytes ∙ exact.1))
foreign bytes made (inr none) = no_slot bytes made none

pub refuses_header : (e : JournalErr) (bytes : List ℕ) → MayBeMade bytes → RefusesHeader e (take 38 bytes) → Loads (Err e) bytes
refuses_header errors.Host bytes made refused = absurd refused
refuses_header errors.Memory bytes made refused = absurd refused
refuses_header errors.NotAStore bytes made refused = foreign bytes made refused
refuses_header (errors.Format found) bytes made refused =
    record { long = may_be_long bytes made; place = refused.0; slot = refused.1; header = refused.2; unknown = refused.3; number = refused.4 }
refuses_header (errors.Damaged place) bytes made refused = absurd refused

module _ (bytes : List ℕ) (place limit : ℕ) (slot : Slot) (header : IsHeader place slot (take 38 bytes)) (known : IsKnown slot.format) (is_end : limit ≡ journal_end bytes) (low : 38 ≤ slot.start) (below : slot.start < limit) where
  abbrev with_records : List (List ℕ) → Kept
  with_records ps = record { epoch = slot.epoch; start = slot.start; format = slot.format; payloads = ps }

  abbrev front_with : List (List ℕ) → List ℕ
  front_with ps = take slot.start bytes ++ flat_map record_of ps

  start-length : length (take slot.start bytes) ≡ slot.start
  start-length = omega (arith, length-take slot.start bytes, is_end, below)

  front-length : (ps : List (List ℕ)) → length (front_with ps) ≡ slot.start + length (flat_map record_of ps)
  front-length ps = length-append (take slot.start bytes) (flat_map record_of ps) ∙ ap (λ n. n + length (flat_map record_of ps)) start-length

  is_front : (ps : List (List ℕ)) → slot.start + length (flat_map record_of ps) < limit → IsFront (with_records ps) (front_with ps)
  is_front ps within =
      let Header : List ℕ → Type 0 = λ head. IsHeader place slot head
      in let same : take 38 (front_with ps) ≡ take 38 bytes =
      take-append-le 38 (take slot.start bytes) (flat_map record_of ps) (omega (arith, start-length, low))
      ∙ take-take 38 slot.start bytes low
      in record {
        place = place;
        header = subst Header (sym same) header;
        known = known;
        low = low;
        start = omega (arith, front-length ps);
        records = drop_at (take slot.start bytes) (flat_map record_of ps) slot.start start-length;
        fits = omega (arith, front-length ps, within, is_end);
      }

  whole_with : (ps : List (List ℕ)) (rest : List ℕ) → drop slot.start bytes ≡ flat_map record_of ps ++ rest → bytes ≡ front_with ps ++ rest
  whole_with ps rest is =
      sym (take-append-drop slot.start bytes)
      ∙ ap (λ b. take slot.start bytes ++ b) is
      ∙ sym (append_assoc (take slot.start bytes) (flat_map record_of ps) rest)

  pub stands : (end : ℕ) (ps : List (List ℕ)) → AreRecords slot.start end bytes ps → end < limit → IsJournal (with_records ps) bytes
  stands end ps are within =
      record {
        front = front_with ps;
        gate = are.gate;
        rest = are.rest;
        closed = are.closed;
        whole = whole_with ps (are.gate ∷ are.rest) are.whole;
        begins = is_front ps (omega (arith, are.there, within));
      }

  pub passes : (gate : ℕ) → PassAt slot.start limit gate bytes → PassesEnd gate bytes
  passes gate is =
      record {
        kept = with_records is.payloads;
        front = front_with is.payloads;
        rest = is.rest;
        begins = is_front is.payloads (omega (arith, is.there, is.below));
        whole = whole_with is.payloads (165 ∷ is.rest) is.whole;
        there = is.there ∙ sym (front-length is.payloads);
        past = omega (arith, is.past, is_end);
      }

  pub refuses_records : (e : JournalErr) → RecordsAre slot.start limit bytes (Err e) → Loads (Err e) bytes
  refuses_records errors.Host refused = tt
  refuses_records errors.Memory refused = tt
  refuses_records errors.NotAStore refused = absurd refused
  refuses_records (errors.Format found) refused = absurd refused
  refuses_records (errors.Damaged gate) refused = inr (passes gate refused)
