-- A walk over a set of rids beside records whose rids ascend.
use Rattle.std.proofs.Common.{◌≡◌, ◌<◌, ◌≤◌, ◌+◌, ℕ, zero, suc, List, [], ◌∷◌, length, get_or, ◌∙◌, arith}
use Rattle.ov_member.specs.Rids.{has}
use Rattle.ov_segment.specs.declared.numbered.Record.{Record}
use Rattle.ov_segment.specs.Keeping.{Walk, wants}
use Rattle.ov_segment.specs.Segments.{Ascend}
use Rattle.ov_fetch.specs.Extents.{rids_of}

abbrev pub no_record : Record
no_record = record { rid = 0; row = [] }

abbrev pub rid_at : List Record → ℕ → ℕ
rid_at records k = (get_or records k no_record).rid

-- of the records from a position on the walk says which have one of the rids
abbrev pub SaysFrom : Walk → List ℕ → List Record → ℕ → Type 0
SaysFrom ahead rids records place = (k : ℕ) → place ≤ k → k < length records → wants ahead (rid_at records k) ≡ has rids (rid_at records k)

above : (last : ℕ) (records : List Record) (k : ℕ) → Ascend last (rids_of records) → k < length records → last < rid_at records k
above last [] k h low = absurd (omega (arith, low))
above last (r ∷ records) zero h low = h.0
above last (r ∷ records) (suc k) h low = omega (arith, h.0, above r.rid records k h.2 (omega (arith, low)))

no_lower : (last : ℕ) (records : List Record) (i k : ℕ) → Ascend last (rids_of records) → i ≤ k → k < length records → rid_at records i ≤ rid_at records k
no_lower last [] i k h le low = absurd (omega (arith, low))
no_lower last (r ∷ records) zero zero h le low = omega arith
no_lower last (r ∷ records) zero (suc k) h le low = omega (arith, above r.rid records k h.2 (omega (arith, low)))
no_lower last (r ∷ records) (suc i) zero h le low = absurd (omega (arith, le))
no_lower last (r ∷ records) (suc i) (suc k) h le low = no_lower r.rid records i k h.2 (omega (arith, le)) (omega (arith, low))

-- one record further
pub says_on : (ahead after : Walk) (rids : List ℕ) (records : List Record) (place rid : ℕ) → Ascend 0 (rids_of records) → place < length records → rid ≡ rid_at records place
    → SaysFrom ahead rids records place → ((n : ℕ) → rid ≤ n → wants after n ≡ wants ahead n) → SaysFrom after rids records (place + 1)
says_on ahead after rids records place rid h low is says on k from below =
    on (rid_at records k) (omega (arith, is, no_lower 0 records place k h (omega (arith, from)) below)) ∙ says k (omega (arith, from)) below
