-- Where the records of a snapshot go, and what a journal is after them.
use Rattle.std.specs.Prelude.{◌≡◌, ◌≤◌, ◌<◌, ◌⊎◌, ℕ, ◌+◌, ◌-◌, ◌^◌, true, nat_lt, if◌then◌else◌, List, length}
use Rattle.std.specs.List.{flat_map}
use Rattle.ov_journal.specs.Bytes.{other_of, record_of}
use Rattle.ov_journal.specs.Snapshots.{size_of}
use Rattle.ov_journal.specs.Journal.{Kept}
use Rattle.ov_journal.specs.Held.{Numbers, kept_by}

-- No epoch is left; or the snapshot ends neither before the live half nor, from the place after the live half's closed
-- gate on, at 2^28 or before.
abbrev pub HasNoRoom : Numbers → List (List ℕ) → Type 0
HasNoRoom numbers payloads =
    (numbers.epoch ≡ 2 ^ 32 - 1)
    ⊎ ((numbers.start < 38 + size_of payloads) × (2 ^ 28 < numbers.end + 1 + size_of payloads))

-- where the snapshot begins: at 38 where it ends before the live half, else after that half's closed gate
abbrev pub start_for : Numbers → List (List ℕ) → ℕ
start_for numbers payloads = if nat_lt numbers.start (38 + size_of payloads) then numbers.end + 1 else 38

-- the numbers after a checkpoint
abbrev pub turned_to : Numbers → List (List ℕ) → Numbers
turned_to numbers payloads =
    record {
      end = start_for numbers payloads + length (flat_map record_of payloads);
      epoch = numbers.epoch + 1;
      start = start_for numbers payloads;
      format = 2;
      side = other_of numbers.side;
      spare_open = true;
    }

-- the journal after a checkpoint
abbrev pub snapshot_kept : Numbers → List (List ℕ) → Kept
snapshot_kept numbers payloads = kept_by (turned_to numbers payloads) payloads

-- so many bytes from a place on, behind the header, end before the live half or begin behind its closed gate, with no gap
-- there, and end at 2^28 or before
pub record IsRoom (numbers : Numbers) (at size : ℕ) : Type 0 where
  pub low : 38 ≤ at
  pub there : at ≤ numbers.end + 1
  pub apart : (at + size ≤ numbers.start) ⊎ (numbers.end < at)
  pub high : at + size ≤ 2 ^ 28
