-- The rows of versions when all partitions were passed.
use Rattle.std.specs.Prelude.{◌≡◌, ◌<◌, ℕ, true, List, [], length, slice_index_or}
use Rattle.ov_host.specs.Host.{State}
use Rattle.ov_fetch.specs.Scans.{AllFit}
use Rattle.ov_read.specs.declared.gathering.Gathered.{Gathered}
use Rattle.ov_read.specs.Agreement.{Numbers, is_served, segments_of}
use Rattle.ov_read.specs.Gathering.{IsRowsOf}

pub record AreGathered (before : State) (s : Numbers) (vids : List ℕ) (lists : List (List ℕ)) (found : Gathered) : Type 0 where
  pub count : length found.picks.items ≡ length vids
  pub fit : AllFit s.schema found.records.records
  pub each : (place : ℕ) → place < length vids → is_served s (slice_index_or vids place 0) ≡ true
      → IsRowsOf s.schema before (segments_of s (slice_index_or vids place 0)) found.records.records (slice_index_or lists place []) (slice_index_or found.picks.items place [])
