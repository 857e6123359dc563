-- Rows of versions, partition after partition.
--     place_at places vid      where a version stands among those that were asked for
--     IsGroup vids versions group      the places of the versions that a partition serves
--     IsRowsOf schema s segments records rids pick      the rows for these rids, out of the segments
--     IsAdded schema s part vids lists old new      those of a partition's versions were added
use Rattle.std.specs.Prelude.{◌≡◌, ◌⊎◌, ◌<◌, ◌+◌, ℕ, true, false, List, [], ◌∷◌, length, map, Option, Some, None, slice_index_or}
use Rattle.std.specs.List.{All, sum_by}
use Rattle.ov_host.specs.declared.area.Extent.{Extent}
use Rattle.ov_host.specs.Host.{State}
use Rattle.ov_layout.specs.declared.part.Part.{Part}
use Rattle.ov_member.specs.Rids.{has, AreRids}
use Rattle.ov_value.specs.Shapes.{Shape}
use Rattle.ov_segment.specs.declared.numbered.Record.{Record}
use Rattle.ov_fetch.specs.Extents.{page_bytes}
use Rattle.ov_fetch.specs.Scans.{AllFit}
use Rattle.ov_read.specs.declared.gathering.Gathered.{Gathered}
use Rattle.ov_read.specs.Found.{IsPicked, AreFirst}

abbrev pub place_at : List (Option ℕ) → ℕ → Option ℕ
place_at places vid = slice_index_or places vid None

pub record ArePlaces (vids : List ℕ) (places : List (Option ℕ)) : Type 0 where
  pub only : (vid place : ℕ) → place_at places vid ≡ Some place → (place < length vids) × (slice_index_or vids place 0 ≡ vid)
  pub all : (place : ℕ) → place < length vids → place_at places (slice_index_or vids place 0) ≡ Some place

pub record IsGroup (vids versions group : List ℕ) : Type 0 where
  pub only : All (λ place. (place < length vids) × (has versions (slice_index_or vids place 0) ≡ true)) group
  pub all : (place : ℕ) → place < length vids → has versions (slice_index_or vids place 0) ≡ true → has group place ≡ true

pub record IsRowsOf (schema : Shape) (s : State) (segments : List Extent) (records : List Record) (rids pick : List ℕ) : Type 0 where
  pub set : AreRids rids
  pub found : List Record
  pub picked : IsPicked schema records rids pick found
  pub told : s.tells ≡ true → AreFirst schema (page_bytes s) segments found

-- a pick of each of the first n sets of rids has as many positions
abbrev pub AreFull : ℕ → List (List ℕ) → List (List ℕ) → Type 0
AreFull n picks members = (k : ℕ) → k < n → (length (slice_index_or picks k []) ≡ length (slice_index_or members k [])) × AreRids (slice_index_or members k [])

pub record IsNotFull (picks members : List (List ℕ)) (k : ℕ) : Type 0 where
  pub there : k < length members
  pub set : AreRids (slice_index_or members k [])
  pub off : length (slice_index_or picks k []) ≡ length (slice_index_or members k []) → ⊥

-- positions behind so many records
abbrev pub moved : ℕ → List ℕ → List ℕ
moved base pick = map (λ place. base + place) pick

-- the pick that was put at a place, one of the first n
pub record IsNew (n base : ℕ) (group : List ℕ) (more new : List (List ℕ)) (place : ℕ) : Type 0 where
  pub k : ℕ
  pub there : k < n
  pub at : slice_index_or group k 0 ≡ place
  pub is : slice_index_or new place [] ≡ moved base (slice_index_or more k [])

pub record IsKept (n : ℕ) (group : List ℕ) (old new : List (List ℕ)) (place : ℕ) : Type 0 where
  pub other : (k : ℕ) → k < n → slice_index_or group k 0 ≡ place → ⊥
  pub is : slice_index_or new place [] ≡ slice_index_or old place []

-- the picks at the first n of these places are the new ones, moved; the others stay
pub record ArePut (n base : ℕ) (group : List ℕ) (more old new : List (List ℕ)) : Type 0 where
  pub count : length new ≡ length old
  pub each : (place : ℕ) → place < length old → IsNew n base group more new place ⊎ IsKept n group old new place

pub record IsAdded (schema : Shape) (s : State) (part : Part) (vids : List ℕ) (lists : List (List ℕ)) (old new : Gathered) : Type 0 where
  pub count : length new.picks.items ≡ length old.picks.items
  pub fit : AllFit schema old.records.records → AllFit schema new.records.records
  pub served : (place : ℕ) → place < length vids → has part.versions (slice_index_or vids place 0) ≡ true
      → IsRowsOf schema s part.segments new.records.records (slice_index_or lists place []) (slice_index_or new.picks.items place [])
  pub others : (place : ℕ) → place < length vids → has part.versions (slice_index_or vids place 0) ≡ false → (rids : List ℕ) (found : List Record)
      → IsPicked schema old.records.records rids (slice_index_or old.picks.items place []) found
      → IsPicked schema new.records.records rids (slice_index_or new.picks.items place []) found

-- of a partition that serves none of the versions nothing is read
abbrev pub bytes_if : List ℕ → List Extent → ℕ
bytes_if [] segments = 0
bytes_if (place ∷ group) segments = sum_by (λ e. e.bytes) segments

-- the items at these places
abbrev pub numbers_at : List ℕ → List ℕ → List ℕ
numbers_at ns group = map (λ place. slice_index_or ns place 0) group

abbrev pub sets_at : List (List ℕ) → List ℕ → List (List ℕ)
sets_at sets group = map (λ place. slice_index_or sets place []) group
