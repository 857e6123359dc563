-- Pairs of a version and one of its rows, which stand in a table.
--     joined_rows left right matches      the rows of two scans, side by side
--     pair_at rows spot      the pair; pairs_at rows group      those of a group
--     pairs_shown scan      those of all versions of a scan
--     NoLineage condition      it names no lineage
use Rattle.std.specs.Prelude.{◌≡◌, ◌<◌, ℕ, List, [], ◌∷◌, ◌++◌, length, map, slice_index_or, Option}
use Rattle.std.specs.List.{All}
use Rattle.ov_segment.specs.declared.numbered.Record.{Record}
use Rattle.ov_fetch.specs.Scans.{row_at, rows_of}
use Rattle.ov_fetch.specs.declared.scan.Scan.{Scan}
use Rattle.ov_model.specs.Answers.{Pair}
use Rattle.ov_model.specs.Book.{Row}
use Rattle.ov_model.specs.Asking.{cond_lineages, guard_lineages}
use Rattle.ov_model.specs.declared.query.Cond.{Cond}
use Rattle.ov_terms.specs.declared.matches.Match.{Match}
use Rattle.ov_terms.specs.declared.spot.Spot.{Spot}

-- a left row and a right one, side by side
abbrev pub joined_row : List Record → List Record → Match → Row
joined_row left right m = row_at left m.left ++ row_at right m.right

abbrev pub joined_rows : List Record → List Record → List Match → List Row
joined_rows left right matches = map (joined_row left right) matches

-- each has so many values
abbrev pub AreWide : ℕ → List Record → Type 0
AreWide width records = All (λ row. length row ≡ width) (rows_of records)

-- both rows are there
abbrev pub Stands : List Record → List Record → Match → Type 0
Stands left right m = (m.left < length left) × (m.right < length right)

abbrev pub row_in : List Row → ℕ → Row
row_in rows place = slice_index_or rows place []

abbrev pub pair_at : List Row → Spot → Pair
pair_at rows spot = record { vid = spot.vid; row = row_in rows spot.place }

abbrev pub pairs_at : List Row → List Spot → List Pair
pairs_at rows group = map (pair_at rows) group

-- those of a version at these positions
abbrev pub spots_in : ℕ → List ℕ → List Spot
spots_in vid places = map (λ place. record { vid = vid; place = place }) places

-- version by version, the rows of each at these positions
abbrev pub pairs_among : List Row → List ℕ → List (List ℕ) → List Pair
pairs_among rows (vid ∷ vids) (pick ∷ picks) = map (λ row. record { vid = vid; row = row }) (map (row_in rows) pick) ++ pairs_among rows vids picks
pairs_among rows _ _ = []

-- those of a scan: version by version, the rows of each in key order
abbrev pub pairs_in : List Record → List ℕ → List (List ℕ) → List Pair
pairs_in records vids picks = pairs_among (rows_of records) vids picks

abbrev pub pairs_shown : Scan → List Pair
pairs_shown scan = pairs_in scan.records scan.vids scan.picks

abbrev pub NoLineage : Cond → Type 0
NoLineage condition = cond_lineages condition ≡ []

abbrev pub NoLineages : Option Cond → Type 0
NoLineages guard = guard_lineages guard ≡ []
