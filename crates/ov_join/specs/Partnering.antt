-- The right rows that a left one matches, by their positions.
--     row_order left right place spot      how a right row compares with a left one by the columns of ON
--     partners_in left right sorted place      those that a left row matches: none where it has NULL there
--     matches_by partners      a left row's pairs
use Rattle.std.specs.Prelude.{◌≡◌, ℕ, suc, Bool, ◌&&◌, not, if◌then◌else◌, List, [], ◌∷◌, filter, map}
use Rattle.std.specs.List.{list_any}
use Rattle.std.specs.Ordering.{is_eq}
use Rattle.std.specs.declared.cmp.Ordering.{Ordering}
use Rattle.ov_model.specs.Answers.{is_null_cell, sorted_by}
use Rattle.ov_model.specs.declared.answer.Cell.{Cell}
use Rattle.ov_model.specs.declared.answer.Cell.TheVariants as cell
use Rattle.ov_terms.specs.Finding.{value_at}
use Rattle.ov_terms.specs.Standing.{pair_at}
use Rattle.ov_terms.specs.declared.matches.Match.{Match}
use Rattle.ov_terms.specs.declared.spot.Spot.{Spot}
use Rattle.ov_qrun.specs.Keys.{key_at, spot_order}
use Rattle.ov_qrun.specs.Ranking.{ranked_lists}
use Rattle.ov_join.specs.declared.matching.Partnered.{Partnered}
use Rattle.ov_join.specs.declared.side.Side.{Side}

abbrev pub row_spot : ℕ → Spot
row_spot place = record { vid = 0; place = place }

abbrev pub row_key : Side → Spot → List Cell
row_key side spot = key_at side.table side.cols.items spot

abbrev pub row_order : Side → Side → ℕ → Spot → Ordering
row_order left right place spot = ranked_lists (row_key right spot) (row_key left (row_spot place))

abbrev pub has_null : Side → Spot → Bool
has_null side spot = list_any (λ found. is_null_cell (cell.Value (value_at found (pair_at side.table spot)))) side.cols.items

abbrev pub partners_in : Side → Side → List Spot → ℕ → List Spot
partners_in left right sorted place =
    if has_null left (row_spot place) then [] else filter (λ spot. is_eq (row_order left right place spot)) sorted

-- by the columns of ON
pub record IsSortedSide (side : Side) (sorted : List Spot) : Type 0 where
  pub all : List Spot
  pub is : sorted ≡ sorted_by (spot_order side.table side.cols.items) all

abbrev pub told : Partnered → ℕ × List Spot
told partners = (partners.left, partners.right.now)

abbrev pub paired : ℕ → Spot → Match
paired left spot = record { left = left; right = spot.place }

abbrev pub matches_by : ℕ × List Spot → List Match
matches_by partners = map (paired partners.0) partners.1
