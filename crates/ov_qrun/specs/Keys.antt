-- By what spots and places are sorted.
--     key_in found pair      the values of the group columns; key_at rows found spot, at a spot
--     spot_order rows found      the order of spots by them
--     keys_for found group      the cells of the keys of ORDER BY, over a group; named_keys, by the keys of a query
use Rattle.std.specs.Prelude.{Bool, List, map}
use Rattle.std.specs.Ordering.{is_eq, on}
use Rattle.std.specs.declared.cmp.Ordering.{Ordering}
use Rattle.ov_value.specs.Shapes.{Shape}
use Rattle.ov_model.specs.Answers.{Pair, term_of_group}
use Rattle.ov_model.specs.Book.{Row}
use Rattle.ov_model.specs.declared.answer.Cell.{Cell}
use Rattle.ov_model.specs.declared.answer.Cell.TheVariants as cell
use Rattle.ov_model.specs.declared.query.Key.{Key}
use Rattle.ov_terms.specs.Finding.{found_term, value_at}
use Rattle.ov_terms.specs.Seeing.{cell_of}
use Rattle.ov_terms.specs.Standing.{pair_at, pairs_at}
use Rattle.ov_terms.specs.declared.found_term.FoundTerm.{FoundTerm}
use Rattle.ov_terms.specs.declared.lookup.Lookup.{Lookup}
use Rattle.ov_terms.specs.declared.spot.Spot.{Spot}
use Rattle.ov_qrun.specs.Ranking.{ranked_by, ranked_lists}
use Rattle.ov_qrun.specs.declared.places.Place.{Place}

abbrev pub key_in : List Lookup → Pair → List Cell
key_in found pair = map (λ one. cell.Value (value_at one pair)) found

abbrev pub key_at : List Row → List Lookup → Spot → List Cell
key_at rows found spot = key_in found (pair_at rows spot)

abbrev pub spot_order : List Row → List Lookup → Spot → Spot → Ordering
spot_order rows found = on (key_at rows found) ranked_lists

abbrev pub has_same_key : List Row → List Lookup → Spot → Spot → Bool
has_same_key rows found a b = is_eq (spot_order rows found a b)

abbrev pub keys_for : List FoundTerm → List Pair → List Cell
keys_for found group = map (found_term group) found

abbrev pub named_keys : Shape → List Key → List Pair → List Cell
named_keys schema order group = map (λ key. term_of_group schema group key.term) order

-- the cells of a place's keys
abbrev pub cells_in : Place → List Cell
cells_in place = map cell_of place.keys.items

abbrev pub place_order : List Key → Place → Place → Ordering
place_order order a b = ranked_by order (cells_in a) (cells_in b)

-- the pairs of a place
abbrev pub pairs_of : List Row → Place → List Pair
pairs_of rows place = pairs_at rows place.group.now
