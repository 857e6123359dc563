-- Pairs of a version and a position in the order of their ranks, and those below a bound.
--     sorted_by order xs      the stable sort by an order, as insertion makes it
--     pair_order a b      by rank, then by version, then by key; rank_order a b, by rank alone
--     is_low bound pair      whether the rank is below the bound
--     pairs_in version ranks keys spans      the pairs of a version at its ranges; pairs_of ranks keys versions, of versions, which are numbered from 0 on
--     low_times times ranks bound count      of the first positions with a rank below the bound, how many versions have them, added up
--     rows_of ranks keys picks      the rows of versions, each version's at its positions in the order of these
--     InKeyOrder keys spans pick      the positions of a version's ranges in the order of their keys, no two of which are the same
use Rattle.std.specs.Prelude.{ℕ, ℤ, pos, cond, suc, ◌<◌, slice_index_or, Bool, true, false, nat_lt, if◌then◌else◌, List, [], ◌∷◌, ◌++◌, map}
use Rattle.std.specs.List.{AllByRecursion}
use Rattle.std.specs.List.Sorted.{IsPermutation}
use Rattle.std.specs.Ordering.{nat_cmp, ordering_then}
use Rattle.std.specs.declared.cmp.Ordering.{Ordering}
use Rattle.std.specs.declared.cmp.Ordering.TheVariants.{Greater}
use Rattle.ov_tally.specs.declared.first.Pair.{Pair}
use Rattle.ov_tally.specs.declared.span.Span.{Span}
use Rattle.ov_tally.specs.Running.{sum_of}
use Rattle.ov_tally.specs.Spans.{Spans, places_in, run}

abbrev pub is_above : Ordering → Bool
is_above Greater = true
is_above _ = false

abbrev pub placed_by : {X : Type 0} → (X → X → Ordering) → X → List X → List X
placed_by order x [] = x ∷ []
placed_by order x (y ∷ ys) = if is_above (order x y) then y ∷ placed_by order x ys else x ∷ y ∷ ys

abbrev pub sorted_by : {X : Type 0} → (X → X → Ordering) → List X → List X
sorted_by order [] = []
sorted_by order (x ∷ xs) = placed_by order x (sorted_by order xs)

abbrev pub rank_order : Pair → Pair → Ordering
rank_order a b = nat_cmp a.rank b.rank

-- the order that a version's rows stand in, version by version
abbrev pub row_order : Pair → Pair → Ordering
row_order a b = ordering_then (nat_cmp a.version b.version) (nat_cmp a.key b.key)

abbrev pub pair_order : Pair → Pair → Ordering
pair_order a b = ordering_then (rank_order a b) (row_order a b)

abbrev pub is_low : ℕ → Pair → Bool
is_low bound p = nat_lt p.rank bound

abbrev pub pair_at : ℕ → List ℕ → List ℕ → ℕ → Pair
pair_at version ranks keys place = record { rank = slice_index_or ranks place 0; version = version; key = slice_index_or keys place 0; place = place }

abbrev pub pairs_in : ℕ → List ℕ → List ℕ → List Span → List Pair
pairs_in version ranks keys spans = map (pair_at version ranks keys) (places_in spans)

-- of versions that are numbered from a number on
abbrev pub pairs_from : ℕ → List ℕ → List ℕ → List Spans → List Pair
pairs_from version ranks keys [] = []
pairs_from version ranks keys (spans ∷ versions) = pairs_in version ranks keys spans.items ++ pairs_from (suc version) ranks keys versions

abbrev pub pairs_of : List ℕ → List ℕ → List Spans → List Pair
pairs_of ranks keys versions = pairs_from 0 ranks keys versions

abbrev pub rows_from : ℕ → List ℕ → List ℕ → List (List ℕ) → List Pair
rows_from version ranks keys [] = []
rows_from version ranks keys (pick ∷ picks) = map (pair_at version ranks keys) pick ++ rows_from (suc version) ranks keys picks

abbrev pub rows_of : List ℕ → List ℕ → List (List ℕ) → List Pair
rows_of ranks keys picks = rows_from 0 ranks keys picks

-- the key at each of these positions is below those at all later ones
abbrev pub KeysRise : List ℕ → List ℕ → Type 0
KeysRise keys [] = Unit {0}
KeysRise keys (p ∷ pick) = AllByRecursion (λ q. slice_index_or keys p 0 < slice_index_or keys q 0) pick × KeysRise keys pick

pub record InKeyOrder (keys : List ℕ) (spans : Spans) (pick : List ℕ) : Type 0 where
  pub same : IsPermutation (places_in spans.items) pick
  pub rise : KeysRise keys pick

abbrev pub low_times : List ℤ → List ℕ → ℕ → ℕ → ℤ
low_times times ranks bound count = sum_of (λ p. cond (nat_lt (slice_index_or ranks p 0) bound) (slice_index_or times p (pos 0)) (pos 0)) (run 0 count)
