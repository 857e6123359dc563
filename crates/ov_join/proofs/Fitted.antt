-- Rows that fit, and rows side by side.
use Rattle.std.proofs.Common.{◌≡◌, ◌<◌, ◌≤◌, ◌+◌, ◌∷◌, ◌++◌, ◌∙◌, [], ℕ, zero, suc, List, Bool, true, false, ap, refl, sym, subst, length, map, filter, get_or, arith}
use Rattle.std.proofs.lemmas.List.{map-append}
use Rattle.std.specs.Prelude.{slice_index_or, if◌then◌else◌}
use Rattle.std.specs.List.{All, AllByRecursion, flat_map}
use Rattle.std.specs.Ordering.{is_eq}
use Rattle.ov_value.specs.Rows.{Fits, HasKinds}
use Rattle.ov_value.specs.Shapes.{Shape}
use Rattle.ov_value.specs.declared.column.Column.{Column}
use Rattle.ov_value.specs.declared.value.Value.{Value}
use Rattle.ov_fetch.specs.Scans.{AllFit, AllStand, row_at, rows_of}
use Rattle.ov_segment.specs.declared.numbered.Record.{Record}
use Rattle.ov_model.specs.Answers.{Pair, sorted_by}
use Rattle.ov_model.specs.Book.{Row}
use Rattle.ov_model.specs.Joins.{left_name, renamed, right_name, side_by_side}
use Rattle.ov_terms.specs.Standing.{AreWide, Stands, joined_row, joined_rows, pairs_among, row_in, spots_in}
use Rattle.ov_terms.specs.declared.matches.Match.{Match}
use Rattle.ov_terms.specs.declared.spot.Spot.{Spot}
use Rattle.ov_qrun.specs.Keys.{spot_order}
use Rattle.ov_qrun.proofs.Sorting.{filter-all, sorted-all}
use Rattle.ov_join.specs.Meeting.{first_pick}
use Rattle.ov_join.specs.Partnering.{has_null, matches_by, paired, partners_in, row_order, row_spot}
use Rattle.ov_join.specs.declared.side.Side.{Side}

kinds-length : (row : Row) (columns : List Column) → HasKinds row columns → length row ≡ length columns
kinds-length [] [] h = refl
kinds-length [] (c ∷ columns) h = absurd h
kinds-length (v ∷ row) [] h = absurd h
kinds-length (v ∷ row) (c ∷ columns) h = ap suc (kinds-length row columns h.1)

rows-length : (records : List Record) → length (rows_of records) ≡ length records
rows-length [] = refl
rows-length (r ∷ records) = ap suc (rows-length records)

pub fits-at : (schema : Shape) (records : List Record) (place : ℕ) → AllFit schema records → place < length records → Fits schema (row_at records place)
fits-at schema records place fit lt = fit place [] (rw (rows-length records) lt)

pub wide-at : (schema : Shape) (records : List Record) (place : ℕ) → AllFit schema records → place < length records → length (row_at records place) ≡ length schema.columns
wide-at schema records place fit lt = kinds-length (row_at records place) schema.columns (fits-at schema records place fit lt).kinds

pub are-wide : (schema : Shape) (records : List Record) → AllFit schema records → AreWide (length schema.columns) records
are-wide schema records fit k d lt = kinds-length (slice_index_or (rows_of records) k d) schema.columns (fit k d lt).kinds

-- ---- positions of a scan's one version

pub first-stands : (records : List Record) (picks : List (List ℕ)) → length picks ≡ 1 → All (AllStand records) picks → AllByRecursion (λ place. place < length records) (first_pick picks)
first-stands records [] one all = absurd (omega (arith, one))
first-stands records (pick ∷ picks) one all = each pick (all 0 [] (omega arith)) where
  each : (places : List ℕ) → All (λ place. place < length records) places → AllByRecursion (λ place. place < length records) places
  each [] h = tt
  each (p ∷ places) h = (h 0 0 (omega arith), each places (λ k d lt. h (suc k) d (omega (arith, lt))))

pub one-shown : (rows : List Row) (vids : List ℕ) (picks : List (List ℕ)) → length vids ≡ 1 → length vids ≡ length picks
    → map (λ (pair : Pair). pair.row) (pairs_among rows vids picks) ≡ map (row_in rows) (first_pick picks)
one-shown rows [] picks one paired = absurd (omega (arith, one))
one-shown rows (vid ∷ []) [] one paired = absurd (omega (arith, paired))
one-shown rows (vid ∷ w ∷ vids) picks one paired = absurd (omega (arith, one))
one-shown rows (vid ∷ []) (pick ∷ picks) one paired = each pick where
  each : (places : List ℕ) → map (λ (pair : Pair). pair.row) (map (λ (row : Row). record { vid = vid; row = row }) (map (row_in rows) places) ++ pairs_among rows [] picks) ≡ map (row_in rows) places
  each [] = refl
  each (p ∷ places) = ap (λ l. row_in rows p ∷ l) (each places)

pub spots-all : (P : ℕ → Type 0) (places : List ℕ) → AllByRecursion P places → AllByRecursion (λ s. P s.place) (spots_in 0 places)
spots-all P [] all = tt
spots-all P (p ∷ places) all = (all.0, spots-all P places all.1)

pub mapped-all : (P Q : ℕ → Type 0) → ((p : ℕ) → P p → Q p) → (places : List ℕ) → AllByRecursion P places → AllByRecursion Q places
mapped-all P Q f [] all = tt
mapped-all P Q f (p ∷ places) all = (f p all.0, mapped-all P Q f places all.1)

-- ---- the matches that were found stand

unless-all : (P : Spot → Type 0) (null : Bool) (ss : List Spot) → AllByRecursion P ss → AllByRecursion P (if null then [] else ss)
unless-all P true ss all = tt
unless-all P false ss all = all

partners-all : (P : Spot → Type 0) (left right : Side) (sorted : List Spot) (place : ℕ) → AllByRecursion P sorted → AllByRecursion P (partners_in left right sorted place)
partners-all P left right sorted place all =
    unless-all P (has_null left (row_spot place)) (filter (λ s. is_eq (row_order left right place s)) sorted) (filter-all P (λ s. is_eq (row_order left right place s)) sorted all)

stands-both : (left right : List Record) (ms ns : List Match) → AllByRecursion (Stands left right) ms → AllByRecursion (Stands left right) ns → AllByRecursion (Stands left right) (ms ++ ns)
stands-both left right [] ns a b = b
stands-both left right (m ∷ ms) ns a b = (a.0, stands-both left right ms ns a.1 b)

paired-all : (left right : List Record) (place : ℕ) (ss : List Spot) → place < length left → AllByRecursion (λ s. s.place < length right) ss → AllByRecursion (Stands left right) (map (paired place) ss)
paired-all left right place [] lt all = tt
paired-all left right place (s ∷ ss) lt all = ((lt, all.0), paired-all left right place ss lt all.1)

pub matches-stand : (left right : List Record) (ls rs : Side) (sorted : List Spot) (places : List ℕ) → AllByRecursion (λ place. place < length left) places
    → AllByRecursion (λ s. s.place < length right) sorted
    → AllByRecursion (Stands left right) (flat_map matches_by (map (λ place. (place, partners_in ls rs sorted place)) places))
matches-stand left right ls rs sorted [] lall rall = tt
matches-stand left right ls rs sorted (place ∷ places) lall rall =
    stands-both left right (map (paired place) (partners_in ls rs sorted place)) (flat_map matches_by (map (λ place. (place, partners_in ls rs sorted place)) places))
    (paired-all left right place (partners_in ls rs sorted place) lall.0 (partners-all (λ s. s.place < length right) ls rs sorted place rall))
    (matches-stand left right ls rs sorted places lall.1 rall)

pub by-places : {X : Type 0} (P : X → Type 0) (xs : List X) → AllByRecursion P xs → All P xs
by-places P [] all k d lt = absurd (omega (arith, lt))
by-places P (x ∷ xs) all zero d lt = all.0
by-places P (x ∷ xs) all (suc k) d lt = by-places P xs all.1 k d (omega (arith, lt))

-- ---- rows side by side fit the columns of both sides

renamed-kinds : (as_ : List ℕ → List ℕ) (row : Row) (columns : List Column) → HasKinds row columns → HasKinds row (map (renamed as_) columns)
renamed-kinds as_ [] [] h = tt
renamed-kinds as_ [] (c ∷ columns) h = absurd h
renamed-kinds as_ (v ∷ row) [] h = absurd h
renamed-kinds as_ (v ∷ row) (c ∷ columns) h = (h.0, renamed-kinds as_ row columns h.1)

both-kinds : (l r : Row) (ls rs : List Column) → HasKinds l ls → HasKinds r rs → HasKinds (l ++ r) (ls ++ rs)
both-kinds [] r [] rs h g = g
both-kinds [] r (c ∷ ls) rs h g = absurd h
both-kinds (v ∷ l) r [] rs h g = absurd h
both-kinds (v ∷ l) r (c ∷ ls) rs h g = (h.0, both-kinds l r ls rs h.1 g)

joined-fits : (left right : Shape) (l r : Row) → Fits left l → Fits right r → Fits (side_by_side left right) (l ++ r)
joined-fits left right l r fl fr = record {
  kinds = both-kinds l r (map (renamed left_name) left.columns) (map (renamed right_name) right.columns) (renamed-kinds left_name l left.columns fl.kinds) (renamed-kinds right_name r right.columns fr.kinds);
  keyed = λ k d lt. absurd (omega (arith, lt));
}

pub rows-fit : (left right : Shape) (ls rs : List Record) (matches : List Match) → AllFit left ls → AllFit right rs → AllByRecursion (Stands ls rs) matches
    → AllByRecursion (Fits (side_by_side left right)) (joined_rows ls rs matches)
rows-fit left right ls rs [] fl fr all = tt
rows-fit left right ls rs (m ∷ matches) fl fr all =
    (joined-fits left right (row_at ls m.left) (row_at rs m.right) (fits-at left ls m.left fl all.0.0) (fits-at right rs m.right fr all.0.1), rows-fit left right ls rs matches fl fr all.1)
