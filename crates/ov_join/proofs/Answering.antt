-- From what the sides, their partners and their matches are to the pairs of the definition.
use Rattle.std.proofs.Common.{◌≡◌, ◌<◌, ◌∷◌, ◌∙◌, [], ℕ, List, ap, ap₂, refl, sym, subst, length, map}
use Rattle.std.specs.List.{All, AllByRecursion, flat_map}
use Rattle.ov_value.specs.Rows.{Fits}
use Rattle.ov_value.specs.Shapes.{Shape}
use Rattle.ov_fetch.specs.Scans.{IsSound, rows_of}
use Rattle.ov_fetch.specs.declared.scan.Scan.{Scan}
use Rattle.ov_model.specs.Answers.{Pair, sorted_by}
use Rattle.ov_model.specs.Book.{Row}
use Rattle.ov_model.specs.Joins.{matches, side_by_side}
use Rattle.ov_model.specs.declared.query.JoinQuery.{JoinQuery}
use Rattle.ov_terms.specs.Finding.{in_version}
use Rattle.ov_terms.specs.Standing.{Stands, joined_rows, row_in, spots_in}
use Rattle.ov_terms.specs.declared.matches.Match.{Match}
use Rattle.ov_terms.specs.declared.spot.Spot.{Spot}
use Rattle.ov_qrun.specs.Keys.{key_in, spot_order}
use Rattle.ov_qrun.proofs.Sorting.{sorted-all}
use Rattle.ov_join.specs.Fitting.{Fitting}
use Rattle.ov_join.specs.Meeting.{left_key, pairs_met, places_of, right_key, rows_shown}
use Rattle.ov_join.specs.Partnering.{matches_by, partners_in}
use Rattle.ov_join.specs.declared.side.Side.{Side}
use Rattle.ov_join.proofs.Fitted.{by-places, first-stands, mapped-all, matches-stand, one-shown, rows-fit, spots-all, wide-at}
use Rattle.ov_join.proofs.Pairing.{beside_each, count-pairs, made-pairs, pairs-are, row_of_match}

-- a side shows a scan of one version
pub record Shows (side : Side) (scan : Scan) : Type 0 where
  pub table : side.table ≡ rows_of scan.records
  pub places : side.places.now ≡ places_of scan
  pub one : length scan.vids ≡ 1

module _ (left right : Side) (typed : Fitting) (ls rs : Scan) (sorted : List Spot) (lsound : IsSound typed.left ls) (rsound : IsSound typed.right rs)
    (lshows : Shows left ls) (rshows : Shows right rs) (lcols : (pair : Pair) → key_in left.cols.items pair ≡ left_key typed.left typed.join.on pair)
    (rcols : (pair : Pair) → key_in right.cols.items pair ≡ right_key typed.right typed.join.on pair)
    (is : sorted ≡ sorted_by (spot_order right.table right.cols.items) (spots_in 0 right.places.now)) where
  lefts-stand : AllByRecursion (λ place. place < length ls.records) left.places.now
  lefts-stand =
      subst (AllByRecursion (λ place. place < length ls.records)) (sym lshows.places) (first-stands ls.records ls.picks (sym lsound.paired ∙ lshows.one) lsound.stand)

  rights-stand : AllByRecursion (λ place. place < length rs.records) right.places.now
  rights-stand =
      subst (AllByRecursion (λ place. place < length rs.records)) (sym rshows.places) (first-stands rs.records rs.picks (sym rsound.paired ∙ rshows.one) rsound.stand)

  lefts-wide : AllByRecursion (λ place. length (row_in left.table place) ≡ length typed.left.columns) left.places.now
  lefts-wide =
      subst (λ (rows : List Row). AllByRecursion (λ place. length (row_in rows place) ≡ length typed.left.columns) left.places.now) (sym lshows.table)
      (mapped-all (λ place. place < length ls.records) (λ place. length (row_in (rows_of ls.records) place) ≡ length typed.left.columns)
      (λ place lt. wide-at typed.left ls.records place lsound.fit lt) left.places.now lefts-stand)

  rights-wide : AllByRecursion (λ s. length (row_in right.table s.place) ≡ length typed.right.columns) (spots_in 0 right.places.now)
  rights-wide =
      spots-all (λ place. length (row_in right.table place) ≡ length typed.right.columns) right.places.now
      (subst (λ (rows : List Row). AllByRecursion (λ place. length (row_in rows place) ≡ length typed.right.columns) right.places.now) (sym rshows.table)
      (mapped-all (λ place. place < length rs.records) (λ place. length (row_in (rows_of rs.records) place) ≡ length typed.right.columns)
      (λ place lt. wide-at typed.right rs.records place rsound.fit lt) right.places.now rights-stand))

  met : pairs_met typed ls rs ≡ flat_map (beside_each left.table right.table (partners_in left right sorted)) left.places.now
  met =
      ap₂ (matches typed.join typed.left typed.right)
      (one-shown (rows_of ls.records) ls.vids ls.picks lshows.one lsound.paired ∙ ap₂ (λ rows places. map (row_in rows) places) (sym lshows.table) (sym lshows.places))
      (one-shown (rows_of rs.records) rs.vids rs.picks rshows.one rsound.paired ∙ ap₂ (λ rows places. map (row_in rows) places) (sym rshows.table) (sym rshows.places))
      ∙ pairs-are left right typed.join typed.left typed.right left.places.now right.places.now sorted lcols rcols is lefts-wide rights-wide

  pub count-is : length (flat_map (partners_in left right sorted) left.places.now) ≡ length (pairs_met typed ls rs)
  count-is = sym (ap length met ∙ count-pairs left.table right.table (partners_in left right sorted) left.places.now)

  pub rows-are : (found : List (ℕ × List Spot)) (made : List Match) → found ≡ map (λ place. (place, partners_in left right sorted place)) left.places.now
      → made ≡ flat_map matches_by found → map (in_version 0) (joined_rows ls.records rs.records made) ≡ pairs_met typed ls rs
  rows-are found made ef em =
      ap₂ (λ (l : List Row) (r : List Row). map (in_version 0) (map (row_of_match l r) made)) (sym lshows.table) (sym rshows.table)
      ∙ ap (λ ms. map (in_version 0) (map (row_of_match left.table right.table) ms)) (em ∙ ap (flat_map matches_by) ef)
      ∙ made-pairs left.table right.table (partners_in left right sorted) left.places.now ∙ sym met

  all-stand : (found : List (ℕ × List Spot)) (made : List Match) → found ≡ map (λ place. (place, partners_in left right sorted place)) left.places.now
      → made ≡ flat_map matches_by found → AllByRecursion (Stands ls.records rs.records) made
  all-stand found made ef em =
      subst (AllByRecursion (Stands ls.records rs.records)) (sym (em ∙ ap (flat_map matches_by) ef))
      (matches-stand ls.records rs.records left right sorted left.places.now lefts-stand
      (subst (AllByRecursion (λ s. s.place < length rs.records)) (sym is)
      (sorted-all (λ s. s.place < length rs.records) (spot_order right.table right.cols.items) (spots_in 0 right.places.now)
      (spots-all (λ place. place < length rs.records) right.places.now rights-stand))))

  pub stand-is : (found : List (ℕ × List Spot)) (made : List Match) → found ≡ map (λ place. (place, partners_in left right sorted place)) left.places.now
      → made ≡ flat_map matches_by found → All (Stands ls.records rs.records) made
  stand-is found made ef em = by-places (Stands ls.records rs.records) made (all-stand found made ef em)

  pub fit-is : (found : List (ℕ × List Spot)) (made : List Match) → found ≡ map (λ place. (place, partners_in left right sorted place)) left.places.now
      → made ≡ flat_map matches_by found → All (Fits (side_by_side typed.left typed.right)) (joined_rows ls.records rs.records made)
  fit-is found made ef em =
      by-places (Fits (side_by_side typed.left typed.right)) (joined_rows ls.records rs.records made)
      (rows-fit typed.left typed.right ls.records rs.records made lsound.fit rsound.fit (all-stand found made ef em))
