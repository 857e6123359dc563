-- The rows of a scan of one version.
use Rattle.std.proofs.Common.{◌≡◌, ◌∙◌, ℕ, zero, suc, List, [], ◌∷◌, Some, None, length, map, refl, sym, ap, subst}
use Rattle.std.specs.Prelude.{IfOk, MatchResult, Option, Result, Ok, Err, slice_get}
use Rattle.std.specs.List.{AllZip}
use Rattle.std.proofs.lemmas.List.{length-map}
use Rattle.ov_fetch.specs.Scans.{row_at, rows_at, rows_of}
use Rattle.ov_fetch.specs.declared.scan.Scan.{Scan}
use Rattle.ov_join.proofs.Fitted.{one-shown}
use Rattle.ov_join.specs.Meeting.{first_pick, rows_shown}
use Rattle.ov_model.specs.Book.{Row, Version}
use Rattle.ov_model.specs.Records.{rows_at as version_rows}
use Rattle.ov_read.specs.Found.{IsScanned}
use Rattle.ov_segment.specs.declared.numbered.Record.{Record}
use Rattle.ov_store.specs.Scanning.{IsUndamaged, versions_off}
use Rattle.ov_store.specs.declared.errors.StoreErr.{StoreErr}
use Rattle.ov_query.specs.Joining.{IsVersionRead}
use Rattle.ov_query.specs.Queries.{Set}

-- ---- rows at positions

row_is : (records : List Record) (place : ℕ) (r : Record) → slice_get records place ≡ Some r → row_at records place ≡ r.row
row_is [] place r e = cc
row_is (x ∷ records) zero r e = cc
row_is (x ∷ records) (suc place) r e = row_is records place r e

heads : {X : Type 0} (x y : X) (xs ys : List X) → x ∷ xs ≡ y ∷ ys → x ≡ y
heads x y xs ys e = cc

tails : {X : Type 0} (x y : X) (xs ys : List X) → x ∷ xs ≡ y ∷ ys → xs ≡ ys
tails x y xs ys e = cc

rows_found : (records : List Record) (pick : List ℕ) (found : List Record) → map (slice_get records) pick ≡ map Some found → rows_at records pick ≡ rows_of found
rows_found records [] [] e = refl
rows_found records [] (r ∷ found) e = cc
rows_found records (p ∷ pick) [] e = cc
rows_found records (p ∷ pick) (r ∷ found) e =
    ap (λ (row : Row). row ∷ rows_at records pick) (row_is records p r (heads (slice_get records p) (Some r) (map (slice_get records) pick) (map Some found) e))
    ∙ ap (λ (rows : List Row). r.row ∷ rows) (rows_found records pick found (tails (slice_get records p) (Some r) (map (slice_get records) pick) (map Some found) e))

-- ---- the one version's

module _ (scan : Scan) (vid : ℕ) (are : scan.vids ≡ vid ∷ []) where
  scanned_once : length scan.vids ≡ 1
  scanned_once = ap (λ (vids : List ℕ). length vids) are

  shown_first : length scan.picks ≡ 1 → rows_shown scan ≡ rows_at scan.records (first_pick scan.picks)
  shown_first one = one-shown (rows_of scan.records) scan.vids scan.picks scanned_once (scanned_once ∙ sym one)

  -- as they are read
  zip_first : (area : List ℕ) (set : Set) (picks : List (List ℕ)) → AllZip (IsScanned area set scan.records) (vid ∷ []) picks
      → (length picks ≡ 1) × IsScanned area set scan.records vid (first_pick picks)
  zip_first area set [] all = absurd all
  zip_first area set (pick ∷ []) all = (refl, all.0)
  zip_first area set (pick ∷ other ∷ picks) all = absurd all.1

  version_read : (area : List ℕ) (set : Set) → AllZip (IsScanned area set scan.records) (vid ∷ []) scan.picks → IsVersionRead set vid area (rows_shown scan)
  version_read area set all =
      let it = zip_first area set scan.picks all
      in record {
        records = scan.records;
        pick = first_pick scan.picks;
        scanned = it.1;
        rows_are = shown_first it.0 ∙ rows_found scan.records (first_pick scan.picks) it.1.found it.1.picked.at;
      }

  -- those of a dataset
  first_is : (f : List ℕ → List Row) (picks : List (List ℕ)) (rows : List Row) → map f picks ≡ rows ∷ [] → (length picks ≡ 1) × (f (first_pick picks) ≡ rows)
  first_is f [] rows e = absurd cc
  first_is f (pick ∷ picks) rows e =
      (sym (length-map (pick ∷ picks) f) ∙ ap (λ (l : List (List Row)). length l) e, heads (f pick) rows (map f picks) [] e)

  version_shown : (versions : List Version) → map (rows_at scan.records) scan.picks ≡ map (version_rows versions) (vid ∷ []) → rows_shown scan ≡ version_rows versions vid
  version_shown versions are_ =
      let it = first_is (rows_at scan.records) scan.picks (version_rows versions vid) are_
      in shown_first it.0 ∙ it.1

-- ---- as the store gives it

module _ (result : Result Scan StoreErr) (vid : ℕ) (vids : List ℕ) (same : vids ≡ vid ∷ []) where
  pub read_so : IfOk result (λ scan. scan.vids ≡ vids) → (area : List ℕ) (set : Set) → IfOk result (λ scan. AllZip (IsScanned area set scan.records) vids scan.picks)
      → IfOk result (λ scan. IsVersionRead set vid area (rows_shown scan))
  read_so are area set all = by result are all
    where
      by : (r : Result Scan StoreErr) → IfOk r (λ scan. scan.vids ≡ vids) → IfOk r (λ scan. AllZip (IsScanned area set scan.records) vids scan.picks)
          → IfOk r (λ scan. IsVersionRead set vid area (rows_shown scan))
      by (Ok scan) are all = version_read scan vid (are ∙ same) area set (subst (λ (vs : List ℕ). AllZip (IsScanned area set scan.records) vs scan.picks) same all)
      by (Err e) are all = tt

  pub shown_so : IfOk result (λ scan. scan.vids ≡ vids) → (versions : List Version)
      → MatchResult result (λ scan. map (rows_at scan.records) scan.picks ≡ map (version_rows versions) vids) IsUndamaged
      → IfOk result (λ scan. rows_shown scan ≡ version_rows versions vid)
  shown_so are versions is = by result are is
    where
      by : (r : Result Scan StoreErr) → IfOk r (λ scan. scan.vids ≡ vids)
          → MatchResult r (λ scan. map (rows_at scan.records) scan.picks ≡ map (version_rows versions) vids) IsUndamaged
          → IfOk r (λ scan. rows_shown scan ≡ version_rows versions vid)
      by (Ok scan) are is = version_shown scan vid (are ∙ same) versions (is ∙ ap (map (version_rows versions)) same)
      by (Err e) are is = tt

-- what may be scanned is there
pub there_of : (o : Option Set) (vids : List ℕ) → versions_off o vids ≡ None → (set : Set) × (o ≡ Some set)
there_of None vids none = absurd cc
there_of (Some set) vids none = (set, refl)
