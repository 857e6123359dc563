-- What is read of a version twice is the same rows, in an order or another.
use Rattle.std.proofs.Common.{◌≡◌, ◌∙◌, ℕ, zero, suc, List, [], ◌∷◌, length, map, refl, sym, ap, subst}
use Rattle.std.specs.Prelude.{Some, None, Option, slice_get}
use Rattle.std.specs.List.{AllByRecursion}
use Rattle.std.specs.List.Sorted.{IsPermutation}
use Rattle.std.proofs.lemmas.List.Elements.{recursion_from_All}
use Rattle.std.proofs.lemmas.List.Sorted.{IsPermutation-map, IsPermutation-sym, IsPermutation-trans}
use Rattle.ov_fetch.specs.Extents.{extent_bytes, page_bytes, rids_of}
use Rattle.ov_fetch.specs.Rows.{joined, record_of}
use Rattle.ov_fetch.specs.Scans.{row_at, rows_at, rows_of}
use Rattle.ov_host.specs.Host.{State}
use Rattle.ov_model.specs.Book.{Row}
use Rattle.ov_read.specs.Agreement.{list_of, segments_of}
use Rattle.ov_read.specs.Found.{IsScanned}
use Rattle.ov_segment.specs.declared.numbered.Record.{Record}
use Rattle.ov_store.specs.Committing.{Set}
use Rattle.law_reads.proofs.Stored.{segments_once}
use Rattle.law_reads.proofs.Undamaged.{one_list}
use Rattle.ov_registry.specs.Last.{IsLast}

-- ---- the rows at the positions of records

get_row : (records : List Record) (place : ℕ) (r : Record) → slice_get records place ≡ Some r → row_at records place ≡ r.row
get_row [] place r e = cc
get_row (x ∷ records) zero r e = cc
get_row (x ∷ records) (suc place) r e = get_row records place r e

heads : {X : Type 0} (x y : X) (xs ys : List X) → x ∷ xs ≡ y ∷ ys → x ≡ y
heads x y xs ys e = cc

tails : {X : Type 0} (x y : X) (xs ys : List X) → x ∷ xs ≡ y ∷ ys → xs ≡ ys
tails x y xs ys e = cc

pub picked_rows : (records : List Record) (pick : List ℕ) (found : List Record) → map (slice_get records) pick ≡ map Some found → rows_at records pick ≡ rows_of found
picked_rows records [] [] e = refl
picked_rows records [] (r ∷ found) e = cc
picked_rows records (p ∷ pick) [] e = cc
picked_rows records (p ∷ pick) (r ∷ found) e =
    let at = heads (slice_get records p) (Some r) (map (slice_get records) pick) (map Some found) e
    in let rest = picked_rows records pick found (tails (slice_get records p) (Some r) (map (slice_get records) pick) (map Some found) e)
    in ap (λ (row : Row). row ∷ rows_at records pick) (get_row records p r at) ∙ ap (λ (l : List Row). r.row ∷ l) rest

-- ---- by their rids

abbrev row_or : Option Record → Row
row_or None = []
row_or (Some r) = r.row

rows_by : (all rs : List Record) → AllByRecursion (λ r. record_of all r.rid ≡ Some r) rs → rows_of rs ≡ map (λ rid. row_or (record_of all rid)) (rids_of rs)
rows_by all [] are = refl
rows_by all (r ∷ rs) are = λ i. sym (ap row_or are.0) i ∷ rows_by all rs are.1 i

module _ (area : List ℕ) (s : Set) (vid : ℕ) (ar bs : List Record) (ap_ bp : List ℕ) (a : IsScanned area s ar vid ap_) (b : IsScanned area s bs vid bp) where
  rids_same : a.rids ≡ b.rids
  rids_same = one_list (extent_bytes area (list_of s vid)) a.rids b.rids a.list.spells b.list.spells

  contents_same : a.first.contents ≡ b.first.contents
  contents_same = segments_once s.schema area (segments_of s vid) a.first.contents b.first.contents a.first.read b.first.read

  rids_moved : IsPermutation (rids_of a.found) (rids_of b.found)
  rids_moved =
      IsPermutation-trans (rids_of a.found) a.rids (rids_of b.found) (IsPermutation-sym a.rids (rids_of a.found) a.picked.same)
      (subst (λ (l : List ℕ). IsPermutation l (rids_of b.found)) (sym rids_same) b.picked.same)

  abbrev g : ℕ → Row
  g rid = row_or (record_of (joined a.first.contents) rid)

  here : rows_of a.found ≡ map g (rids_of a.found)
  here = rows_by (joined a.first.contents) a.found (recursion_from_All (λ r. record_of (joined a.first.contents) r.rid ≡ Some r) a.found a.first.first)

  there : rows_of b.found ≡ map g (rids_of b.found)
  there =
      rows_by (joined a.first.contents) b.found
      (subst (λ (c : List (List Record)). AllByRecursion (λ r. record_of (joined c) r.rid ≡ Some r) b.found) (sym contents_same)
      (recursion_from_All (λ r. record_of (joined b.first.contents) r.rid ≡ Some r) b.found b.first.first))

  pub scanned_moved : IsPermutation (rows_at ar ap_) (rows_at bs bp)
  scanned_moved =
      subst (λ (l : List Row). IsPermutation (rows_at ar ap_) l) (sym (picked_rows bs bp b.found b.picked.at ∙ there))
      (subst (λ (l : List Row). IsPermutation l (map g (rids_of b.found))) (sym (picked_rows ar ap_ a.found a.picked.at ∙ here))
      (IsPermutation-map g (rids_of a.found) (rids_of b.found) rids_moved))

pub last_moved : (set : Set) (s : State) (rows others : List Row) → IsLast set s rows → IsLast set s others → IsPermutation rows others
last_moved set s rows others one other =
    subst (λ (l : List Row). IsPermutation rows l) (sym other.rows_are)
    (subst (λ (l : List Row). IsPermutation l (rows_at other.records other.pick)) (sym one.rows_are)
    (scanned_moved (page_bytes s) set (length set.versions) one.records other.records one.pick other.pick one.scanned other.scanned))
