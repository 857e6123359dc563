-- The scan, when all partitions were passed.
use Rattle.std.proofs.Common.{◌≡◌, ◌<◌, ℕ, zero, suc, true, Some, List, [], ◌∷◌, length, map, get_or, refl, sym, ◌∙◌, ap, subst, inl, arith}
use Rattle.std.specs.Prelude.{slice_get}
use Rattle.std.specs.List.{All, AllZip}
use Rattle.std.proofs.lemmas.List.{length-map}
use Rattle.std.proofs.lemmas.List.Elements.{All-nil, All-cons, All-from_get_or}
use Rattle.std.proofs.lemmas.List.Sorted.{length_permutation}
use Rattle.ov_host.specs.Host.{State}
use Rattle.ov_value.specs.declared.value.Value.{Value}
use Rattle.ov_value.specs.Shapes.{Shape}
use Rattle.ov_segment.specs.declared.numbered.Record.{Record}
use Rattle.ov_fetch.specs.declared.errors.FetchErr.{FetchErr}
use Rattle.ov_fetch.specs.declared.errors.FetchErr.TheVariants.{Host, Memory, Damaged}
use Rattle.ov_fetch.specs.declared.scan.Scan.{Scan}
use Rattle.ov_fetch.specs.Extents.{IsList, Looked, page_bytes, rids_of}
use Rattle.ov_fetch.specs.Scans.{AllFit, AllStand, InKeyOrder, IsSound, row_at, rows_at, rows_of as rows_in}
use Rattle.ov_fetch.proofs.Lacking.{get_below}
use Rattle.ov_read.specs.declared.gathering.Gathered.{Gathered}
use Rattle.ov_read.specs.Agreement.{Agrees, Numbers, is_served, list_of, segments_of}
use Rattle.ov_read.specs.Damages.{RefusesLists, RefusesScan}
use Rattle.ov_read.specs.Found.{HasRows, IsListed, IsPicked, IsScanned}
use Rattle.ov_read.specs.Gathered.{AreGathered}
use Rattle.ov_read.specs.Gathering.{IsRowsOf}
use Rattle.ov_read.proofs.Gatherings.{zip_at}
use Rattle.ov_read.proofs.Passed.{rows_now}

zip_from : {A B : Type 0} (R : A → B → Type 0) (xs : List A) (ys : List B) (d : A) (e : B) → length ys ≡ length xs → ((k : ℕ) → k < length xs → R (get_or xs k d) (get_or ys k e)) → AllZip R xs ys
zip_from R [] [] d e same h = tt
zip_from R [] (y ∷ ys) d e same h = absurd (omega (arith, same))
zip_from R (x ∷ xs) [] d e same h = absurd (omega (arith, same))
zip_from R (x ∷ xs) (y ∷ ys) d e same h = (h 0 (omega arith), zip_from R xs ys d e (omega (arith, same)) (λ k low. h (suc k) (omega (arith, low))))

-- ---- rows at positions

row_is : (records : List Record) (place : ℕ) (r : Record) → slice_get records place ≡ Some r → row_at records place ≡ r.row
row_is [] place r e = cc
row_is (x ∷ records) zero r e = cc
row_is (x ∷ records) (suc place) r e = row_is records place r e

heads : {X : Type 0} (x y : X) (xs ys : List X) → x ∷ xs ≡ y ∷ ys → x ≡ y
heads x y xs ys e = cc

tails : {X : Type 0} (x y : X) (xs ys : List X) → x ∷ xs ≡ y ∷ ys → xs ≡ ys
tails x y xs ys e = cc

pub record Stands (records : List Record) (pick : List ℕ) (found : List Record) : Type 0 where
  pub stand : AllStand records pick
  pub rows : rows_at records pick ≡ rows_in found
  pub count : length pick ≡ length found

stands : (records : List Record) (pick : List ℕ) (found : List Record) → map (slice_get records) pick ≡ map Some found → Stands records pick found
stands records [] [] e = record { stand = All-nil (λ place. place < length records); rows = refl; count = refl }
stands records [] (r ∷ found) e = cc
stands records (p ∷ pick) [] e = cc
stands records (p ∷ pick) (r ∷ found) e =
    let at = heads (slice_get records p) (Some r) (map (slice_get records) pick) (map Some found) e in
    let rest = stands records pick found (tails (slice_get records p) (Some r) (map (slice_get records) pick) (map Some found) e) in
    record {
      stand = All-cons (λ place. place < length records) p pick (get_below records p r at) rest.stand;
      rows = ap (λ (row : List Value). row ∷ rows_at records pick) (row_is records p r at) ∙ ap (λ (l : List (List Value)). r.row ∷ l) rest.rows;
      count = ap suc rest.count;
    }

-- ---- the scan

row_count : (schema : Shape) (records : List Record) (rids pick : List ℕ) (found : List Record) → IsPicked schema records rids pick found → length pick ≡ length rids
row_count schema records rids pick found h =
    (stands records pick found h.at).count ∙ (sym (length-map found (λ (r : Record). r.rid)) ∙ length_permutation rids (rids_of found) h.same)

pub have_rows : (s : State) (n : Numbers) (vids : List ℕ) (lists : List (List ℕ)) (found : Gathered) → AreGathered s n vids lists found → All (λ vid. is_served n vid ≡ true) vids → AllZip (Agrees n) vids lists
    → AllZip (HasRows n) vids found.picks.items
have_rows s n vids lists found h placed agree =
    zip_from (HasRows n) vids found.picks.items 0 [] h.count (λ k low.
    let one = h.each k low (placed k 0 low) in
    row_count n.schema found.records.records (get_or lists k []) (get_or found.picks.items k []) one.found one.picked
    ∙ (zip_at (Agrees n) vids lists k 0 [] agree low).count_is)

pub are_sound : (s : State) (n : Numbers) (vids : List ℕ) (lists : List (List ℕ)) (found : Gathered) (scan : Scan) → scan.vids ≡ vids → scan.records ≡ found.records.records → scan.picks ≡ found.picks.items
    → AreGathered s n vids lists found → All (λ vid. is_served n vid ≡ true) vids → IsSound n.schema scan
are_sound s n vids lists found scan vids_are records_are picks_are h placed = record {
  paired = ap length vids_are ∙ (sym h.count ∙ sym (ap length picks_are));
  fit = subst (λ rs. AllFit n.schema rs) (sym records_are) h.fit;
  stand = subst (λ ps. All (AllStand scan.records) ps) (sym picks_are) (subst (λ rs. All (AllStand rs) found.picks.items) (sym records_are)
      (All-from_get_or (AllStand found.records.records) found.picks.items [] (λ k low. (at k low).stand)));
  ordered = subst (λ ps. All (λ pick. InKeyOrder n.schema (rows_at scan.records pick)) ps) (sym picks_are)
      (subst (λ rs. All (λ pick. InKeyOrder n.schema (rows_at rs pick)) found.picks.items) (sym records_are)
      (All-from_get_or (λ pick. InKeyOrder n.schema (rows_at found.records.records pick)) found.picks.items [] (λ k low. subst (InKeyOrder n.schema) (sym (at k low).rows) (rows k low).picked.ordered)));
}
  where
    rows : (k : ℕ) → k < length found.picks.items → IsRowsOf n.schema s (segments_of n (get_or vids k 0)) found.records.records (get_or lists k []) (get_or found.picks.items k [])
    rows k low = let below : k < length vids = omega (arith, low, h.count) in h.each k below (placed k 0 below)

    at : (k : ℕ) (low : k < length found.picks.items) → Stands found.records.records (get_or found.picks.items k []) (rows k low).found
    at k low = stands found.records.records (get_or found.picks.items k []) (rows k low).found (rows k low).picked.at

pub are_scanned : (s0 s1 : State) (n : Numbers) (vids : List ℕ) (lists : List (List ℕ)) (found : Gathered) → Looked s0 s1 → s0.tells ≡ true → AreGathered s1 n vids lists found → All (λ vid. is_served n vid ≡ true) vids
    → AllZip (λ vid. IsList (page_bytes s0) (list_of n vid)) vids lists → AllZip (Agrees n) vids lists → AllZip (IsScanned (page_bytes s0) n found.records.records) vids found.picks.items
are_scanned s0 s1 n vids lists found looked told h placed lists_are agree =
    zip_from (IsScanned (page_bytes s0) n found.records.records) vids found.picks.items 0 [] h.count (λ k low.
    let one = rows_now n.schema s0 s1 (segments_of n (get_or vids k 0)) (segments_of n (get_or vids k 0)) found.records.records (get_or lists k []) (get_or found.picks.items k []) looked refl (h.each k low (placed k 0 low)) in
    record {
      rids = get_or lists k [];
      list = zip_at (λ vid. IsList (page_bytes s0) (list_of n vid)) vids lists k 0 [] lists_are low;
      agrees = zip_at (Agrees n) vids lists k 0 [] agree low;
      found = one.found;
      picked = one.picked;
      first = one.told told;
    })

pub are_listed : (s : State) (n : Numbers) (vids : List ℕ) (lists : List (List ℕ)) (found : Gathered) → AreGathered s n vids lists found → All (λ vid. is_served n vid ≡ true) vids → AllZip (Agrees n) vids lists
    → AllZip (IsListed n found.records.records) vids found.picks.items
are_listed s n vids lists found h placed agree =
    zip_from (IsListed n found.records.records) vids found.picks.items 0 [] h.count (λ k low.
    let one = h.each k low (placed k 0 low) in
    record { rids = get_or lists k []; set = one.set; agrees = zip_at (Agrees n) vids lists k 0 [] agree low; found = one.found; picked = one.picked })

pub lists_refuse : (e : FetchErr) (area : List ℕ) (n : Numbers) (vids : List ℕ) → RefusesLists e area n vids → RefusesScan e area n vids
lists_refuse Host area n vids why = tt
lists_refuse Memory area n vids why = tt
lists_refuse (Damaged page) area n vids why = inl why
