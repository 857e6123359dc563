-- The rows of versions, one partition more.
use Rattle.std.proofs.Common.{◌≡◌, ◌<◌, ◌+◌, ◌⊎◌, ℕ, zero, suc, Bool, true, false, Some, List, [], ◌∷◌, ◌++◌, length, map, get_or, refl, sym, ◌∙◌, ap, subst, inl, inr, arith}
use Rattle.std.specs.Prelude.{slice_get}
use Rattle.std.specs.List.{All, AllZip, sum_by}
use Rattle.std.proofs.lemmas.List.{get_or-map, length-map, map-append}
use Rattle.std.proofs.lemmas.List.Elements.{All-append, All-get_or, All-map}
use Rattle.ov_host.specs.declared.area.Extent.{Extent}
use Rattle.ov_host.specs.Host.{State}
use Rattle.ov_layout.specs.declared.part.Part.{Part}
use Rattle.ov_layout.proofs.VidLemmas.{has-find}
use Rattle.ov_member.specs.Rids.{has}
use Rattle.ov_value.specs.Rows.{Fits}
use Rattle.ov_value.specs.Shapes.{Shape}
use Rattle.ov_segment.specs.declared.numbered.Record.{Record}
use Rattle.ov_fetch.specs.Scans.{AllFit, rows_of}
use Rattle.ov_read.specs.declared.gathering.Gathered.{Gathered}
use Rattle.ov_read.specs.Found.{IsPicked}
use Rattle.ov_read.specs.Gathering.{ArePut, IsAdded, IsGroup, IsKept, IsNew, IsRowsOf, bytes_if, moved, numbers_at, sets_at}

-- ---- more records before, or behind

get_behind : (xs ys : List Record) (place : ℕ) → slice_get (xs ++ ys) (length xs + place) ≡ slice_get ys place
get_behind [] ys place = let e : 0 + place ≡ place = omega arith in ap (slice_get ys) e
get_behind (x ∷ xs) ys place =
    let e : suc (length xs) + place ≡ suc (length xs + place) = omega arith in
    ap (slice_get (x ∷ (xs ++ ys))) e ∙ get_behind xs ys place

moved_at : (xs ys : List Record) (pick : List ℕ) → map (slice_get (xs ++ ys)) (moved (length xs) pick) ≡ map (slice_get ys) pick
moved_at xs ys [] = refl
moved_at xs ys (p ∷ pick) =
    ap (λ o. o ∷ map (slice_get (xs ++ ys)) (moved (length xs) pick)) (get_behind xs ys p) ∙ ap (λ l. slice_get ys p ∷ l) (moved_at xs ys pick)

get_before : (xs ys : List Record) (place : ℕ) (r : Record) → slice_get xs place ≡ Some r → slice_get (xs ++ ys) place ≡ Some r
get_before [] ys place r e = cc
get_before (x ∷ xs) ys zero r e = e
get_before (x ∷ xs) ys (suc place) r e = get_before xs ys place r e

heads : {X : Type 0} (x y : X) (xs ys : List X) → x ∷ xs ≡ y ∷ ys → x ≡ y
heads x y xs ys e = cc

tails : {X : Type 0} (x y : X) (xs ys : List X) → x ∷ xs ≡ y ∷ ys → xs ≡ ys
tails x y xs ys e = cc

kept_at : (xs ys : List Record) (pick : List ℕ) (found : List Record) → map (slice_get xs) pick ≡ map Some found → map (slice_get (xs ++ ys)) pick ≡ map Some found
kept_at xs ys [] [] e = refl
kept_at xs ys [] (r ∷ found) e = cc
kept_at xs ys (p ∷ pick) [] e = cc
kept_at xs ys (p ∷ pick) (r ∷ found) e =
    ap (λ o. o ∷ map (slice_get (xs ++ ys)) pick) (get_before xs ys p r (heads (slice_get xs p) (Some r) (map (slice_get xs) pick) (map Some found) e))
    ∙ ap (λ l. Some r ∷ l) (kept_at xs ys pick found (tails (slice_get xs p) (Some r) (map (slice_get xs) pick) (map Some found) e))

picked_before : (schema : Shape) (xs ys : List Record) (rids pick : List ℕ) (found : List Record) → IsPicked schema xs rids pick found → IsPicked schema (xs ++ ys) rids pick found
picked_before schema xs ys rids pick found h = record { at = kept_at xs ys pick found h.at; same = h.same; ordered = h.ordered }

rows_behind : (schema : Shape) (s : State) (segments : List Extent) (xs ys : List Record) (rids pick : List ℕ) → IsRowsOf schema s segments ys rids pick
    → IsRowsOf schema s segments (xs ++ ys) rids (moved (length xs) pick)
rows_behind schema s segments xs ys rids pick h = record {
  set = h.set;
  found = h.found;
  picked = record { at = moved_at xs ys pick ∙ h.picked.at; same = h.picked.same; ordered = h.picked.ordered };
  told = h.told;
}

fit_more : (schema : Shape) (xs ys : List Record) → AllFit schema ys → AllFit schema xs → AllFit schema (xs ++ ys)
fit_more schema xs ys more fit = subst (All (Fits schema)) (sym (map-append (λ (r : Record). r.row) xs ys)) (All-append (Fits schema) (rows_of xs) (rows_of ys) fit more)

not_both : (b : Bool) → b ≡ true → b ≡ false → ⊥
not_both true t f = cc
not_both false t f = cc

-- nothing is added where the partition serves none
pub none_added : (schema : Shape) (s : State) (part : Part) (vids : List ℕ) (lists : List (List ℕ)) (group : List ℕ) (found : Gathered) → IsGroup vids part.versions group → group ≡ []
    → IsAdded schema s part vids lists found found
none_added schema s part vids lists group found is none = record {
  count = refl;
  fit = λ fit. fit;
  served = λ place low member. absurd (nowhere (has group place) (is.all place low member) (ap (λ (g : List ℕ). has g place) none));
  others = λ place low other rids records picked. picked;
}
  where
    nowhere : (b : Bool) → b ≡ true → b ≡ false → ⊥
    nowhere b t f = not_both b t f

pub zip_at : {A B : Type 0} (R : A → B → Type 0) (xs : List A) (ys : List B) (k : ℕ) (d : A) (e : B) → AllZip R xs ys → k < length xs → R (get_or xs k d) (get_or ys k e)
zip_at R [] ys k d e all low = absurd (omega (arith, low))
zip_at R (x ∷ xs) [] k d e all low = absurd all
zip_at R (x ∷ xs) (y ∷ ys) zero d e all low = all.0
zip_at R (x ∷ xs) (y ∷ ys) (suc k) d e all low = zip_at R xs ys k d e all.1 (omega (arith, low))

pub group_added : (schema : Shape) (s : State) (part : Part) (vids : List ℕ) (lists : List (List ℕ)) (group : List ℕ) (old new : Gathered) (more : List Record) (picks : List (List ℕ)) → length lists ≡ length vids
    → length old.picks.items ≡ length vids → IsGroup vids part.versions group → AllFit schema more → AllZip (IsRowsOf schema s part.segments more) (sets_at lists group) picks
    → ArePut (length group) (length old.records.records) group picks old.picks.items new.picks.items → new.records.records ≡ old.records.records ++ more → IsAdded schema s part vids lists old new
group_added schema s part vids lists group old new more picks paired counted is fit rows put records = record {
  count = put.count;
  fit = λ before. subst (AllFit schema) (sym records) (fit_more schema old.records.records more fit before);
  served = λ place low member. subst (λ rs. IsRowsOf schema s part.segments rs (get_or lists place []) (get_or new.picks.items place [])) (sym records) (here place low member (put.each place (omega (arith, low, counted))));
  others = λ place low other rids found picked. subst (λ rs. IsPicked schema rs rids (get_or new.picks.items place []) found) (sym records)
      (there place low other rids found picked (put.each place (omega (arith, low, counted))));
}
  where
    -- the rows of one of the group
    one : (place k : ℕ) → k < length group → get_or group k 0 ≡ place → IsRowsOf schema s part.segments more (get_or lists place []) (get_or picks k [])
    one place k low at =
        subst (λ rids. IsRowsOf schema s part.segments more rids (get_or picks k []))
        (get_or-map (λ (p : ℕ). get_or lists p []) group k 0 [] low ∙ ap (λ p. get_or lists p []) at)
        (zip_at (IsRowsOf schema s part.segments more) (sets_at lists group) picks k [] [] rows (rw (length-map group (λ (p : ℕ). get_or lists p [])) low))

    here : (place : ℕ) → place < length vids → has part.versions (get_or vids place 0) ≡ true
        → IsNew (length group) (length old.records.records) group picks new.picks.items place ⊎ IsKept (length group) group old.picks.items new.picks.items place
        → IsRowsOf schema s part.segments (old.records.records ++ more) (get_or lists place []) (get_or new.picks.items place [])
    here place low member (inl h) =
        subst (IsRowsOf schema s part.segments (old.records.records ++ more) (get_or lists place [])) (sym h.is)
        (rows_behind schema s part.segments old.records.records more (get_or lists place []) (get_or picks h.k []) (one place h.k h.there h.at))
    here place low member (inr h) = let f = has-find group place (is.all place low member) in absurd (h.other f.at f.within (f.here 0))

    there : (place : ℕ) → place < length vids → has part.versions (get_or vids place 0) ≡ false → (rids : List ℕ) (found : List Record)
        → IsPicked schema old.records.records rids (get_or old.picks.items place []) found
        → IsNew (length group) (length old.records.records) group picks new.picks.items place ⊎ IsKept (length group) group old.picks.items new.picks.items place
        → IsPicked schema (old.records.records ++ more) rids (get_or new.picks.items place []) found
    there place low other rids found picked (inl h) =
        let one = All-get_or (λ p. (p < length vids) × (has part.versions (get_or vids p 0) ≡ true)) group h.k 0 h.there is.only in
        absurd (not_both (has part.versions (get_or vids place 0)) (ap (λ p. has part.versions (get_or vids p 0)) (sym h.at) ∙ one.1) other)
    there place low other rids found picked (inr h) =
        subst (λ pick. IsPicked schema (old.records.records ++ more) rids pick found) (sym h.is) (picked_before schema old.records.records more rids (get_or old.picks.items place []) found picked)

-- ---- what a group's calls ask

pub zip_length : {A B : Type 0} (R : A → B → Type 0) (xs : List A) (ys : List B) → AllZip R xs ys → length ys ≡ length xs
zip_length R [] [] all = refl
zip_length R [] (y ∷ ys) all = absurd all
zip_length R (x ∷ xs) [] all = absurd all
zip_length R (x ∷ xs) (y ∷ ys) all = ap suc (zip_length R xs ys all.1)

pub group_there : (P : ℕ → Type 0) (vids versions group : List ℕ) → IsGroup vids versions group → All P vids → All P (numbers_at vids group)
group_there P vids versions group is all =
    All-map P (λ place. get_or vids place 0) group
    (λ k d low. let one = is.only k d low in all (get_or group k d) 0 one.0)

pub some_bytes : (group : List ℕ) (segments : List Extent) → 0 < length group → bytes_if group segments ≡ sum_by (λ e. e.bytes) segments
some_bytes [] segments some = absurd (omega (arith, some))
some_bytes (place ∷ group) segments some = refl
