-- The list of a version has the rids of its records.
use Rattle.std.proofs.Common.{◌≡◌, ◌≤◌, ◌<◌, ℕ, zero, suc, ◌+◌, ◌-◌, List, [], ◌∷◌, ◌++◌, length, map, get_or, refl, sym, ◌∙◌, ap, subst, inl, inr, arith, append_assoc}
use Rattle.std.specs.Prelude.{Option, Some}
use Rattle.std.proofs.lemmas.List.{length-map, map-append, append-nil}
use Rattle.std.proofs.Math.ListN.{get_or-map}
use Rattle.ov_host.specs.declared.area.Extent.{Extent}
use Rattle.ov_fetch.specs.Extents.{IsList}
use Rattle.law_events.proofs.Seeing.{rows_shown}
use Rattle.law_image.specs.Pages.{readings_of}
use Rattle.law_image.proofs.Extents.{list_is}
use Rattle.ov_model.specs.Book.{Version}
use Rattle.ov_model.specs.Records.{Rec, recs, records_of, of_version, order_of, rid_in, rows_at}
use Rattle.ov_model.specs.World.{Dataset, World}
use Rattle.ov_model.proofs.Growing.{length_recs}
use Rattle.ov_catalog.specs.Numbers.{VersionNumbers, each_version}
use Rattle.ov_catalog.specs.Shown as shown
use Rattle.ov_catalog.specs.Shown.{Rids, shown_versions}
use Rattle.ov_catalog.proofs.Members.{of_map, of_sorted}
use Rattle.ov_read.specs.Agreement.{Numbers, nowhere, list_of, records_after, IsThere, Agrees}
use Rattle.ov_read.specs.Damages.{IsBadList}
use Rattle.ov_read.specs.OfWorld.{IsSetOf, rids_in}
use Rattle.law_reads.proofs.Counted.{numbers, shown_rows}
use Rattle.law_reads.proofs.Founds.{some_is}
use Rattle.law_reads.proofs.Orders.{all_of, sorted_long, rid_before}

each_lists : {L M : Type 0} (f : L → M) (vs : List (VersionNumbers L)) → map (λ v. v.list) (map (each_version f) vs) ≡ map f (map (λ v. v.list) vs)
each_lists f [] = refl
each_lists f (v ∷ vs) = ap (λ ls. f v.list ∷ ls) (each_lists f vs)

shown_lists : (all : List Rec) (done : List (List Rec)) (vs : List Version)
    → map (shown.list_of all) (recs vs done) ≡ map (shown.list_of all) done ++ map (λ (v : VersionNumbers Rids). v.list) (shown_versions all done vs)
shown_lists all done [] = sym (append-nil (map (shown.list_of all) done))
shown_lists all done (v ∷ vs) =
    let rest : List Rids = map (λ (u : VersionNumbers Rids). u.list) (shown_versions all (done ++ records_of v done ∷ []) vs)
    in shown_lists all (done ++ records_of v done ∷ []) vs
    ∙ ap (λ ls. ls ++ rest) (map-append (shown.list_of all) done (records_of v done ∷ []))
    ∙ append_assoc (map (shown.list_of all) done) (shown.list_of all (records_of v done) ∷ []) rest

some_at : {X Y : Type 0} (g : X → Y) (xs : List X) (k : ℕ) (x : X) (o : Option Y) → k < length xs → get_or (map Some (map g xs)) k o ≡ Some (g (get_or xs k x))
some_at g [] k x o low = absurd (omega (arith, low))
some_at g (y ∷ xs) zero x o low = refl
some_at g (y ∷ xs) (suc k) x o low = some_at g xs k x o (omega (arith, low))

list_read : (w : World) (area : List ℕ) (s : Numbers) (d : Dataset) (vid : ℕ) → IsSetOf w d area s → IsThere s vid
    → (readings_of area).list (list_of s vid) ≡ Some (rids_in d vid)
list_read w area s d vid of_world there =
    let read : Extent → Option Rids = (readings_of area).list
    in let all : List Rec = order_of d.cvd.versions
    in let done : List (List Rec) = recs d.cvd.versions []
    in let count : length done ≡ 0 + length d.cvd.versions = length_recs d.cvd.versions []
    in let low : vid - 1 < length done = omega (arith, there.0, there.1, count, (numbers w area s d of_world).versions)
    in sym (get_or-map read (map (λ v. v.list) s.versions) (vid - 1) nowhere)
    ∙ ap (λ ls. get_or ls (vid - 1) (read nowhere)) (sym (each_lists read s.versions))
    ∙ ap (λ x. get_or (map (λ v. v.list) x.versions) (vid - 1) (read nowhere)) of_world.shows
    ∙ ap (λ ls. get_or ls (vid - 1) (read nowhere)) (each_lists Some (shown_versions all [] d.cvd.versions) ∙ ap (map Some) (sym (shown_lists all [] d.cvd.versions)))
    ∙ some_at (shown.list_of all) done (vid - 1) [] (read nowhere) low

pub is_list : (w : World) (area : List ℕ) (s : Numbers) (d : Dataset) (vid : ℕ) → IsSetOf w d area s → IsThere s vid
    → IsList area (list_of s vid) (rids_in d vid)
is_list w area s d vid of_world there =
    let both = (list_is area (list_of s vid) (rids_in d vid)).0 (list_read w area s d vid of_world there)
    in record { whole = both.0; spells = both.1 }

pub only : (w : World) (area : List ℕ) (s : Numbers) (d : Dataset) (vid : ℕ) (rids : List ℕ) → IsSetOf w d area s → IsThere s vid
    → IsList area (list_of s vid) rids → rids ≡ rids_in d vid
only w area s d vid rids of_world there is =
    some_is rids (rids_in d vid) (sym ((list_is area (list_of s vid) rids).1 (is.whole, is.spells)) ∙ list_read w area s d vid of_world there)

pub rows_long : (vs : List Version) (vid : ℕ) → length (of_version (recs vs []) vid) ≡ length (rows_at vs vid)
rows_long vs vid =
    sym (rows_shown [] vs vid)
    ∙ ap (λ ns. get_or ns (vid - 1) 0) (shown_rows [] [] vs)
    ∙ get_or-map (λ rows. length rows) (map (λ v. v.rows) vs) (vid - 1) []

pub agrees : (w : World) (area : List ℕ) (s : Numbers) (d : Dataset) (vid : ℕ) → IsSetOf w d area s → IsThere s vid → Agrees s vid (rids_in d vid)
agrees w area s d vid of_world there =
    let counts = numbers w area s d of_world
    in let all : List Rec = order_of d.cvd.versions
    in let rs : List Rec = of_version (recs d.cvd.versions []) vid
    in let last : vid ≤ length d.cvd.versions = omega (arith, there.1, counts.versions)
    in record {
      count_is = sorted_long (λ rid. rid) (map (rid_in all) rs) ∙ length-map rs (rid_in all) ∙ rows_long d.cvd.versions vid ∙ sym (counts.rows vid);
      below = all_of (λ rid. rid ≤ records_after s vid) (rids_in d vid) (λ rid is.
          let of = of_map (rid_in all) rs rid (of_sorted (λ n. n) (map (rid_in all) rs) rid is)
          in omega (arith, of.1.1, rid_before d.cvd.versions vid there.0 last of.0 of.1.0, counts.after vid));
    }

pub not_bad : (w : World) (area : List ℕ) (s : Numbers) (d : Dataset) (vid : ℕ) → IsSetOf w d area s → IsThere s vid → IsBadList area s vid → ⊥
not_bad w area s d vid of_world there (inl (inl short)) = omega (arith, short, (is_list w area s d vid of_world there).whole)
not_bad w area s d vid of_world there (inl (inr none)) = none (rids_in d vid) (is_list w area s d vid of_world there).spells
not_bad w area s d vid of_world there (inr off) =
    off.off (subst (Agrees s vid) (sym (only w area s d vid off.rids of_world there off.list)) (agrees w area s d vid of_world there))
