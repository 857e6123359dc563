-- The numbers of a dataset count what it has.
use Rattle.std.proofs.Common.{◌≡◌, ℕ, zero, suc, ◌+◌, ◌-◌, List, [], ◌∷◌, ◌++◌, length, map, take, refl, sym, ◌∙◌, ap, arith}
use Rattle.std.specs.Prelude.{slice_index_or, Some}
use Rattle.std.specs.List.{sum_by}
use Rattle.std.proofs.lemmas.List.{length-map, length-append}
use Rattle.std.proofs.lemmas.List.Sums.{sum_by-cons}
use Rattle.std.proofs.Math.ListN.{get_or-map}
use Rattle.ov_model.specs.Book.{Row, Version}
use Rattle.ov_model.specs.Records.{Rec, recs, records_of, order, order_of, fresh_in}
use Rattle.ov_model.specs.World.{Dataset, World}
use Rattle.ov_model.proofs.Growing.{order_more}
use Rattle.ov_catalog.specs.Numbers.{VersionNumbers, each_version}
use Rattle.ov_catalog.specs.Shown.{Rids, shown_version, shown_versions}
use Rattle.law_events.proofs.Seeing.{versions_long}
use Rattle.law_image.specs.Pages.{readings_of}
use Rattle.ov_read.specs.Agreement.{Numbers}
use Rattle.ov_read.specs.OfWorld.{IsSetOf}
use Rattle.law_reads.specs.Sights.{HasNumbers}
use Rattle.law_reads.proofs.Founds.{Shows}

module _ {L M : Type 0} (f : L → M) where
  each_rows : (vs : List (VersionNumbers L)) → map (λ v. v.rows) (map (each_version f) vs) ≡ map (λ v. v.rows) vs
  each_rows [] = refl
  each_rows (v ∷ vs) = ap (λ ns. v.rows ∷ ns) (each_rows vs)

  each_fresh : (n : ℕ) (vs : List (VersionNumbers L)) → sum_by (λ v. v.fresh) (take n (map (each_version f) vs)) ≡ sum_by (λ v. v.fresh) (take n vs)
  each_fresh zero vs = refl
  each_fresh (suc n) [] = refl
  each_fresh (suc n) (v ∷ vs) =
      sum_by-cons (λ (u : VersionNumbers M). u.fresh) (each_version f v) (take n (map (each_version f) vs))
      ∙ ap (λ (k : ℕ). v.fresh + k) (each_fresh n vs)
      ∙ sym (sum_by-cons (λ (u : VersionNumbers L). u.fresh) v (take n vs))

after : (all : List Rec) (done : List (List Rec)) (n : ℕ) (vs : List Version)
    → length (order (recs (take n vs) done) 1) ≡ length (order done 1) + sum_by (λ v. v.fresh) (take n (shown_versions all done vs))
after all done zero vs = omega arith
after all done (suc n) [] = omega arith
after all done (suc n) (v ∷ vs) =
    let rs : List Rec = records_of v done
    in let rest : List (VersionNumbers Rids) = take n (shown_versions all (done ++ rs ∷ []) vs)
    in let swap : 1 + length done ≡ length done + 1 = omega arith
    in let grown : length (order (done ++ rs ∷ []) 1) ≡ length (order done 1) + length (fresh_in rs (length done + 1)) =
    ap length (order_more done rs 1) ∙ length-append (order done 1) (fresh_in rs (1 + length done)) ∙ ap (λ k. length (order done 1) + length (fresh_in rs k)) swap
    in let more : sum_by (λ u. u.fresh) (take (suc n) (shown_versions all done (v ∷ vs))) ≡ length (fresh_in rs (length done + 1)) + sum_by (λ u. u.fresh) rest =
    sum_by-cons (λ (u : VersionNumbers Rids). u.fresh) (shown_version all done v) rest
    in omega (arith, after all (done ++ rs ∷ []) n vs, grown, more)

pub shown_rows : (all : List Rec) (done : List (List Rec)) (vs : List Version)
    → map (λ (v : VersionNumbers Rids). v.rows) (shown_versions all done vs) ≡ map (λ (rows : List Row). length rows) (map (λ (v : Version). v.rows) vs)
shown_rows all done [] = refl
shown_rows all done (v ∷ vs) = ap (λ ns. length v.rows ∷ ns) (shown_rows all (done ++ records_of v done ∷ []) vs)

pub numbers : (w : World) (area : List ℕ) (s : Numbers) (d : Dataset) → IsSetOf w d area s → HasNumbers s d
numbers w area s d of_world =
    let shows : Shows area s d = of_world.shows
    in let all : List Rec = order_of d.cvd.versions
    in record {
      number = ap (λ x. x.number) shows;
      name = ap (λ x. x.name) shows;
      schema = ap (λ x. x.schema) shows;
      versions = sym (length-map s.versions (each_version (readings_of area).list))
          ∙ ap (λ x. length x.versions) shows
          ∙ length-map (shown_versions all [] d.cvd.versions) (each_version Some)
          ∙ versions_long all [] d.cvd.versions;
      rows = λ vid. ap (λ ns. slice_index_or ns (vid - 1) 0) (sym (each_rows (readings_of area).list s.versions))
          ∙ ap (λ x. slice_index_or (map (λ v. v.rows) x.versions) (vid - 1) 0) shows
          ∙ ap (λ ns. slice_index_or ns (vid - 1) 0) (each_rows Some (shown_versions all [] d.cvd.versions) ∙ shown_rows all [] d.cvd.versions)
          ∙ get_or-map (λ rows. length rows) (map (λ v. v.rows) d.cvd.versions) (vid - 1) [];
      after = λ vid. sym (each_fresh (readings_of area).list vid s.versions)
          ∙ ap (λ x. sum_by (λ v. v.fresh) (take vid x.versions)) shows
          ∙ each_fresh Some vid (shown_versions all [] d.cvd.versions)
          ∙ sym (after all [] vid d.cvd.versions ∙ none_before (sum_by (λ v. v.fresh) (take vid (shown_versions all [] d.cvd.versions))));
      records = ap (λ x. x.records) shows;
    }
  where
    none_before : (n : ℕ) → length (order [] 1) + n ≡ n
    none_before n = omega arith
