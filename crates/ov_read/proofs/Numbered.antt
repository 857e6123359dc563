-- The numbers of a dataset that the code keeps.
use Rattle.std.proofs.Common.{◌≡◌, ◌<◌, ◌≤◌, ◌-◌, ◌+◌, ℕ, zero, suc, List, [], ◌∷◌, length, map, take, get_or, refl, sym, ◌∙◌, ap, subst, inl, inr, arith}
use Rattle.std.specs.List.{All, sum_by}
use Rattle.std.proofs.lemmas.List.{get_or-map, length-map}
use Rattle.std.proofs.lemmas.List.Sums.{sum_by-cons}
use Rattle.ov_catalog.specs.declared.cvd.Cvd.{Cvd}
use Rattle.ov_catalog.specs.declared.cvd.Version.{Version}
use Rattle.ov_catalog.specs.Numbers.{VersionNumbers}
use Rattle.ov_catalog.specs.Sets.{set_in, version_in}
use Rattle.ov_host.specs.declared.area.Extent.{Extent}
use Rattle.ov_member.specs.Lists.{Spells}
use Rattle.ov_member.specs.Rids.{AreRids}
use Rattle.ov_member.proofs.RangeLemmas.{RiseFrom-apart}
use Rattle.ov_fetch.specs.declared.errors.FetchErr.{FetchErr}
use Rattle.ov_fetch.specs.declared.errors.FetchErr.TheVariants.{Host, Memory, Damaged}
use Rattle.ov_fetch.specs.Extents.{IsList, IsNoList, extent_bytes}
use Rattle.ov_read.specs.Agreement.{IsBorneOut, IsThere, Agrees, nowhere, list_of, rows_of, records_after}
use Rattle.ov_read.specs.Counting.{AreCounts, RefusesTested, capped}
use Rattle.ov_read.specs.Damages.{RefusesList}
use Rattle.ov_read.proofs.Bearing.{from_capped, to_capped}

pub there : (d : Cvd) (vid : ℕ) → IsThere (set_in d) vid → vid - 1 < length d.versions.items
there d vid is = omega (arith, is.0, is.1, length-map d.versions.items version_in)

pub list_is : (d : Cvd) (vid : ℕ) (v : Version) → vid - 1 < length d.versions.items → v ≡ get_or d.versions.items (vid - 1) v → list_of (set_in d) vid ≡ v.list
list_is d vid v low is =
    get_or-map (λ (n : VersionNumbers Extent). n.list) (map version_in d.versions.items) (vid - 1) (version_in v) nowhere (rw (length-map d.versions.items version_in) low)
    ∙ ap (λ (n : VersionNumbers Extent). n.list) (get_or-map version_in d.versions.items (vid - 1) v (version_in v) low)
    ∙ ap (λ (x : Version). x.list) (sym is)

pub rows_is : (d : Cvd) (vid : ℕ) (v : Version) → vid - 1 < length d.versions.items → v ≡ get_or d.versions.items (vid - 1) v → rows_of (set_in d) vid ≡ v.rows
rows_is d vid v low is =
    get_or-map (λ (n : VersionNumbers Extent). n.rows) (map version_in d.versions.items) (vid - 1) (version_in v) 0 (rw (length-map d.versions.items version_in) low)
    ∙ ap (λ (n : VersionNumbers Extent). n.rows) (get_or-map version_in d.versions.items (vid - 1) v (version_in v) low)
    ∙ ap (λ (x : Version). x.rows) (sym is)

fresh_sum : (vs : List Version) (n : ℕ) → sum_by (λ (v : VersionNumbers Extent). v.fresh) (take n (map version_in vs)) ≡ sum_by (λ (v : Version). v.fresh) (take n vs)
fresh_sum vs zero = refl
fresh_sum [] (suc n) = refl
fresh_sum (v ∷ vs) (suc n) =
    sum_by-cons (λ (x : VersionNumbers Extent). x.fresh) (version_in v) (take n (map version_in vs))
    ∙ (ap (λ s. v.fresh + s) (fresh_sum vs n) ∙ sym (sum_by-cons (λ (x : Version). x.fresh) v (take n vs)))

pub after_is : (d : Cvd) (vid : ℕ) → records_after (set_in d) vid ≡ sum_by (λ (v : Version). v.fresh) (take vid d.versions.items)
after_is d vid = fresh_sum d.versions.items vid

pub counted : (d : Cvd) (versions : List Version) (counts : List ℕ) (vid : ℕ) → versions ≡ d.versions.items → AreCounts versions counts → IsThere (set_in d) vid → vid - 1 < length counts
counted d versions counts vid same are is = omega (arith, there d vid is, are.count, ap length same)

pub count_is : (d : Cvd) (versions : List Version) (counts : List ℕ) (vid : ℕ) → versions ≡ d.versions.items → AreCounts versions counts → IsThere (set_in d) vid
    → get_or counts (vid - 1) 0 ≡ capped (records_after (set_in d) vid)
count_is d versions counts vid same are is =
    let low : vid - 1 < length counts = omega (arith, there d vid is, are.count, ap length same) in
    let one : vid - 1 + 1 ≡ vid = omega (arith, is.0) in
    are.each (vid - 1) low
    ∙ ap capped (ap (λ n. sum_by (λ (v : Version). v.fresh) (take n versions)) one ∙ (ap (λ vs. sum_by (λ (v : Version). v.fresh) (take vid vs)) same ∙ sym (after_is d vid)))

-- the list of a version is what its version says, tested against what was counted
pub agrees_is : (d : Cvd) (vid : ℕ) (v : Version) (last : ℕ) (rids : List ℕ) → vid - 1 < length d.versions.items → v ≡ get_or d.versions.items (vid - 1) v → last ≡ capped (records_after (set_in d) vid)
    → IsBorneOut v.rows last rids → Agrees (set_in d) vid rids
agrees_is d vid v last rids low is same out = record {
  count_is = out.count_is ∙ sym (rows_is d vid v low is);
  below = from_capped (records_after (set_in d) vid) rids (subst (λ n. All (λ rid. rid ≤ n) rids) same out.below);
}

not_agrees : (d : Cvd) (vid : ℕ) (v : Version) (last : ℕ) (rids : List ℕ) → vid - 1 < length d.versions.items → v ≡ get_or d.versions.items (vid - 1) v → last ≡ capped (records_after (set_in d) vid)
    → AreRids rids → (IsBorneOut v.rows last rids → ⊥) → Agrees (set_in d) vid rids → ⊥
not_agrees d vid v last rids low is same are off agrees = off (record {
  count_is = agrees.count_is ∙ rows_is d vid v low is;
  below = subst (λ n. All (λ rid. rid ≤ n) rids) (sym same) (to_capped (records_after (set_in d) vid) rids are agrees.below);
})

pub refuses_is : (area : List ℕ) (d : Cvd) (vid : ℕ) (v : Version) (last : ℕ) (e : FetchErr) → vid - 1 < length d.versions.items → v ≡ get_or d.versions.items (vid - 1) v
    → last ≡ capped (records_after (set_in d) vid) → RefusesTested e area v.list v.rows last → RefusesList e area (set_in d) vid
refuses_is area d vid v last Host low is same why = tt
refuses_is area d vid v last Memory low is same why = tt
refuses_is area d vid v last (Damaged page) low is same why = (
  why.0 ∙ ap (λ (e : Extent). e.page) (sym list),
  elim why.1 [
    | inl none ↦ inl (subst (IsNoList area) (sym list) none)
    | inr off ↦ inr (record {
      rids = off.rids;
      list = subst (λ (e : Extent). IsList area e off.rids) (sym list) off.stands;
      off = not_agrees d vid v last off.rids low is same (spelled_rids (extent_bytes area v.list) off.rids off.stands.spells) off.off;
    })
  ],
)
  where
    list : list_of (set_in d) vid ≡ v.list
    list = list_is d vid v low is

    spelled_rids : (bytes rids : List ℕ) → Spells bytes rids → AreRids rids
    spelled_rids bytes rids s = subst AreRids (sym s.listed) (RiseFrom-apart 0 s.ranges s.apart)
