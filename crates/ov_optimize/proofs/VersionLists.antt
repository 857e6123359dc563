-- The lists of all versions, as they were read and tested.
use Rattle.std.proofs.Common.{◌≡◌, ◌<◌, ◌≤◌, ℕ, ◌+◌, ◌-◌, List, [], ◌∷◌, length, get_or, map, sym, ◌∙◌, ap, subst, inl, inr, arith}
use Rattle.std.specs.List.{All, AllZip, range_with_len}
use Rattle.std.proofs.lemmas.List.{length-map}
use Rattle.std.proofs.lemmas.List.Elements.{All-head, All-tail}
use Rattle.std.proofs.lemmas.List.FromFn.{length-range_with_len}
use Rattle.ov_fetch.specs.declared.errors.FetchErr.{FetchErr}
use Rattle.ov_fetch.specs.declared.errors.FetchErr.TheVariants.{Host, Memory, Damaged}
use Rattle.ov_fetch.specs.Extents.{IsList}
use Rattle.ov_graph.specs.Trees.{vids}
use Rattle.ov_host.specs.declared.area.Extent.{Extent}
use Rattle.ov_member.specs.Rids.{AreRids}
use Rattle.ov_catalog.specs.declared.cvd.Cvd.{Cvd}
use Rattle.ov_catalog.specs.declared.cvd.Version.{Version}
use Rattle.ov_catalog.specs.Sets.{set_in, version_in}
use Rattle.ov_read.specs.Agreement.{Agrees, IsThere, Numbers, list_of}
use Rattle.ov_read.specs.Damages.{RefusesLists}
use Rattle.ov_read.proofs.Gatherings.{zip_at, zip_length}
use Rattle.ov_read.proofs.Numbered.{list_is}
use Rattle.ov_optimize.specs.Damages.{RefusesAllLists, RefusesParts, RefusesPlan}
use Rattle.ov_optimize.specs.Reading.{IsListAt, IsListOf, all_vids}
use Rattle.ov_optimize.proofs.Applying.{vid_at}

all_from : (P : ℕ → Type 0) (from count : ℕ) → ((n : ℕ) → from ≤ n → n < from + count → P n) → All P (range_with_len from count)
all_from P from count each k d low =
    let short : k < count = omega (arith, low, length-range_with_len from count) in
    subst P (sym (vid_at from count k d short)) (each (from + k) (omega arith) (omega (arith, short)))

pub all_there : (s : Numbers) → All (IsThere s) (all_vids s)
all_there s = all_from (IsThere s) 1 (length s.versions) (λ n some most. (some, omega (arith, most)))

pub vids_of_set : (d : Cvd) (count : ℕ) → count ≡ length d.versions.items → vids count ≡ all_vids (set_in d)
vids_of_set d count is = ap vids (is ∙ sym (length-map d.versions.items version_in))

pub are_listed : (s : Numbers) (vs : List ℕ) (lists : List (List ℕ)) → AllZip (Agrees s) vs lists → All AreRids lists → All (λ rids. All (λ rid. rid ≤ s.records) rids) lists
    → AllZip (IsListOf s) vs lists
are_listed s [] [] agree are low = tt
are_listed s [] (l ∷ lists) agree are low = absurd agree
are_listed s (v ∷ vs) [] agree are low = absurd agree
are_listed s (v ∷ vs) (l ∷ lists) agree are low = (
  record { set = All-head AreRids l lists are; agrees = agree.0; within = All-head (λ rids. All (λ rid. rid ≤ s.records) rids) l lists low },
  are_listed s vs lists agree.1 (All-tail AreRids l lists are) (All-tail (λ rids. All (λ rid. rid ≤ s.records) rids) l lists low),
)

pub are_at : (area : List ℕ) (s : Numbers) (vs : List ℕ) (lists : List (List ℕ)) → AllZip (λ vid. IsList area (list_of s vid)) vs lists → AllZip (IsListOf s) vs lists
    → AllZip (IsListAt area s) vs lists
are_at area s [] [] are is = tt
are_at area s [] (l ∷ lists) are is = absurd are
are_at area s (v ∷ vs) [] are is = absurd are
are_at area s (v ∷ vs) (l ∷ lists) are is = (record { list = are.0; is = is.0 }, are_at area s vs lists are.1 is.1)

-- there is a list for each version
pub lists_count : (s : Numbers) (lists : List (List ℕ)) → AllZip (Agrees s) (all_vids s) lists → length lists ≡ length s.versions
lists_count s lists are = zip_length (Agrees s) (all_vids s) lists are ∙ length-range_with_len 1 (length s.versions)

pub lists_refuse : (e : FetchErr) (area : List ℕ) (s : Numbers) → RefusesLists e area s (all_vids s) → RefusesAllLists e area s
lists_refuse Host area s why = tt
lists_refuse Memory area s why = tt
lists_refuse (Damaged page) area s why = inl why

-- what refuses the lists, or the partitions, refuses a plan
pub lists_refuse_plan : (e : FetchErr) (area : List ℕ) (s : Numbers) → RefusesAllLists e area s → RefusesPlan e area s
lists_refuse_plan Host area s why = tt
lists_refuse_plan Memory area s why = tt
lists_refuse_plan (Damaged page) area s (inl bad) = inl bad
lists_refuse_plan (Damaged page) area s (inr high) = inr (inl high)

pub parts_refuse_plan : (e : FetchErr) (area : List ℕ) (s : Numbers) → RefusesParts e area s → RefusesPlan e area s
parts_refuse_plan Host area s why = tt
parts_refuse_plan Memory area s why = tt
parts_refuse_plan (Damaged page) area s bad = inr (inr bad)

pub high_one : (area : List ℕ) (d : Cvd) (lists : List (List ℕ)) (at : ℕ) (v : Version) → AllZip (λ vid. IsList area (list_of (set_in d) vid)) (all_vids (set_in d)) lists
    → (All (λ rid. rid ≤ d.records) (get_or lists at []) → ⊥) → at < length d.versions.items → v ≡ get_or d.versions.items at v
    → RefusesAllLists (Damaged v.list.page) area (set_in d)
high_one area d lists at v are high low is =
    let long : length (map version_in d.versions.items) ≡ length d.versions.items = length-map d.versions.items version_in in
    let short : at < length (map version_in d.versions.items) = omega (arith, long, low) in
    let here : get_or (all_vids (set_in d)) at 0 ≡ 1 + at = vid_at 1 (length (map version_in d.versions.items)) at 0 short in
    let next : 1 + at - 1 ≡ at = omega arith in
    inr (record {
      vid = 1 + at;
      there = (omega arith, omega (arith, short));
      rids = get_or lists at [];
      list = subst (λ n. IsList area (list_of (set_in d) n) (get_or lists at [])) here
          (zip_at (λ vid. IsList area (list_of (set_in d) vid)) (all_vids (set_in d)) lists at 0 [] are (omega (arith, short, length-range_with_len 1 (length (map version_in d.versions.items)))));
      high = high;
      page_is = ap (λ (e : Extent). e.page) (sym (list_is d (1 + at) v (omega (arith, low)) (subst (λ n. v ≡ get_or d.versions.items n v) (sym next) is)));
    })
