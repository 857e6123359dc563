-- All versions that a dataset has may be scanned.
use Rattle.std.proofs.Common.{◌≡◌, ◌==◌, ◌+◌, ◌≤◌, ℕ, zero, suc, false, nat_lt, List, [], ◌∷◌, length, refl, sym, ◌∙◌, ap, arith}
use Rattle.std.specs.Prelude.{Option, Some, None}
use Rattle.std.specs.List.{All}
use Rattle.std.proofs.lemmas.Bool.{le-ltb, ne_eqb}
use Rattle.std.proofs.lemmas.List.{length-map}
use Rattle.ov_catalog.specs.declared.cvd.Cvd.{Cvd}
use Rattle.ov_catalog.specs.Sets.{set_in, version_in}
use Rattle.ov_model.specs.Placed.{times}
use Rattle.ov_model.specs.Records.{counted}
use Rattle.ov_model.specs.World.{is_one}
use Rattle.ov_read.specs.Agreement.{Numbers, IsThere}
use Rattle.ov_store.specs.Refusals.{vids_off}
use Rattle.ov_store.specs.Scanning.{all_off, all_vids, versions_off, vids_in}
use Rattle.ov_store.proofs.Versions.{all_there, listed_once}

-- so many from `n` on, of which none came before
allowed_from : (count n more : ℕ) (before : List ℕ) → 1 ≤ n → n + more ≤ count + 1 → ((vid : ℕ) → n ≤ vid → is_one before vid ≡ false)
    → vids_off count before (counted n more) ≡ None
allowed_from count n zero before some most new = refl
allowed_from count n (suc more) before some most new =
    let some_is : (n == 0) ≡ false = ne_eqb n 0 (λ e. omega (arith, e, some))
    in let there : nat_lt count n ≡ false = le-ltb count n (omega (arith, most))
    in rw (some_is, there, new n (omega arith)) (allowed_from count (n + 1) more (n ∷ before) (omega arith) (omega (arith, most)) later)
  where
    later : (vid : ℕ) → n + 1 ≤ vid → is_one (n ∷ before) vid ≡ false
    later vid above =
        let other : (n == vid) ≡ false = ne_eqb n vid (λ e. omega (arith, e, above))
        in rw (other, new vid (omega (arith, above))) refl

pub all_allowed : (count : ℕ) → vids_off count [] (counted 1 count) ≡ None
all_allowed count = allowed_from count 1 count [] (omega arith) (omega arith) (λ vid above. refl)

pub off_is : (o : Option Numbers) → versions_off o (all_vids o) ≡ all_off o
off_is None = refl
off_is (Some s) = all_allowed (length s.versions)

pub all_there_in : (s : Numbers) → All (IsThere s) (vids_in s)
all_there_in s = all_there (length s.versions) [] (vids_in s) (all_allowed (length s.versions))

pub all_once_in : (s : Numbers) (vid : ℕ) → times (vids_in s) vid ≤ 1
all_once_in s vid = listed_once (length s.versions) (vids_in s) (all_allowed (length s.versions)) vid

-- so many as are kept
pub vids_are : (d : Cvd) (count : ℕ) (vids : List ℕ) → count ≡ length d.versions.items → vids ≡ counted 1 count → vids ≡ vids_in (set_in d)
vids_are d count vids long are = are ∙ ap (counted 1) (long ∙ sym (length-map d.versions.items version_in))

-- one dataset is found
pub the_set : (s t : Numbers) → Some s ≡ Some t → s ≡ t
the_set s t e = ap (λ o. elim o as (λ _. Numbers) [ None ↦ s | Some x ↦ x ]) e
