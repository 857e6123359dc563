-- A step whose target was read.
use Rattle.std.proofs.Common.{◌≡◌, ◌≤◌, ◌<◌, ◌+◌, ◌-◌, ℕ, List, length, take, drop, min, inl, inr, sym, ◌∙◌, ap, subst, arith}
use Rattle.ov_host.specs.declared.area.Extent.{Extent}
use Rattle.ov_core.specs.declared.brought.Brought.{Brought}
use Rattle.ov_catalog.specs.Events.{current}
use Rattle.ov_catalog.specs.Numbers.{PlanNumbers, TargetNumbers}
use Rattle.ov_catalog.specs.Planning.{missing}
use Rattle.ov_copies.specs.Copies.{IsCopied, RefusesCopy}
use Rattle.ov_fetch.specs.declared.errors.FetchErr.{FetchErr}
use Rattle.ov_fetch.specs.declared.errors.FetchErr.TheVariants.{Host, Memory, Damaged}
use Rattle.ov_read.specs.Agreement.{Numbers}
use Rattle.ov_migrate.specs.Steps.{IsTestedCopy, IsTestedFlip, RefusesBy}
use Rattle.ov_migrate.specs.Targets.{IsLacking, IsRead, RefusesTarget, TargetAgrees, lacking}
use Rattle.ov_migrate.proofs.Lacked.{lacking_counted, picked_long}

abbrev pub agrees_of : (area : List ℕ) (s : Numbers) (t : TargetNumbers) (lists : List (List ℕ)) (rids : List ℕ) → IsRead area s t lists rids → TargetAgrees area s t
agrees_of area s t lists rids is = record {
  lists = lists;
  sets = is.sets;
  whole = is.whole;
  wanted = is.lacks.wanted;
  union = is.lacks.union;
  borne_out = is.lacks.borne_out;
}

-- ---- on every host

pub flip_counts : (p : PlanNumbers Extent) (lists sets : List (List ℕ)) (rids : List ℕ) → IsLacking (current p) lists sets rids → (current p).kept_records + p.copied ≤ (current p).size
    → length rids ≤ p.copied → (current p).kept_records + p.copied ≡ (current p).size
flip_counts p lists sets rids lacks most few = omega (arith, lacking_counted (current p) lists sets rids lacks, most, few)

pub copy_counts : (p : PlanNumbers Extent) (lists sets : List (List ℕ)) (rids next : List ℕ) → IsLacking (current p) lists sets rids → next ≡ take 256 (drop p.copied rids)
    → length next ≡ min 256 (missing p)
copy_counts p lists sets rids next lacks is =
    let left : length rids - p.copied ≡ missing p = omega (arith, lacking_counted (current p) lists sets rids lacks)
    in ap (λ (l : List ℕ). length l) is ∙ picked_long 256 p.copied rids ∙ ap (min 256) left

pub copy_some : (copied : ℕ) (rids next : List ℕ) → next ≡ take 256 (drop copied rids) → copied < length rids → 1 ≤ length next
copy_some copied rids next is more = omega (arith, more, ap (λ (l : List ℕ). length l) is, picked_long 256 copied rids)

pub copy_few : (copied : ℕ) (rids next : List ℕ) → next ≡ take 256 (drop copied rids) → length next ≤ 256
copy_few copied rids next is = omega (arith, ap (λ (l : List ℕ). length l) is, picked_long 256 copied rids)

-- ---- by the bytes

pub refuses : (area : List ℕ) (s : Numbers) (p : PlanNumbers Extent) (t : TargetNumbers) (e : FetchErr) → t ≡ current p → RefusesTarget e area s t → RefusesBy e area s p
refuses area s p t Host same why = tt
refuses area s p t Memory same why = tt
refuses area s p t (Damaged page) same why = inl (subst (RefusesTarget (Damaged page) area s) same why)

pub flip_tested : (area : List ℕ) (s : Numbers) (p : PlanNumbers Extent) (t : TargetNumbers) (lists : List (List ℕ)) (rids : List ℕ) → t ≡ current p → IsRead area s t lists rids
    → (current p).kept_records + p.copied ≤ (current p).size → length rids ≤ p.copied → IsTestedFlip area s p
flip_tested area s p t lists rids same is most few =
    let read : IsRead area s (current p) lists rids = subst (λ x. IsRead area s x lists rids) same is
    in record {
      agrees = agrees_of area s (current p) lists rids read;
      none_missing = omega (arith, lacking_counted (current p) lists read.sets rids read.lacks, most, few, ap (λ (l : List ℕ). length l) read.lacks.rids_are);
    }

module _ (area other : List ℕ) (s : Numbers) (p : PlanNumbers Extent) (t : TargetNumbers) (lists as_lists : List (List ℕ)) (rids next vids : List ℕ) (same : t ≡ current p)
    (is : IsRead area s t lists rids) (pages : other ≡ area) (versions : vids ≡ t.versions) (beside : as_lists ≡ lists) (picked : next ≡ take 256 (drop p.copied rids)) where
  abbrev read : IsRead area s (current p) lists rids
  read = subst (λ x. IsRead area s x lists rids) same is

  next_is : next ≡ take 256 (drop p.copied (lacking (agrees_of area s (current p) lists rids read)))
  next_is = picked ∙ ap (λ (l : List ℕ). take 256 (drop p.copied l)) (sym read.lacks.rids_are)

  pub copy_tested : (b : Brought) → IsCopied other s vids as_lists next b.segment.items → IsTestedCopy area s p b
  copy_tested b copied = record {
    agrees = agrees_of area s (current p) lists rids read;
    copied =
        subst (λ a. IsCopied a s (current p).versions lists (take 256 (drop p.copied (lacking (agrees_of area s (current p) lists rids read)))) b.segment.items) pages
        (subst (λ (l : List ℕ). IsCopied other s (current p).versions lists l b.segment.items) next_is
        (subst (λ (l : List (List ℕ)). IsCopied other s (current p).versions l next b.segment.items) beside
        (subst (λ (l : List ℕ). IsCopied other s l as_lists next b.segment.items) (versions ∙ ap (λ x. x.versions) same) copied)));
  }

  pub no_copy : (e : FetchErr) → RefusesCopy e other s vids as_lists next → RefusesBy e area s p
  no_copy Host why = tt
  no_copy Memory why = tt
  no_copy (Damaged page) why = inr (record {
    agrees = agrees_of area s (current p) lists rids read;
    off =
        subst (λ a. RefusesCopy (Damaged page) a s (current p).versions lists (take 256 (drop p.copied (lacking (agrees_of area s (current p) lists rids read))))) pages
        (subst (λ (l : List ℕ). RefusesCopy (Damaged page) other s (current p).versions lists l) next_is
        (subst (λ (l : List (List ℕ)). RefusesCopy (Damaged page) other s (current p).versions l next) beside
        (subst (λ (l : List ℕ). RefusesCopy (Damaged page) other s l as_lists next) (versions ∙ ap (λ x. x.versions) same) why)));
  })
