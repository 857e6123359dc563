-- Targets of plans as they are kept and as they are seen, and lists of versions.
use Rattle.std.proofs.Common.{◌≡◌, ℕ, zero, suc, ◌+◌, ◌-◌, ◌<◌, ◌≤◌, Bool, true, false, ◌||◌, ◌&&◌, eqb, List, [], ◌∷◌, ◌++◌, length, get_or, drop, take, map, refl, sym, ap, subst, ◌∙◌, inl, inr, arith}
use Rattle.std.specs.Prelude.{Option, Some, None, nat_le, nat_lt}
use Rattle.std.specs.List.{list_any}
use Rattle.std.proofs.lemmas.Bool.{cases_Bool, ne_eqb, eqb-true, leb-true, ltb-true}
use Rattle.std.proofs.Math.Seq.{take-length}
use Rattle.std.proofs.lemmas.List.{length-drop}
use Rattle.ov_event.specs.declared.event.PlanTarget.{PlanTarget}
use Rattle.ov_host.specs.declared.area.Extent.{Extent}
use Rattle.ov_layout.specs.declared.part.Part.{Part}
use Rattle.ov_layout.specs.Changes.{IsNew, IsAbove}
use Rattle.ov_layout.specs.Flips.{AreBelow}
use Rattle.ov_layout.specs.Index.{numbers_of as ids_of}
use Rattle.ov_layout.specs.Parts.{has, serves, is_placed, part_numbered, Ascend, ArePartsFrom}
use Rattle.ov_layout.proofs.FlipLemmas.{numbered-none}
use Rattle.ov_layout.proofs.PlacedLemmas.{ids-ascend}
use Rattle.ov_layout.proofs.VidLemmas.{has-below}
use Rattle.ov_catalog.specs.declared.cvd.Plan.{Plan}
use Rattle.ov_catalog.specs.declared.cvd.Target.{Target}
use Rattle.ov_catalog.specs.Applying.{targets_from, is_unmoved, part_numbered as number_in}
use Rattle.ov_catalog.specs.Events.{target_of, targets_of}
use Rattle.ov_catalog.specs.Numbers.{PartNumbers, TargetNumbers}
use Rattle.ov_catalog.specs.Planning.{ascend_from, are_below}
use Rattle.ov_catalog.specs.Running.{is_in_target, left_of}
use Rattle.ov_catalog.specs.Sets.{part_in, plan_in, target_in}

-- ---- the targets that are left

pub rest-drop : {X : Type 0} (xs : List X) (at : ℕ) → take (length xs - at) (drop at xs) ≡ drop at xs
rest-drop xs at = ap (λ (n : ℕ). take n (drop at xs)) (sym (length-drop at xs)) ∙ take-length (drop at xs)

pub from-in : (at : ℕ) (ts : List Target) → targets_from at (map target_in ts) ≡ map target_in (drop at ts)
from-in zero [] = refl
from-in (suc at) [] = refl
from-in zero (t ∷ ts) = refl
from-in (suc at) (t ∷ ts) =
    let ne : eqb (suc at) 0 ≡ false = ne_eqb (suc at) 0 (λ same. absurd (omega (arith, same))) in
    let down : suc at - 1 ≡ at = omega arith in
    rw (ne, down) (from-in at ts)

in-targets : (vid : ℕ) (ts : List Target) → list_any (λ (t : TargetNumbers). list_any (λ v. eqb v vid) t.versions) (map target_in ts) ≡ is_in_target ts vid
in-targets vid [] = refl
in-targets vid (t ∷ ts) = ap (λ (b : Bool). has t.versions vid || b) (in-targets vid ts)

pub unmoved-in : (plan : Option Plan) (vid : ℕ) → is_unmoved (plan_in plan) vid ≡ is_in_target (left_of plan) vid
unmoved-in None vid = refl
unmoved-in (Some plan) vid =
    ap (λ (ts : List TargetNumbers). list_any (λ (t : TargetNumbers). list_any (λ v. eqb v vid) t.versions) ts) (from-in plan.at plan.targets)
    ∙ in-targets vid (drop plan.at plan.targets)

pub current-in : (ts : List Target) (at : ℕ) (d : TargetNumbers) (e : Target) → at < length ts → get_or (map target_in ts) at d ≡ target_in (get_or ts at e)
current-in [] at d e lt = absurd (omega arith)
current-in (t ∷ ts) zero d e lt = refl
current-in (t ∷ ts) (suc at) d e lt = current-in ts at d e (omega arith)

-- ---- partitions by their numbers

abbrev pub seen_part : Option Part → Option (PartNumbers Extent)
seen_part None = None
seen_part (Some part) = Some (part_in part)

pub numbered-in : (id : ℕ) (parts : List Part) → number_in (map part_in parts) id ≡ seen_part (part_numbered id parts)
numbered-in id [] = refl
numbered-in id (part ∷ parts) =
    elim (cases_Bool (eqb part.id id)) [
      | inl e ↦ rw e refl
      | inr e ↦ rw e (numbered-in id parts)
    ]

-- no partition has the number 0
pub zero-none : (next : ℕ) (parts : List Part) → ArePartsFrom 1 next parts → part_numbered 0 parts ≡ None
zero-none next parts sound = numbered-none parts 0 (has-below 1 (ids_of parts) 0 (ids-ascend 1 next parts sound) (omega arith))

pub above-one : (n : ℕ) (ns : List ℕ) (vid : ℕ) → IsAbove n ns → has ns vid ≡ true → vid < n
above-one n [] vid h there = absurd cc
above-one n (m ∷ ns) vid h there =
    elim (cases_Bool (eqb m vid)) [
      | inl e ↦ let same = eqb-true m vid e in let lt = h.0 in omega (arith, same, lt)
      | inr e ↦ above-one n ns vid h.1 (rw e at there)
    ]

one-up : (vid : ℕ) → (vid ≡ 0 → ⊥) → 1 ≤ vid
one-up zero some = absurd (some refl)
one-up (suc vid) some = omega arith

-- the versions of a partition are there
pub part-there : (count least next id : ℕ) (parts : List Part) (part : Part) → ArePartsFrom least next parts → IsNew (count + 1) parts → is_placed parts 0 ≡ false → part_numbered id parts ≡ Some part
    → (vid : ℕ) → has part.versions vid ≡ true → (1 ≤ vid) × (vid ≤ count)
part-there count least next id [] part sound new none found vid there = absurd cc
part-there count least next id (p ∷ parts) part sound new none found vid there =
    elim (cases_Bool (eqb p.id id)) [
      | inl e ↦
          let first : Some p ≡ Some part = rw e at found in
          let same : p ≡ part = cc in
          let own : has p.versions vid ≡ true = ap (λ (x : Part). has x.versions vid) same ∙ there in
          let below = above-one (count + 1) p.holds vid new.0 (sound.1.held vid own) in
          (one-up vid (λ zero_is. zero-out p.versions vid (is_placed parts 0) zero_is own none), omega (arith, below))
      | inr e ↦ part-there count (suc p.id) next id parts part sound.2 new.1 (or-none-right (serves 0 p) (is_placed parts 0) none) (rw e at found) vid there
    ]
  where
    or-none-right : (a b : Bool) → (a || b) ≡ false → b ≡ false
    or-none-right true b h = absurd cc
    or-none-right false b h = h

    zero-out : (versions : List ℕ) (v : ℕ) (rest : Bool) → v ≡ 0 → has versions v ≡ true → (has versions 0 || rest) ≡ false → ⊥
    zero-out versions v rest is there none =
        let here : has versions 0 ≡ true = ap (has versions) (sym is) ∙ there in
        let no : (has versions 0 || rest) ≡ true = rw here refl in
        absurd cc

-- the versions of a partition are below the next one
pub part-below : (count least next at : ℕ) (parts : List Part) (d : Part) → ArePartsFrom least next parts → IsNew (count + 1) parts → at < length parts
    → (vid : ℕ) → has (get_or parts at d).versions vid ≡ true → vid < count + 1
part-below count least next at [] d sound new lt vid there = absurd (omega arith)
part-below count least next zero (p ∷ parts) d sound new lt vid there = above-one (count + 1) p.holds vid new.0 (sound.1.held vid there)
part-below count least next (suc at) (p ∷ parts) d sound new lt vid there = part-below count (suc p.id) next at parts d sound.2 new.1 (omega arith) vid there

-- ---- tests as facts

pub ascend-in : (least : ℕ) (ns : List ℕ) → ascend_from least ns ≡ true → Ascend least ns
ascend-in least [] h = tt
ascend-in least (n ∷ ns) h =
    let both = and-both (nat_le least n) (ascend_from (n + 1) ns) h in
    let up : n + 1 ≡ suc n = omega arith in
    (leb-true least n both.0, ascend-in (suc n) ns (subst (λ (m : ℕ). ascend_from m ns ≡ true) up both.1))
  where
    and-both : (a b : Bool) → (a && b) ≡ true → (a ≡ true) × (b ≡ true)
    and-both true b h = (refl, h)
    and-both false b h = absurd cc

pub below-in : (limit : ℕ) (ns : List ℕ) → are_below limit ns ≡ true → AreBelow limit ns
below-in limit [] h = tt
below-in limit (n ∷ ns) h =
    let both = and-both (nat_lt n limit) (are_below limit ns) h in
    (ltb-true n limit both.0, below-in limit ns both.1)
  where
    and-both : (a b : Bool) → (a && b) ≡ true → (a ≡ true) × (b ≡ true)
    and-both true b h = (refl, h)
    and-both false b h = absurd cc

-- ---- what is said of parts

pub versions-of : (parts : List (List ℕ)) (said : List PlanTarget) → length said ≡ length parts → map (λ (t : TargetNumbers). t.versions) (targets_of parts said) ≡ parts
versions-of [] said long = refl
versions-of (part ∷ parts) [] long = absurd (omega (arith, long))
versions-of (part ∷ parts) (s ∷ said) long = ap (λ (ps : List (List ℕ)). part ∷ ps) (versions-of parts said (omega (arith, long)))

pub versions-seen : (ts : List Target) → map (λ (t : TargetNumbers). t.versions) (map target_in ts) ≡ map (λ (t : Target). t.versions) ts
versions-seen [] = refl
versions-seen (t ∷ ts) = ap (λ (ps : List (List ℕ)). t.versions ∷ ps) (versions-seen ts)

pub said-more : (parts : List (List ℕ)) (part : List ℕ) (said : List PlanTarget) (s : PlanTarget) → length parts < length said → targets_of (parts ++ part ∷ []) said ≡ targets_of parts said ++ target_of part (get_or said (length parts) s) ∷ []
said-more [] part [] s lt = absurd (omega arith)
said-more [] part (x ∷ said) s lt = refl
said-more (p ∷ parts) part [] s lt = absurd (omega arith)
said-more (p ∷ parts) part (x ∷ said) s lt = ap (λ (ts : List TargetNumbers). target_of p x ∷ ts) (said-more parts part said s (omega arith))
