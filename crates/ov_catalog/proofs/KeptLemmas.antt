-- What the current target of a plan keeps is of one partition, which goes with its flip.
use Rattle.std.proofs.Common.{◌≡◌, ℕ, suc, ◌+◌, ◌<◌, eqb, List, [], ◌∷◌, length, map, refl, sym, ap, subst, inl, inr, arith}
use Rattle.std.specs.Prelude.{All, Option, Some, None, find}
use Rattle.std.proofs.lemmas.Bool.{cases_Bool, eq-eqb, eqb-true}
use Rattle.ov_layout.specs.declared.part.Part.{Part}
use Rattle.ov_layout.specs.Flips as layout
use Rattle.ov_layout.specs.Parts.{Ascend, ArePartsFrom}
use Rattle.law_partitions.specs.Pieces.{AreBelow}
use Rattle.law_partitions.specs.Sources.{AscendFrom}
use Rattle.ov_catalog.specs.declared.cvd.Cvd.{Cvd}
use Rattle.ov_catalog.specs.declared.cvd.Plan.{Plan}
use Rattle.ov_catalog.specs.Events as events
use Rattle.ov_catalog.specs.Events.{numbered}
use Rattle.ov_catalog.specs.Numbers.{TargetNumbers}
use Rattle.ov_catalog.specs.Ready.{IsSet}
use Rattle.ov_catalog.specs.Running.{IsPlanned, IsRunning, current, no_target}
use Rattle.ov_catalog.specs.Sets.{numbers_of, part_in, plan_in, sets_in, target_in}
use Rattle.ov_catalog.specs.Sources.{FlipFits, GoesWith, KeepsOfOne, MayFlip, NoPart, NoSet}
use Rattle.ov_catalog.proofs.FlipLemmas.{segments-in}
use Rattle.ov_catalog.proofs.TargetLemmas.{current-in}
use Rattle.ov_catalog.proofs.TurnLemmas.{may-flip, turn-of}

-- ---- places

ascend-from : (least : ℕ) (places : List ℕ) → Ascend least places → AscendFrom least places
ascend-from least [] up = tt
ascend-from least (n ∷ ns) up =
    let next : suc n ≡ n + 1 = omega arith in
    (up.0, ascend-from (n + 1) ns (subst (λ (m : ℕ). Ascend m ns) next up.1))

are-below : (most : ℕ) (places : List ℕ) → layout.AreBelow most places → AreBelow most places
are-below most [] low = tt
are-below most (n ∷ ns) low = (low.0, are-below most ns low.1)

-- ---- partitions

-- those behind it have other numbers
none-behind : (id least next : ℕ) (parts : List Part) → ArePartsFrom least next parts → id < least → NoPart id (map part_in parts)
none-behind id least next [] sound low = tt
none-behind id least next (part ∷ parts) sound low =
    ((λ same. absurd (let le = sound.0 in omega (arith, le, low, same))), none-behind id (suc part.id) next parts sound.2 (let le = sound.0 in omega (arith, le, low)))

none-goes : (versions : List ℕ) (id : ℕ) (parts : List Part) → NoPart id (map part_in parts) → GoesWith versions id (map part_in parts)
none-goes versions id [] none = tt
none-goes versions id (part ∷ parts) none = ((λ same. absurd (none.0 same)), none-goes versions id parts none.1)

goes : (versions : List ℕ) (id least next : ℕ) (parts : List Part) → ArePartsFrom least next parts → layout.IsEmptied versions id parts → GoesWith versions id (map part_in parts)
goes versions id least next [] sound gone = tt
goes versions id least next (part ∷ parts) sound gone =
    elim (cases_Bool (eqb part.id id)) [
      | inl e ↦
          let same : part.id ≡ id = eqb-true part.id id e in
          let behind : NoPart id (map part_in parts) = none-behind id (suc part.id) next parts sound.2 (omega (arith, same)) in
          ((λ is. (gone part (rw e refl), behind)), none-goes versions id parts behind)
      | inr e ↦
          ((λ is. absurd (let yes = eq-eqb part.id id is in cc)), goes versions id (suc part.id) next parts sound.2 (λ other found. gone other (rw e found)))
    ]

-- ---- a dataset

module _ (d : Cvd) (is : IsSet d) (next : ℕ) (sound : ArePartsFrom 1 next d.layout.parts) where
  keeps : (plan : Plan) → IsRunning (length d.versions.items) d.layout.parts plan → KeepsOfOne (target_in (current plan)) (map part_in d.layout.parts)
  keeps plan runs =
      let may = may-flip d plan 0 [] is (turn-of (length d.versions.items) d.layout.parts plan runs) in
      record {
        ascend = ascend-from 0 (current plan).kept may.places;
        below = are-below (length (events.segments_at (current plan).source (map part_in d.layout.parts))) (current plan).kept
            (subst (λ (n : ℕ). layout.AreBelow n (current plan).kept) (ap length (segments-in (current plan).source d.layout.parts)) may.within);
        goes = inr (goes (current plan).versions (current plan).source 1 next d.layout.parts sound may.emptied);
      }

  pub may-keep : (plan : Option Plan) → IsPlanned (length d.versions.items) d.layout.parts plan → MayFlip (plan_in plan) (map part_in d.layout.parts)
  may-keep None runs = tt
  may-keep (Some plan) runs =
      subst (λ (t : TargetNumbers). KeepsOfOne t (map part_in d.layout.parts)) (sym (current-in plan.targets plan.at _ no_target runs.at)) (keeps plan runs)

-- ---- all datasets

none-with : (cvd least : ℕ) (sets : List Cvd) → Ascend least (numbers_of sets) → cvd < least → NoSet cvd (sets_in sets)
none-with cvd least [] up low = tt
none-with cvd least (d ∷ sets) up low =
    ((λ same. absurd (let le = up.0 in omega (arith, le, low, same))), none-with cvd (suc d.number) sets up.1 (let le = up.0 in omega (arith, le, low)))

pub fits-all : (cvd least : ℕ) (sets : List Cvd) → Ascend least (numbers_of sets) → All (λ d. d.number ≡ cvd → MayFlip (plan_in d.plan) (map part_in d.layout.parts)) sets → FlipFits cvd (sets_in sets)
fits-all cvd least [] up may = tt
fits-all cvd least (d ∷ sets) up may =
    ((λ same. (may 0 d (omega arith) same, none-with cvd (suc d.number) sets up.1 (omega (arith, same)))), fits-all cvd (suc d.number) sets up.1 (λ k x lt. may (suc k) x (omega arith)))

pub fits-none : (cvd : ℕ) (sets : List Cvd) → find (numbered cvd) (sets_in sets) ≡ None → FlipFits cvd (sets_in sets)
fits-none cvd [] none = tt
fits-none cvd (d ∷ sets) none =
    elim (cases_Bool (eqb d.number cvd)) [
      | inl e ↦ let found = rw e at none in absurd cc
      | inr e ↦ ((λ same. absurd (let yes = eq-eqb d.number cvd same in cc)), fits-none cvd sets (rw e at none))
    ]
