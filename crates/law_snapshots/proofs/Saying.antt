-- A snapshot says numbers, and nothing else says them so.
use Rattle.std.proofs.Common.{◌≡◌, ℕ, Bool, true, false, ◌==◌, List, [], ◌∷◌, map, refl, sym, ◌∙◌, ap}
use Rattle.std.specs.Prelude.{◌&&◌, if◌then◌else◌, Option, Some, None}
use Rattle.std.specs.List.{AllByRecursion}
use Rattle.std.proofs.lemmas.Bool.{eqb-true}
use Rattle.ov_event.specs.declared.event.Event as raw
use Rattle.ov_event.specs.declared.event.Event.TheVariants as says
use Rattle.ov_event.specs.declared.whole.RawPart.{RawPart}
use Rattle.ov_event.specs.declared.whole.RawPlan.{RawPlan}
use Rattle.ov_event.specs.declared.whole.RawTarget.{RawTarget}
use Rattle.ov_event.specs.declared.whole.RawVersion.{RawVersion}
use Rattle.ov_event.specs.declared.whole.Whole as raw_whole
use Rattle.ov_host.specs.declared.area.Extent.{Extent}
use Rattle.ov_catalog.specs.Events.{Event, Base, Whole}
use Rattle.ov_catalog.specs.Numbers.{VersionNumbers, PartNumbers, TargetNumbers, PlanNumbers, SetNumbers, Numbers}
use Rattle.ov_catalog.specs.Raw.{event_in, raw_version, raw_part, raw_target, raw_plan, threshold_in, whole_in}
use Rattle.ov_catalog.specs.Snapshots.{IsSnapshot}
use Rattle.law_snapshots.specs.Said.{said_version, said_part, said_target, said_plan, said_whole, snapshot_in}
use Rattle.law_snapshots.specs.Whole.{p_of, q_of, RunsAt, IsWhole, AreWhole}

-- ---- what is said is what there is

versions_back : (vs : List (VersionNumbers Extent)) → map raw_version (map said_version vs) ≡ vs
versions_back [] = refl
versions_back (v ∷ vs) = ap (λ us. v ∷ us) (versions_back vs)

parts_back : (parts : List (PartNumbers Extent)) → map raw_part (map said_part parts) ≡ parts
parts_back [] = refl
parts_back (part ∷ parts) = ap (λ ps. part ∷ ps) (parts_back parts)

targets_back : (ts : List TargetNumbers) → map raw_target (map said_target ts) ≡ ts
targets_back [] = refl
targets_back (t ∷ ts) = ap (λ us. t ∷ us) (targets_back ts)

plan_back : (threshold : Option (ℕ × ℕ)) (plan : Option (PlanNumbers Extent)) → RunsAt threshold plan → raw_plan (p_of threshold) (q_of threshold) (said_plan plan) ≡ plan
plan_back threshold None runs = refl
plan_back threshold (Some plan) runs = λ i.
    Some (record { p = p_of (runs i); q = q_of (runs i); targets = targets_back plan.targets i; at = plan.at; copied = plan.copied; segments = plan.segments })

pub whole_back : (d : SetNumbers Extent Extent) → IsWhole d → whole_in (said_whole d) ≡ d
whole_back d is = λ i. record {
  number = d.number;
  name = d.name;
  schema = d.schema;
  versions = versions_back d.versions i;
  parts = parts_back d.parts i;
  next_part = d.next_part;
  threshold = is.said i;
  plan = plan_back d.threshold d.plan is.runs i;
  records = d.records;
}

wholes_back : (sets : List (SetNumbers Extent Extent)) → AllByRecursion IsWhole sets → map event_in (map (λ d. says.Whole (said_whole d)) sets) ≡ map (λ d. Whole d) sets
wholes_back [] all = refl
wholes_back (d ∷ sets) all = λ i. Whole (whole_back d all.0 i) ∷ wholes_back sets all.1 i

pub is_snapshot : (n : Numbers Extent Extent) → AreWhole n → IsSnapshot (snapshot_in n) n
is_snapshot n is = ap (λ es. Base n.next ∷ es) (wholes_back n.sets is.each)

-- ---- a threshold that was said

pub p_back : (p q : ℕ) → p_of (threshold_in p q) ≡ p
p_back p q = by (p == 0) (q == 0) (λ t. eqb-true p 0 t)
  where
    by : (a b : Bool) → (a ≡ true → p ≡ 0) → p_of (if a && b then None else Some (p, q)) ≡ p
    by true true is = sym (is refl)
    by true false is = refl
    by false b is = refl

pub q_back : (p q : ℕ) → q_of (threshold_in p q) ≡ q
q_back p q = by (p == 0) (q == 0) (λ t. eqb-true q 0 t)
  where
    by : (a b : Bool) → (b ≡ true → q ≡ 0) → q_of (if a && b then None else Some (p, q)) ≡ q
    by true true is = sym (is refl)
    by true false is = refl
    by false b is = refl

-- ---- what is there is said in one way

versions_forth : (vs : List RawVersion) → map said_version (map raw_version vs) ≡ vs
versions_forth [] = refl
versions_forth (v ∷ vs) = ap (λ us. v ∷ us) (versions_forth vs)

parts_forth : (parts : List RawPart) → map said_part (map raw_part parts) ≡ parts
parts_forth [] = refl
parts_forth (part ∷ parts) = ap (λ ps. part ∷ ps) (parts_forth parts)

targets_forth : (ts : List RawTarget) → map said_target (map raw_target ts) ≡ ts
targets_forth [] = refl
targets_forth (t ∷ ts) = ap (λ us. t ∷ us) (targets_forth ts)

plan_forth : (p q : ℕ) (plan : Option RawPlan) → said_plan (raw_plan p q plan) ≡ plan
plan_forth p q None = refl
plan_forth p q (Some plan) = λ i. Some (record { at = plan.at; copied = plan.copied; targets = targets_forth plan.targets i; segments = plan.segments })

whole_forth : (d : raw_whole.Whole) → said_whole (whole_in d) ≡ d
whole_forth d = λ i. record {
  number = d.number;
  name = d.name;
  schema = d.schema;
  records = d.records;
  p = p_back d.p d.q i;
  q = q_back d.p d.q i;
  next = d.next;
  versions = versions_forth d.versions i;
  parts = parts_forth d.parts i;
  plan = plan_forth d.p d.q d.plan i;
}

abbrev next_of : Event Extent Extent → ℕ
next_of (Base next) = next
next_of _ = 0

abbrev whole_or : SetNumbers Extent Extent → Event Extent Extent → SetNumbers Extent Extent
whole_or other (Whole d) = d
whole_or other _ = other

base_only : (e : raw.Event) (next : ℕ) → event_in e ≡ Base next → e ≡ says.Base next
base_only (says.Base found) next same = ap (λ x. says.Base (next_of x)) same
base_only (says.Init name schema rows list segment) next same = absurd cc
base_only (says.Commit cvd vid message parents rows fresh place added list segment) next same = absurd cc
base_only (says.Plan cvd p q targets) next same = absurd cc
base_only (says.Copy cvd count segment) next same = absurd cc
base_only (says.Flip cvd) next same = absurd cc
base_only (says.Drop cvd) next same = absurd cc
base_only (says.Whole said) next same = absurd cc
base_only (says.Wide cvd vid message columns parents rows fresh place added list segment) next same = absurd cc

whole_only : (e : raw.Event) (d : SetNumbers Extent Extent) → event_in e ≡ Whole d → e ≡ says.Whole (said_whole d)
whole_only (says.Whole said) d same = ap (λ x. says.Whole x) (sym (whole_forth said)) ∙ ap (λ x. says.Whole (said_whole (whole_or d x))) same
whole_only (says.Base found) d same = absurd cc
whole_only (says.Init name schema rows list segment) d same = absurd cc
whole_only (says.Commit cvd vid message parents rows fresh place added list segment) d same = absurd cc
whole_only (says.Plan cvd p q targets) d same = absurd cc
whole_only (says.Copy cvd count segment) d same = absurd cc
whole_only (says.Flip cvd) d same = absurd cc
whole_only (says.Drop cvd) d same = absurd cc
whole_only (says.Wide cvd vid message columns parents rows fresh place added list segment) d same = absurd cc

head_is : {X : Type 0} (x y : X) (xs ys : List X) → x ∷ xs ≡ y ∷ ys → x ≡ y
head_is x y xs ys e = cc

tail_is : {X : Type 0} (x y : X) (xs ys : List X) → x ∷ xs ≡ y ∷ ys → xs ≡ ys
tail_is x y xs ys e = cc

wholes_only : (es : List raw.Event) (sets : List (SetNumbers Extent Extent)) → map event_in es ≡ map (λ d. Whole d) sets → es ≡ map (λ d. says.Whole (said_whole d)) sets
wholes_only [] [] same = refl
wholes_only [] (d ∷ sets) same = absurd cc
wholes_only (e ∷ es) [] same = absurd cc
wholes_only (e ∷ es) (d ∷ sets) same = λ i.
    whole_only e d (head_is (event_in e) (Whole d) (map event_in es) (map (λ d. Whole d) sets) same) i
    ∷ wholes_only es sets (tail_is (event_in e) (Whole d) (map event_in es) (map (λ d. Whole d) sets) same) i

pub one_snapshot : (events : List raw.Event) (n : Numbers Extent Extent) → IsSnapshot events n → events ≡ snapshot_in n
one_snapshot [] n is = absurd cc
one_snapshot (e ∷ es) n is = λ i.
    base_only e n.next (head_is (event_in e) (Base n.next) (map event_in es) (map (λ d. Whole d) n.sets) is) i
    ∷ wholes_only es n.sets (tail_is (event_in e) (Base n.next) (map event_in es) (map (λ d. Whole d) n.sets) is) i
