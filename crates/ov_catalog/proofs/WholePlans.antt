-- What the tests of a Whole's plan say of a draft's: it can run to its end, and a Whole can say it.
use Rattle.std.proofs.Common.{◌≡◌, ℕ, zero, suc, ◌+◌, ◌^◌, ◌<◌, ◌≤◌, Bool, true, false, not, cond, ◌||◌, ◌&&◌, eqb, List, [], ◌∷◌, ◌++◌, length, drop, map, refl, sym, ap, subst, ◌∙◌, inl, inr, arith}
use Rattle.std.specs.Prelude.{Option, Some, None, All, nat_le, nat_lt}
use Rattle.std.specs.List.{list_all, list_any, count_by, flat_map}
use Rattle.std.proofs.lemmas.Bool.{cases_Bool, and_parts, cond-true, cond-false, ne_eqb, leb-true, ltb-true}
use Rattle.std.proofs.lemmas.List.{length-map}
use Rattle.std.proofs.lemmas.List.Sums.{sum_by-cons}
use Rattle.ov_event.specs.declared.whole.RawPlan.{RawPlan}
use Rattle.ov_host.specs.declared.area.Extent.{Extent}
use Rattle.ov_layout.specs.declared.part.Part.{Part}
use Rattle.ov_layout.specs.Parts.{has, part_numbered}
use Rattle.ov_layout.proofs.VidLemmas.{Ascend-weaker, has-append}
use Rattle.ov_catalog.specs.declared.cvd.Plan.{Plan}
use Rattle.ov_catalog.specs.declared.cvd.Target.{Target}
use Rattle.ov_catalog.specs.declared.draft.Draft.{Draft}
use Rattle.ov_catalog.specs.Drafts.{draft_in}
use Rattle.ov_catalog.specs.Events as events
use Rattle.ov_catalog.specs.Events.{is_one}
use Rattle.ov_catalog.specs.Numbers.{PlanNumbers, TargetNumbers}
use Rattle.ov_catalog.specs.Planning.{ascend_from, is_source, is_threshold, meets}
use Rattle.ov_catalog.specs.Raw.{raw_plan, threshold_in}
use Rattle.ov_catalog.specs.Running.{AreTargets, IsPlanned, IsRunning, IsTarget, is_in_target}
use Rattle.ov_catalog.specs.Sets.{part_in, plan_in, plan_numbers, target_in, version_in}
use Rattle.ov_catalog.specs.Splitting.{IsListed}
use Rattle.ov_catalog.specs.Testing.{targets_from}
use Rattle.ov_catalog.specs.Thresholds.{IsSaid, RunsAt, p_of, q_of}
use Rattle.ov_catalog.specs.Wholes.{are_parts, are_sources, are_targets, are_there, is_plan, is_target, is_threshold_for, serves_only}
use Rattle.ov_catalog.proofs.SplitLemmas.{from-one, hits-few, later-none, or-assoc, parts-hit, source-from}
use Rattle.ov_catalog.proofs.TargetLemmas.{ascend-in, from-in}
use Rattle.ov_catalog.proofs.WholeParts.{all-at, any-seen, parts-zero_none, some-length}

not-true : (b : Bool) → not b ≡ true → b ≡ false
not-true true h = absurd cc
not-true false h = refl

-- ---- targets

abbrev versions_of : List Target → List (List ℕ)
versions_of ts = map (λ (t : Target). t.versions) ts

none-counted : (ts : List Target) (vid : ℕ) → is_in_target ts vid ≡ false → count_by (λ p. has p vid) (versions_of ts) ≡ 0
none-counted [] vid out = refl
none-counted (t ∷ ts) vid out =
    let sum = sum_by-cons (λ (p : List ℕ). cond (has p vid) 1 0) t.versions (versions_of ts) in
    elim (cases_Bool (has t.versions vid)) [
      | inl e ↦ let no = rw e at out in absurd cc
      | inr e ↦
          let own = cond-false {A = ℕ} (has t.versions vid) 1 0 e in
          let rest = none-counted ts vid (rw e at out) in
          omega (arith, sum, own, rest)
    ]

-- what the test of a target says
record Tested (count records : ℕ) (t : Target) (ts : List Target) : Type 0 where
  listed : IsListed count t.versions
  apart : (vid : ℕ) → has t.versions vid ≡ true → is_in_target ts vid ≡ false
  few : t.size ≤ records

module _ (count records : ℕ) where
  abbrev pub AreTested : List Target → Type 0
  AreTested ts = are_targets count records (map target_in ts) ≡ true

  first-of : (t : Target) (ts : List Target) → AreTested (t ∷ ts) → Tested count records t ts × AreTested ts
  first-of t ts are =
      let later = map target_in ts in
      let both = and_parts (is_target count records (target_in t) later) (are_targets count records later) are in
      let halves = and_parts (not (eqb (length t.versions) 0) && are_there count t.versions) (not (list_any (λ u. meets u.versions t.versions) later) && nat_le t.size records) both.0 in
      let versions = and_parts (not (eqb (length t.versions) 0)) (are_there count t.versions) halves.0 in
      let there = and_parts (ascend_from 1 t.versions) (list_all (λ vid. nat_le vid count) t.versions) versions.1 in
      let rest = and_parts (not (list_any (λ u. meets u.versions t.versions) later)) (nat_le t.size records) halves.1 in
      let none = sym (any-seen later t.versions) ∙ not-true _ rest.0 in (
        record {
          listed = record {
            some = (let some = some-length t.versions versions.0 in omega (arith, some));
            ascend = ascend-in 1 t.versions there.0;
            there = λ vid is. leb-true vid count (all-at (λ v. nat_le v count) t.versions vid there.1 is);
          };
          apart = λ vid is. later-none ts t.versions vid none is;
          few = leb-true t.size records rest.1;
        },
        both.1,
      )

  all-listed : (ts : List Target) → AreTested ts → All (IsListed count) (versions_of ts)
  all-listed [] are k e lt = absurd (omega arith)
  all-listed (t ∷ ts) are zero e lt = (first-of t ts are).0.listed
  all-listed (t ∷ ts) are (suc k) e lt = all-listed ts (first-of t ts are).1 k e (omega arith)

  in-one : (ts : List Target) → AreTested ts → (vid : ℕ) → count_by (λ p. has p vid) (versions_of ts) ≤ 1
  in-one [] are vid = omega arith
  in-one (t ∷ ts) are vid =
      let sum = sum_by-cons (λ (p : List ℕ). cond (has p vid) 1 0) t.versions (versions_of ts) in
      elim (cases_Bool (has t.versions vid)) [
        | inl e ↦
            let own = cond-true {A = ℕ} (has t.versions vid) 1 0 e in
            let rest = none-counted ts vid ((first-of t ts are).0.apart vid e) in
            omega (arith, sum, own, rest)
        | inr e ↦
            let own = cond-false {A = ℕ} (has t.versions vid) 1 0 e in
            let rest = in-one ts (first-of t ts are).1 vid in
            omega (arith, sum, own, rest)
      ]

  -- each has a version that no other one has
  targets-few : (ts : List Target) → AreTested ts → length ts ≤ count
  targets-few ts are =
      let hit = parts-hit count (versions_of ts) (all-listed ts are) in
      let few = hits-few (versions_of ts) 1 count (λ vid one lt. in-one ts are vid) in
      let long = length-map ts (λ (t : Target). t.versions) in
      omega (arith, hit, few, long)

  pub tested-drop : (k : ℕ) (ts : List Target) → AreTested ts → AreTested (drop k ts)
  tested-drop zero ts are = are
  tested-drop (suc k) [] are = are
  tested-drop (suc k) (t ∷ ts) are = tested-drop k ts (first-of t ts are).1

  pub targets-there : (ts : List Target) → AreTested ts → (vid : ℕ) → is_in_target ts vid ≡ true → vid ≤ count
  targets-there [] are vid is = absurd cc
  targets-there (t ∷ ts) are vid is =
      let own = first-of t ts are in
      elim (cases_Bool (has t.versions vid)) [
        | inl e ↦ own.0.listed.there vid e
        | inr e ↦ targets-there ts own.1 vid (rw e at is)
      ]

-- ---- sources

-- the versions of the partition with a number
served-at : (id : ℕ) (vids : List ℕ) (parts : List Part) (part : Part) → list_all (serves_only id vids) (map part_in parts) ≡ true → part_numbered id parts ≡ Some part
    → list_all (is_one vids) part.versions ≡ true
served-at id vids [] part all found = absurd cc
served-at id vids (p ∷ parts) part all found =
    let both = and_parts (serves_only id vids (part_in p)) (list_all (serves_only id vids) (map part_in parts)) all in
    elim (cases_Bool (eqb p.id id)) [
      | inl e ↦
          let first : Some p ≡ Some part = rw e at found in
          let same : p ≡ part = cc in
          ap (λ (x : Part). list_all (is_one vids) x.versions) (sym same) ∙ (rw e at both.0)
      | inr e ↦ served-at id vids parts part both.1 (rw e at found)
    ]

pub in-all : (ts : List Target) (vid : ℕ) → is_one (flat_map (λ (t : TargetNumbers). t.versions) (map target_in ts)) vid ≡ is_in_target ts vid
in-all [] vid = refl
in-all (t ∷ ts) vid = has-append t.versions (flat_map (λ (u : TargetNumbers). u.versions) (map target_in ts)) vid ∙ ap (λ (b : Bool). has t.versions vid || b) (in-all ts vid)

module _ (count records : ℕ) (small : records < 2 ^ 32) (parts : List Part) (zero_none : part_numbered 0 parts ≡ None) (vids : List ℕ) where
  targets-from : (before : List ℕ) (ts : List Target) → AreTested count records ts → are_sources (map part_in parts) vids (map target_in ts) ≡ true
      → ((vid : ℕ) → is_one vids vid ≡ true → (has before vid || is_in_target ts vid) ≡ true) → AreTargets count parts before ts
  targets-from before [] are from cover = tt
  targets-from before (t ∷ ts) are from cover =
      let later = map (λ (u : TargetNumbers). u.versions) (map target_in ts) in
      let own = first-of count records t ts are in
      let both = and_parts (is_source (map part_in parts) (target_in t) later && list_all (serves_only t.source vids) (map part_in parts)) (are_sources (map part_in parts) vids (map target_in ts)) from in
      let fits = and_parts (is_source (map part_in parts) (target_in t) later) (list_all (serves_only t.source vids) (map part_in parts)) both.0 in
      let source = source-from before t ts parts zero_none
      (λ part found vid is. cover vid (all-at (is_one vids) part.versions vid (served-at t.source vids parts part fits.1 found) is)) fits.0
      in
      let listed = own.0.listed in
      let target : IsTarget count t = record {
        some = (let some = listed.some in omega (arith, some));
        ascend = Ascend-weaker 0 1 t.versions (omega arith) listed.ascend;
        there = λ vid is. (from-one 1 t.versions vid listed.ascend is, listed.there vid is);
        kept = source.1;
        few = (let few = own.0.few in omega (arith, few, small));
      } in (
        target,
        source.0,
        own.0.apart,
        targets-from (before ++ t.versions) ts own.1 both.1
            (λ vid is. ap (λ (b : Bool). b || is_in_target ts vid) (has-append before t.versions vid) ∙ sym (or-assoc (has before vid) (has t.versions vid) (is_in_target ts vid)) ∙ cover vid is),
      )

-- ---- the plan

module _ (d : Draft) (parts : are_parts (draft_in d) ≡ true) (few : length d.versions.items ≤ 65535) (small : d.records < 2 ^ 32) where
  running : (plan : Plan) → is_plan (draft_in d) (plan_in (Some plan)) ≡ true → IsRunning (length d.versions.items) d.parts.items plan
  running plan is =
      let count = length d.versions.items in
      let targets = map target_in plan.targets in
      let left = targets_from plan.at targets in
      let vids = flat_map (λ (t : TargetNumbers). t.versions) left in
      let now = events.current (plan_numbers plan) in
      let halves = and_parts (nat_lt plan.at (length targets) && nat_le (plan.copied + now.kept_records) now.size) _ is in
      let at = ltb-true plan.at (length targets) (and_parts (nat_lt plan.at (length targets)) _ halves.0).0 in
      let rest = and_parts (are_targets (length (draft_in d).versions) d.records targets) (are_sources (draft_in d).parts vids left) halves.1 in
      let tested : AreTested count d.records plan.targets = subst (λ (n : ℕ). are_targets n d.records targets ≡ true) (length-map d.versions.items version_in) rest.0 in
      let size = length-map plan.targets target_in in
      let behind = drop plan.at plan.targets in
      let sources : are_sources (map part_in d.parts.items) (flat_map (λ (t : TargetNumbers). t.versions) (map target_in behind)) (map target_in behind) ≡ true =
      subst (λ (us : List TargetNumbers). are_sources (map part_in d.parts.items) (flat_map (λ (t : TargetNumbers). t.versions) us) us ≡ true) (from-in plan.at plan.targets) rest.1 in
      record {
        at = omega (arith, at, size);
        few = (let most = targets-few count d.records plan.targets tested in omega (arith, most, few));
        targets = targets-from count d.records small d.parts.items (parts-zero_none d parts) (flat_map (λ (t : TargetNumbers). t.versions) (map target_in behind)) [] behind
            (tested-drop count d.records plan.at plan.targets tested) sources (λ vid is. sym (in-all behind vid) ∙ is);
      }

  planned : (plan : Option Plan) → is_plan (draft_in d) (plan_in plan) ≡ true → IsPlanned (length d.versions.items) d.parts.items plan
  planned None is = tt
  planned (Some plan) is = running plan is

pub plan-runs : (d : Draft) → are_parts (draft_in d) ≡ true → is_plan (draft_in d) (plan_in d.plan) ≡ true → length d.versions.items ≤ 65535 → d.records < 2 ^ 32
    → IsPlanned (length d.versions.items) d.parts.items d.plan
plan-runs d parts plan few records = planned d parts few records d.plan plan

-- ---- the threshold

spelled : (p q : ℕ) → threshold_in (p_of (threshold_in p q)) (q_of (threshold_in p q)) ≡ threshold_in p q
spelled p q =
    elim (cases_Bool (eqb p 0 && eqb q 0)) [
      | inl e ↦ rw e refl
      | inr e ↦ rw e (rw e refl)
    ]

abbrev p_in : Option (PlanNumbers Extent) → ℕ
p_in None = 0
p_in (Some plan) = plan.p

abbrev q_in : Option (PlanNumbers Extent) → ℕ
q_in None = 0
q_in (Some plan) = plan.q

threshold-some : (p q : ℕ) → is_threshold p q ≡ true → threshold_in p q ≡ Some (p, q)
threshold-some p q is =
    let one = leb-true 1 p (and_parts (nat_le 1 p) (nat_le p q && nat_le q 1000000) is).0 in
    rw (ne_eqb p 0 (λ none. absurd (omega (arith, one, none)))) refl

-- where a plan runs there is a threshold
or-none : (a b : Bool) → (a || (b && false)) ≡ true → a ≡ true
or-none true b h = refl
or-none false true h = absurd cc
or-none false false h = absurd cc

runs-at : (p q : ℕ) (plan : Option Plan) (raw : Option RawPlan) → is_threshold_for p q (plan_in plan) ≡ true → plan_in plan ≡ raw_plan p q raw → RunsAt (threshold_in p q) (plan_in plan)
runs-at p q None raw is said = tt
runs-at p q (Some plan) None is said = absurd cc
runs-at p q (Some plan) (Some raw) is said =
    let p_is : p ≡ plan.p = sym (ap p_in said) in
    let q_is : q ≡ plan.q = sym (ap q_in said) in
    threshold-some p q (or-none (is_threshold p q) (eqb p 0 && eqb q 0) is) ∙ (λ i. Some (p_is i, q_is i))

-- `raw` is the Whole's plan
pub threshold-said : (p q : ℕ) (plan : Option Plan) (raw : Option RawPlan) → is_threshold_for p q (plan_in plan) ≡ true → plan_in plan ≡ raw_plan p q raw → IsSaid (threshold_in p q) (plan_in plan)
threshold-said p q plan raw is said = record { said = spelled p q; runs = runs-at p q plan raw is said }
