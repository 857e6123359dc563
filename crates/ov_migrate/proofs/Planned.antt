-- The current target of a running plan.
use Rattle.std.proofs.Common.{◌≡◌, ◌≤◌, ◌<◌, ◌+◌, ◌==◌, ◌||◌, ℕ, zero, suc, Bool, true, false, List, [], ◌∷◌, length, get_or, refl, sym, ◌∙◌, ap, subst, arith}
use Rattle.std.specs.Prelude.{Some, if◌then◌else◌}
use Rattle.std.specs.List.{All}
use Rattle.std.proofs.lemmas.Bool.{eq-eqb, eqb-true}
use Rattle.std.proofs.lemmas.List.{length-map}
use Rattle.ov_layout.specs.Parts.{Ascend, has}
use Rattle.ov_model.specs.Placed.{times}
use Rattle.ov_catalog.specs.declared.cvd.Cvd.{Cvd}
use Rattle.ov_catalog.specs.declared.cvd.Plan.{Plan}
use Rattle.ov_catalog.specs.declared.cvd.Target.{Target}
use Rattle.ov_catalog.specs.Events as numbers
use Rattle.ov_catalog.specs.Ready.{IsSet}
use Rattle.ov_catalog.specs.Running.{AreThere, IsPlanned, IsRunning, IsTarget, current, no_target}
use Rattle.ov_catalog.specs.Sets.{plan_numbers, set_in, target_in, version_in}
use Rattle.ov_catalog.proofs.TargetLemmas.{current-in}
use Rattle.ov_catalog.proofs.TurnLemmas.{turn-of}
use Rattle.ov_fetch.proofs.Gathered.{same_default}
use Rattle.ov_read.specs.Agreement.{IsThere}

or_right : (a b : Bool) → b ≡ true → (a || b) ≡ true
or_right true b e = refl
or_right false b e = e

has_at : (vids : List ℕ) (k d : ℕ) → k < length vids → has vids (get_or vids k d) ≡ true
has_at [] k d low = absurd (omega (arith, low))
has_at (v ∷ vids) zero d low = ap (λ b. b || has vids v) (eq-eqb v v refl)
has_at (v ∷ vids) (suc k) d low = or_right (v == get_or vids k d) (has vids (get_or vids k d)) (has_at vids k d (omega (arith, low)))

-- versions that ascend are there once each
none_below : (least : ℕ) (vids : List ℕ) (vid : ℕ) → Ascend least vids → vid < least → times vids vid ≡ 0
none_below least [] vid up low = refl
none_below least (v ∷ vids) vid up low = by (v == vid) (λ t. eqb-true v vid t) (none_below (suc v) vids vid up.1 (omega (arith, low, up.0)))
  where
    by : (b : Bool) → (b ≡ true → v ≡ vid) → times vids vid ≡ 0 → (if b then 1 else 0) + times vids vid ≡ 0
    by true same rest = absurd (omega (arith, same refl, low, up.0))
    by false same rest = omega (arith, rest)

ascend_once : (least : ℕ) (vids : List ℕ) (vid : ℕ) → Ascend least vids → times vids vid ≤ 1
ascend_once least [] vid up = omega arith
ascend_once least (v ∷ vids) vid up =
    by (v == vid) (λ t. none_below (suc v) vids vid up.1 (omega (arith, eqb-true v vid t))) (ascend_once (suc v) vids vid up.1)
  where
    by : (b : Bool) → (b ≡ true → times vids vid ≡ 0) → times vids vid ≤ 1 → (if b then 1 else 0) + times vids vid ≤ 1
    by true none rest = omega (arith, none refl)
    by false none rest = omega (arith, rest)

module _ (d : Cvd) (plan : Plan) (set : IsSet d) (runs : d.plan ≡ Some plan) where
  is_running : IsRunning (length d.versions.items) d.layout.parts plan
  is_running = subst (IsPlanned (length d.versions.items) d.layout.parts) runs set.plan

  module _ (targets : List Target) (t : Target) (same : targets ≡ plan.targets) (is : t ≡ get_or targets plan.at t) where
    at_place : t ≡ get_or plan.targets plan.at t
    at_place = is ∙ ap (λ (ts : List Target). get_or ts plan.at t) same

    is_current : t ≡ current plan
    is_current = at_place ∙ same_default plan.targets plan.at t no_target is_running.at

    pub in_numbers : target_in t ≡ numbers.current (plan_numbers plan)
    in_numbers = ap target_in at_place ∙ sym (current-in plan.targets plan.at numbers.no_target t is_running.at)

    is_target : IsTarget (length d.versions.items) t
    is_target = subst (IsTarget (length d.versions.items)) (sym is_current) (turn-of (length d.versions.items) d.layout.parts plan is_running).target

    pub all_there : (vids : List ℕ) → vids ≡ t.versions → All (IsThere (set_in d)) vids
    all_there vids those k other low =
        let there : AreThere (length d.versions.items) vids = subst (AreThere (length d.versions.items)) (sym those) is_target.there
        in let at = there (get_or vids k other) (has_at vids k other low)
        in (at.0, omega (arith, at.1, length-map d.versions.items version_in))

    pub all_once : (vids : List ℕ) → vids ≡ t.versions → (vid : ℕ) → times vids vid ≤ 1
    all_once vids those vid = ascend_once 0 vids vid (subst (Ascend 0) (sym those) is_target.ascend)
