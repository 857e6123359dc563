-- What is refused by numbers is what the World refuses.
use Rattle.std.proofs.Common.{◌≡◌, ◌∙◌, ℕ, Bool, true, false, List, refl, sym, ap, subst}
use Rattle.std.specs.Prelude.{Option, Some, None, not}
use Rattle.std.specs.Option.{option_or}
use Rattle.ov_host.specs.Host.{State}
use Rattle.ov_core.specs.AtWorld.{IsAtWorld}
use Rattle.ov_core.specs.Held.{Held}
use Rattle.ov_model.specs.Act.{if_so, is_threshold}
use Rattle.ov_model.specs.World.{Dataset, World, set_named}
use Rattle.ov_model.specs.declared.refusal.Refusal.{Refusal}
use Rattle.ov_model.specs.declared.refusal.Refusal.TheVariants as no
use Rattle.ov_store.specs.Committing.{Set}
use Rattle.ov_store.specs.Planning.{IsPlanRefused, plan_off, refused_in}
use Rattle.ov_store.specs.Scanning.{set_in}
use Rattle.ov_store.specs.declared.plan_errors.PlanErr.{PlanErr}
use Rattle.ov_store.specs.declared.plan_errors.PlanErr.TheVariants as plan
use Rattle.ov_store.proofs.Deciding.{none_named, world_named}
use Rattle.ov_store.proofs.Plans.{IsEarly, is_early}
use Rattle.ov_choose.specs.Choices.{advise_off, off_if}
use Rattle.ov_choose.specs.Errors.{of_plan}
use Rattle.ov_choose.specs.Worlds.{IsRefusedTo, MayBegin, advise_refused, advise_refused_of, best_of, over_budget, within_refused, within_refused_of}
use Rattle.ov_choose.specs.declared.errors.ChooseErr.{ChooseErr}
use Rattle.ov_choose.specs.declared.errors.ChooseErr.TheVariants as why

-- ---- of a plan within a budget

within_first : (name : List ℕ) (budget : ℕ) (o : Option Dataset) (refusal : Refusal) → refused_in name o 1 100 ≡ Some refusal
    → within_refused_of name budget o ≡ Some refusal
within_first name budget None refusal is = is
within_first name budget (Some d) refusal is = ap (λ x. option_or x (over_budget budget d (best_of budget d))) is

module _ (name : List ℕ) (budget : ℕ) (o : Option Dataset) where
  refused_to : (e : PlanErr) → IsEarly e → IsPlanRefused name (refused_in name o 1 100) e → IsRefusedTo name budget (within_refused_of name budget o) (of_plan e)
  refused_to plan.Host early is = absurd early
  refused_to plan.Memory early is = absurd early
  refused_to (plan.Damaged area at) early is = absurd early
  refused_to plan.JournalFull early is = absurd early
  refused_to plan.NoCvd early is = within_first name budget o (no.NoCvd name) is
  refused_to plan.BadThreshold early is = within_first name budget o no.BadThreshold is
  refused_to plan.Migrating early is = within_first name budget o (no.Migrating name) is
  refused_to plan.NoNumbers early is = within_first name budget o (no.NoNumbers name) is

pub within_refused_to : (w : World) (name : List ℕ) (budget : ℕ) (o : Option Set) (e : PlanErr) → plan_off o 1 100 ≡ Some e → IsPlanRefused name (refused_in name (set_named w name) 1 100) e
    → IsRefusedTo name budget (within_refused w name budget) (of_plan e)
within_refused_to w name budget o e off is = refused_to name budget (set_named w name) e (is_early o 1 100 e off) is

pub may_begin : (w : World) (name : List ℕ) → refused_in name (set_named w name) 1 100 ≡ None → MayBegin w name
may_begin w name none = by (set_named w name) refl none
  where
    by : (o : Option Dataset) → set_named w name ≡ o → refused_in name o 1 100 ≡ None → MayBegin w name
    by None is none = absurd cc
    by (Some d) is none = record { d = d; named = is; allowed = none }

-- where only the table may refuse
module _ (w : World) (name : List ℕ) (budget : ℕ) (begins : MayBegin w name) where
  pub by_table : over_budget budget begins.d (best_of budget begins.d) ≡ within_refused w name budget
  by_table =
      sym (ap (λ x. option_or x (over_budget budget begins.d (best_of budget begins.d))) begins.allowed)
      ∙ sym (ap (within_refused_of name budget) begins.named)

-- ---- of an advice

module _ (w : World) (held : Held) (t : State) (at : IsAtWorld w held t) (name : List ℕ) (budget a b : ℕ) where
  not_there : set_in held.numbers name ≡ None → advise_refused w name budget a b ≡ Some (no.NoCvd name)
  not_there none = ap (advise_refused_of name budget a b) (none_named w held t at name none)

  -- the ratio is none
  no_ratio : (d : Dataset) → set_named w name ≡ Some d → not (is_threshold b a) ≡ true → advise_refused w name budget a b ≡ Some no.BadThreshold
  no_ratio d named off =
      ap (advise_refused_of name budget a b) named
      ∙ ap (λ t. option_or (if_so t no.BadThreshold) (over_budget budget d (best_of budget d))) off

  inside : (x y : ChooseErr) → Some x ≡ Some y → x ≡ y
  inside x y e = ap (λ o. elim o as (λ _. ChooseErr) [ None ↦ x | Some z ↦ z ]) e

  by_ratio : (t : Bool) (d : Dataset) → set_named w name ≡ Some d → not (is_threshold b a) ≡ t → (e : ChooseErr) → off_if t why.BadThreshold ≡ Some e
      → IsRefusedTo name budget (advise_refused w name budget a b) e
  by_ratio true d named off e is = subst (IsRefusedTo name budget (advise_refused w name budget a b)) (inside why.BadThreshold e is) (no_ratio d named off)
  by_ratio false d named off e is = absurd cc

  pub advise_refused_to : (e : ChooseErr) → advise_off a b (set_in held.numbers name) ≡ Some e → IsRefusedTo name budget (advise_refused w name budget a b) e
  advise_refused_to e is = by (set_in held.numbers name) refl is
    where
      by : (o : Option Set) → set_in held.numbers name ≡ o → advise_off a b o ≡ Some e → IsRefusedTo name budget (advise_refused w name budget a b) e
      by None none is = subst (IsRefusedTo name budget (advise_refused w name budget a b)) (inside why.NoCvd e is) (not_there none)
      by (Some s) found is = let there = world_named w held t at name s found in by_ratio (not (is_threshold b a)) there.0 there.1 refl e is

  ratio_none : (t : Bool) → off_if t why.BadThreshold ≡ None → t ≡ false
  ratio_none true is = absurd cc
  ratio_none false is = refl

  -- only the table may refuse
  pub advised_by_table : advise_off a b (set_in held.numbers name) ≡ None → (d : Dataset) → set_named w name ≡ Some d
      → over_budget budget d (best_of budget d) ≡ advise_refused w name budget a b
  advised_by_table none d named = by (set_in held.numbers name) none
    where
      by : (o : Option Set) → advise_off a b o ≡ None → over_budget budget d (best_of budget d) ≡ advise_refused w name budget a b
      by None none = absurd cc
      by (Some s) none =
          sym (ap (λ t. option_or (if_so t no.BadThreshold) (over_budget budget d (best_of budget d))) (ratio_none (not (is_threshold b a)) none))
          ∙ sym (ap (advise_refused_of name budget a b) named)

  pub advised_there : advise_off a b (set_in held.numbers name) ≡ None → (d : Dataset) × (set_named w name ≡ Some d)
  advised_there none = by (set_in held.numbers name) refl none
    where
      by : (o : Option Set) → set_in held.numbers name ≡ o → advise_off a b o ≡ None → (d : Dataset) × (set_named w name ≡ Some d)
      by None gone none = absurd cc
      by (Some s) found none = world_named w held t at name s found
