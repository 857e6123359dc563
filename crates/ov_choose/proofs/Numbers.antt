-- What the numbers refuse of a plan within a budget, by what they refuse of a plan at one of the hundred thresholds.
use Rattle.std.proofs.Common.{◌≡◌, ◌≤◌, ◌∙◌, ℕ, Bool, true, false, refl, sym, ap, subst}
use Rattle.std.specs.Prelude.{Option, Some, None, is_some, nat_lt, not, option_map}
use Rattle.std.specs.Option.{option_or}
use Rattle.std.proofs.lemmas.Bool.{le-leb}
use Rattle.ov_host.specs.Host.{State}
use Rattle.ov_model.specs.Act.{is_threshold}
use Rattle.ov_store.specs.Committing.{Set}
use Rattle.ov_store.specs.Planning.{plan_off}
use Rattle.ov_store.specs.Planning as planning
use Rattle.ov_store.specs.declared.plan_errors.PlanErr.{PlanErr}
use Rattle.ov_store.specs.declared.plan_errors.PlanErr.TheVariants as plan
use Rattle.ov_choose.specs.Choices.{IsUnpicked, advise_off, off_if, there_off, within_off}
use Rattle.ov_choose.specs.Errors.{of_plan}
use Rattle.ov_choose.specs.declared.errors.ChooseErr.{ChooseErr}
use Rattle.ov_choose.specs.declared.errors.ChooseErr.TheVariants as why

-- a hundredth is a threshold
hundredths : (p : ℕ) → 1 ≤ p → p ≤ 100 → is_threshold p 100 ≡ true
hundredths p some most = rw (le-leb 1 p some, le-leb p 100 most) refl

abbrev tests : Bool → Bool → Option PlanErr
tests a b = option_or (planning.off_if a plan.Migrating) (planning.off_if b plan.NoNumbers)

tests_same : (a b : Bool) → option_map of_plan (tests a b) ≡ option_or (off_if a why.Migrating) (off_if b why.NoNumbers)
tests_same true b = refl
tests_same false true = refl
tests_same false false = refl

map_none : (o : Option PlanErr) → option_map of_plan o ≡ None → o ≡ None
map_none None is = refl
map_none (Some e) is = absurd cc

module _ (o : Option Set) (p : ℕ) (some : 1 ≤ p) (most : p ≤ 100) where
  off_same : option_map of_plan (plan_off o p 100) ≡ within_off o
  off_same = by o
    where
      by : (o : Option Set) → option_map of_plan (plan_off o p 100) ≡ within_off o
      by None = refl
      by (Some s) =
          ap (λ t. option_map of_plan (option_or (planning.off_if (not t) plan.BadThreshold) (tests (is_some s.plan) (nat_lt 4294000000 s.next_part)))) (hundredths p some most)
          ∙ tests_same (is_some s.plan) (nat_lt 4294000000 s.next_part)

  pub none_within : plan_off o p 100 ≡ None → within_off o ≡ None
  none_within none = sym off_same ∙ ap (option_map of_plan) none

  pub some_within : (e : PlanErr) → plan_off o p 100 ≡ Some e → within_off o ≡ Some (of_plan e)
  some_within e is = sym off_same ∙ ap (option_map of_plan) is

  pub none_plan : within_off o ≡ None → plan_off o p 100 ≡ None
  none_plan none = map_none (plan_off o p 100) (off_same ∙ none)

-- ---- a refusal by numbers

pub never_both : {A : Type 0} (o : Option A) (x : A) → o ≡ None → o ≡ Some x → ⊥
never_both o x none is = cc

inside : (x y : ChooseErr) → Some x ≡ Some y → x ≡ y
inside x y e = ap (λ o. elim o as (λ _. ChooseErr) [ None ↦ x | Some z ↦ z ]) e

-- one that the numbers give
abbrev IsEarly : ChooseErr → Type 0
IsEarly why.Host = ⊥
IsEarly why.Memory = ⊥
IsEarly (why.Damaged area at) = ⊥
IsEarly why.JournalFull = ⊥
IsEarly (why.NoThreshold least) = ⊥
IsEarly _ = Unit {0}

within_tests_early : (a b : Bool) (e : ChooseErr) → option_or (off_if a why.Migrating) (off_if b why.NoNumbers) ≡ Some e → IsEarly e
within_tests_early true b e is = subst IsEarly (inside why.Migrating e is) tt
within_tests_early false true e is = subst IsEarly (inside why.NoNumbers e is) tt
within_tests_early false false e is = absurd cc

within_early : (o : Option Set) (e : ChooseErr) → within_off o ≡ Some e → IsEarly e
within_early None e is = subst IsEarly (inside why.NoCvd e is) tt
within_early (Some s) e is = within_tests_early (is_some s.plan) (nat_lt 4294000000 s.next_part) e is

advise_test_early : (t : Bool) (e : ChooseErr) → off_if t why.BadThreshold ≡ Some e → IsEarly e
advise_test_early true e is = subst IsEarly (inside why.BadThreshold e is) tt
advise_test_early false e is = absurd cc

advise_early : (a b : ℕ) (o : Option Set) (e : ChooseErr) → advise_off a b o ≡ Some e → IsEarly e
advise_early a b None e is = subst IsEarly (inside why.NoCvd e is) tt
advise_early a b (Some s) e is = advise_test_early (not (is_threshold b a)) e is

module _ (off : Option ChooseErr) (o : Option Set) (budget : ℕ) (s : State) where
  early_unpicked : (e : ChooseErr) → IsEarly e → off ≡ Some e → IsUnpicked off o budget s s e
  early_unpicked why.Host early is = absurd early
  early_unpicked why.Memory early is = absurd early
  early_unpicked (why.Damaged area at) early is = absurd early
  early_unpicked why.JournalFull early is = absurd early
  early_unpicked (why.NoThreshold least) early is = absurd early
  early_unpicked why.NoCvd early is = (is, refl)
  early_unpicked why.BadThreshold early is = (is, refl)
  early_unpicked why.Migrating early is = (is, refl)
  early_unpicked why.NoNumbers early is = (is, refl)

pub within_unpicked : (o : Option Set) (budget : ℕ) (s : State) (e : ChooseErr) → within_off o ≡ Some e → IsUnpicked (within_off o) o budget s s e
within_unpicked o budget s e is = early_unpicked (within_off o) o budget s e (within_early o e is) is

pub advise_unpicked : (a b : ℕ) (o : Option Set) (budget : ℕ) (s : State) (e : ChooseErr) → advise_off a b o ≡ Some e → IsUnpicked (advise_off a b o) o budget s s e
advise_unpicked a b o budget s e is = early_unpicked (advise_off a b o) o budget s e (advise_early a b o e is) is

-- ---- where the numbers refuse nothing the dataset is there

pub within_there : (o : Option Set) → within_off o ≡ None → there_off o ≡ None
within_there None none = absurd cc
within_there (Some s) none = refl

pub advise_there : (a b : ℕ) (o : Option Set) → advise_off a b o ≡ None → there_off o ≡ None
advise_there a b None none = absurd cc
advise_there a b (Some s) none = refl

pub set_there : (o : Option Set) → there_off o ≡ None → (s : Set) × (o ≡ Some s)
set_there None none = absurd cc
set_there (Some s) none = (s, refl)

-- so it is picked by the same causes
module _ (off : Option ChooseErr) (o : Option Set) (budget : ℕ) (s t : State) (none : off ≡ None) (there : there_off o ≡ None) where
  pub same_unpicked : (e : ChooseErr) → IsUnpicked (there_off o) o budget s t e → IsUnpicked off o budget s t e
  same_unpicked why.Host is = is
  same_unpicked why.Memory is = is
  same_unpicked (why.Damaged area at) is = (is.0, none, is.2)
  same_unpicked (why.NoThreshold least) is = (none, is.1)
  same_unpicked why.JournalFull is = is
  same_unpicked why.NoCvd is = absurd (never_both (there_off o) why.NoCvd there is.0)
  same_unpicked why.BadThreshold is = absurd (never_both (there_off o) why.BadThreshold there is.0)
  same_unpicked why.Migrating is = absurd (never_both (there_off o) why.Migrating there is.0)
  same_unpicked why.NoNumbers is = absurd (never_both (there_off o) why.NoNumbers there is.0)
