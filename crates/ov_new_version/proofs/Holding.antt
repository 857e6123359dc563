-- What is read of a partition agrees with its numbers.
use Rattle.std.proofs.Common.{◌≡◌, ◌≤◌, ◌<◌, ◌+◌, ℕ, suc, Bool, true, false, ◌==◌, List, [], ◌∷◌, refl, sym, subst, inl, inr, arith}
use Rattle.std.specs.Prelude.{if◌then◌else◌, Some, Result, IfOk, Ok, Err}
use Rattle.std.specs.List.{AllByRecursion}
use Rattle.std.proofs.lemmas.Bool.{eqb-true}
use Rattle.std.proofs.lemmas.List.Elements.{recursion_from_All}
use Rattle.ov_host.specs.declared.area.Extent.{Extent}
use Rattle.ov_member.specs.Rids as member
use Rattle.ov_member.specs.Rids.{RiseFrom}
use Rattle.ov_model.specs.Lists.{IsIn}
use Rattle.ov_model.specs.Placed.{times}
use Rattle.ov_catalog.specs.Applying.{part_numbered, records_in}
use Rattle.ov_catalog.specs.Numbers.{SetNumbers, PartNumbers}
use Rattle.law_commits.specs.Agreeing.{AreRids, HeldAgrees}
use Rattle.ov_read.specs.Agreement.{IsBorneOut}

pub in_all : {X : Type 0} (P : X → Type 0) (xs : List X) (x : X) → AllByRecursion P xs → IsIn xs x → P x
in_all P [] x all is = absurd is
in_all P (y ∷ ys) x all (inl same) = subst P (sym same) all.0
in_all P (y ∷ ys) x all (inr later) = in_all P ys x all.1 later

rise_least : (least : ℕ) (rids : List ℕ) (n : ℕ) → RiseFrom least rids → IsIn rids n → least ≤ n
rise_least least [] n rise is = absurd is
rise_least least (rid ∷ rids) n rise (inl same) = omega (arith, rise.0, same)
rise_least least (rid ∷ rids) n rise (inr later) = omega (arith, rise.0, rise_least (suc rid) rids n rise.2 later)

rise_none : (least : ℕ) (rids : List ℕ) (n : ℕ) → RiseFrom least rids → n < least → times rids n ≡ 0
rise_none least [] n rise low = refl
rise_none least (rid ∷ rids) n rise low = by (rid == n) (eqb-true rid n) (rise_none (suc rid) rids n rise.2 (omega (arith, rise.0, low)))
  where
    by : (b : Bool) → (b ≡ true → rid ≡ n) → times rids n ≡ 0 → (if b then 1 else 0) + times rids n ≡ 0
    by true same rest = absurd (omega (arith, same refl, rise.0, low))
    by false same rest = omega (arith, rest)

pub rise_once : (least : ℕ) (rids : List ℕ) (n : ℕ) → RiseFrom least rids → times rids n ≤ 1
rise_once least [] n rise = omega arith
rise_once least (rid ∷ rids) n rise = by (rid == n) (eqb-true rid n) (rise_once (suc rid) rids n rise.2)
  where
    by : (b : Bool) → (b ≡ true → rid ≡ n) → times rids n ≤ 1 → (if b then 1 else 0) + times rids n ≤ 1
    by true same rest = omega (arith, rise_none (suc rid) rids n rise.2 (omega (arith, same refl)))
    by false same rest = omega (arith, rest)

pub rids_agree : (count last : ℕ) (rids : List ℕ) → member.AreRids rids → IsBorneOut count last rids → AreRids count last rids
rids_agree count last rids are borne = record {
  all = borne.count_is;
  once = λ n. rise_once 1 rids n are;
  from_one = λ n is. rise_least 1 rids n are is;
  there = λ n is. in_all (λ rid. rid ≤ last) rids n (recursion_from_All (λ rid. rid ≤ last) rids borne.below) is;
}

pub held_agrees : (s : SetNumbers Extent Extent) (id : ℕ) (part : PartNumbers Extent) (rids : List ℕ) → part_numbered s.parts id ≡ Some part
    → member.AreRids rids → IsBorneOut part.records s.records rids → HeldAgrees s id rids
held_agrees s id part rids is are borne =
    subst (λ o. AreRids (records_in o) s.records rids) (sym is) (rids_agree part.records s.records rids are borne)

-- two facts on what is Ok
pub both_ok : {T E : Type 0} (r : Result T E) (P Q R : T → Type 0) → IfOk r P → IfOk r Q → ((x : T) → P x → Q x → R x) → IfOk r R
both_ok (Ok x) P Q R p q f = f x p q
both_ok (Err e) P Q R p q f = p
