-- What a move makes of each dataset, and from which one each dataset came.
use Rattle.std.proofs.Common.{◌≡◌, ◌≤◌, ◌<◌, ◌⊎◌, ℕ, Bool, true, false, List, [], ◌∷◌, ◌++◌, map, filter, refl, sym, ◌∙◌, ap, subst, inl, inr, arith}
use Rattle.std.specs.Prelude.{◌≢◌, not, nat_lt, if◌then◌else◌, Option, Some, None}
use Rattle.std.proofs.lemmas.Bool.{cases_Bool, ltb-true, ltb-false, ne_eqb}
use Rattle.ov_model.specs.Lists.{IsIn}
use Rattle.ov_model.specs.Moves.{Move, Init, Commit, BeginPlan, Copy, Flip, Drop, Checkpoint, moved, change, numbered, committed, new_set}
use Rattle.ov_model.specs.Plans.{planned, copied_more, flipped_by, flipped}
use Rattle.ov_model.specs.World.{Plan, Dataset, World}
use Rattle.law_partitions.specs.Countdown.{AreNumbered}
use Rattle.law_partitions.proofs.CourseNumbers.{committed_number, some_number}
use Rattle.law_partitions.proofs.OldParts.{in_append, in_map, in_filter}

-- a dataset that stays, behind a move
abbrev pub made : Move → Dataset → Dataset
made (Init name schema rows) d = d
made (Commit cvd parents message added rows) d = if numbered cvd d then committed parents message added rows d else d
made (BeginPlan cvd p q) d = if numbered cvd d then planned p q d else d
made (Copy cvd) d = if numbered cvd d then copied_more d else d
made (Flip cvd) d = if numbered cvd d then flipped d else d
made (Drop cvd) d = d
made Checkpoint d = d

flipped_number : (d : Dataset) (plan : Option Plan) → (flipped_by d plan).cvd.number ≡ d.cvd.number
flipped_number d None = refl
flipped_number d (Some plan) = refl

number_if : (t : Bool) (f : Dataset → Dataset) (d : Dataset) → (f d).cvd.number ≡ d.cvd.number → (if t then f d else d).cvd.number ≡ d.cvd.number
number_if true f d same = same
number_if false f d same = refl

pub made_number : (m : Move) (d : Dataset) → (made m d).cvd.number ≡ d.cvd.number
made_number (Init name schema rows) d = refl
made_number (Commit cvd parents message added rows) d = number_if (numbered cvd d) (committed parents message added rows) d (committed_number parents message added rows d)
made_number (BeginPlan cvd p q) d = number_if (numbered cvd d) (planned p q) d refl
made_number (Copy cvd) d = number_if (numbered cvd d) copied_more d refl
made_number (Flip cvd) d = number_if (numbered cvd d) flipped d (flipped_number d d.plan)
made_number (Drop cvd) d = refl
made_number Checkpoint d = refl

-- ---- numbers below the next one

pub below_next : (w : World) (d : Dataset) → AreNumbered w → IsIn w.sets d → d.cvd.number < w.next
below_next w d are there = elim (cases_Bool (nat_lt d.cvd.number w.next)) [
  | inl low ↦ ltb-true d.cvd.number w.next low
  | inr high ↦ absurd (omega (arith, are.below d.cvd.number (ltb-false d.cvd.number w.next high), some_number w.sets d there))
]

pub next_kept : (m : Move) (w : World) → w.next ≤ (moved m w).next
next_kept (Init name schema rows) w = omega arith
next_kept (Commit cvd parents message added rows) w = omega arith
next_kept (BeginPlan cvd p q) w = omega arith
next_kept (Copy cvd) w = omega arith
next_kept (Flip cvd) w = omega arith
next_kept (Drop cvd) w = omega arith
next_kept Checkpoint w = omega arith

-- ---- from which one it came

pub record From (m : Move) (w : World) (e : Dataset) : Type 0 where
  pub was : Dataset
  pub there : IsIn w.sets was
  pub is : e ≡ made m was

from_change : (number : ℕ) (f : Dataset → Dataset) (m : Move) (w : World) (e : Dataset) → ((d : Dataset) → made m d ≡ (if numbered number d then f d else d)) → IsIn (change number f w.sets) e → From m w e
from_change number f m w e makes there =
    let from = in_map (λ d. if numbered number d then f d else d) w.sets e there
    in record { was = from.0; there = from.1; is = from.2 ∙ sym (makes from.0) }

from_init : (m : Move) (w : World) (new e : Dataset) → ((d : Dataset) → made m d ≡ d) → new.cvd.number ≡ w.next → e.cvd.number < w.next → IsIn (w.sets ++ new ∷ []) e → From m w e
from_init m w new e makes number low there = elim (in_append w.sets (new ∷ []) e there) [
  | inl before ↦ record { was = e; there = before; is = sym (makes e) }
  | inr last ↦
      elim last [
        | inl same ↦ absurd (omega (arith, low, number, ap (λ x. x.cvd.number) same))
        | inr none ↦ absurd none
      ]
]

-- a dataset whose number was given before came from one that was there
pub came_from : (m : Move) (w : World) (e : Dataset) → e.cvd.number < w.next → IsIn (moved m w).sets e → From m w e
came_from (Init name schema rows) w e low there = from_init (Init name schema rows) w (new_set w.next name schema rows) e (λ d. refl) refl low there
came_from (Commit cvd parents message added rows) w e low there = from_change cvd (committed parents message added rows) (Commit cvd parents message added rows) w e (λ d. refl) there
came_from (BeginPlan cvd p q) w e low there = from_change cvd (planned p q) (BeginPlan cvd p q) w e (λ d. refl) there
came_from (Copy cvd) w e low there = from_change cvd copied_more (Copy cvd) w e (λ d. refl) there
came_from (Flip cvd) w e low there = from_change cvd flipped (Flip cvd) w e (λ d. refl) there
came_from (Drop cvd) w e low there = record { was = e; there = (in_filter (λ d. not (numbered cvd d)) w.sets e there).0; is = refl }
came_from Checkpoint w e low there = record { was = e; there = there; is = refl }

-- ---- where it goes

-- it isn't dropped
abbrev pub IsKept : Move → Dataset → Type 0
IsKept (Drop cvd) d = d.cvd.number ≢ cvd
IsKept _ d = Unit {0}

in_mapped : (f : Dataset → Dataset) (sets : List Dataset) (d : Dataset) → IsIn sets d → IsIn (map f sets) (f d)
in_mapped f [] d is = absurd is
in_mapped f (x ∷ sets) d (inl same) = inl (ap f same)
in_mapped f (x ∷ sets) d (inr later) = inr (in_mapped f sets d later)

in_left : (a b : List Dataset) (d : Dataset) → IsIn a d → IsIn (a ++ b) d
in_left [] b d is = absurd is
in_left (x ∷ a) b d (inl same) = inl same
in_left (x ∷ a) b d (inr later) = inr (in_left a b d later)

left_if : (t : Bool) (x d : Dataset) (rest : List Dataset) → (d ≡ x → t ≡ true) → (d ≡ x) ⊎ IsIn rest d → IsIn (if t then x ∷ rest else rest) d
left_if true x d rest passes is = is
left_if false x d rest passes (inl same) = absurd (clash (passes same))
  where
    clash : false ≡ true → ⊥
    clash e = cc
left_if false x d rest passes (inr later) = later

in_left_over : (p : Dataset → Bool) (sets : List Dataset) (d : Dataset) → p d ≡ true → IsIn sets d → IsIn (filter p sets) d
in_left_over p [] d passes is = absurd is
in_left_over p (x ∷ sets) d passes (inl same) = left_if (p x) x d (filter p sets) (λ e. sym (ap p e) ∙ passes) (inl same)
in_left_over p (x ∷ sets) d passes (inr later) = left_if (p x) x d (filter p sets) (λ e. sym (ap p e) ∙ passes) (inr (in_left_over p sets d passes later))

-- a dataset that isn't dropped is there behind the move, as it makes it
pub goes_to : (m : Move) (w : World) (d : Dataset) → IsKept m d → IsIn w.sets d → IsIn (moved m w).sets (made m d)
goes_to (Init name schema rows) w d kept there = in_left w.sets (new_set w.next name schema rows ∷ []) d there
goes_to (Commit cvd parents message added rows) w d kept there = in_mapped (λ x. if numbered cvd x then committed parents message added rows x else x) w.sets d there
goes_to (BeginPlan cvd p q) w d kept there = in_mapped (λ x. if numbered cvd x then planned p q x else x) w.sets d there
goes_to (Copy cvd) w d kept there = in_mapped (λ x. if numbered cvd x then copied_more x else x) w.sets d there
goes_to (Flip cvd) w d kept there = in_mapped (λ x. if numbered cvd x then flipped x else x) w.sets d there
goes_to (Drop cvd) w d kept there = in_left_over (λ x. not (numbered cvd x)) w.sets d (ap not (ne_eqb d.cvd.number cvd kept)) there
goes_to Checkpoint w d kept there = there

-- ---- what holds of each dataset of a number

-- the number was given before, and it holds of each dataset that has it
pub record Each (number : ℕ) (P : Dataset → Type 0) (w : World) : Type 0 where
  pub given : number < w.next
  pub holds : (e : Dataset) → IsIn w.sets e → e.cvd.number ≡ number → P e

-- what each of them was, and is after the move
pub each_moved : (number : ℕ) (P Q : Dataset → Type 0) (m : Move) (w : World) → Each number P w
    → ((e : Dataset) → IsIn w.sets e → e.cvd.number ≡ number → P e → Q (made m e)) → Each number Q (moved m w)
each_moved number P Q m w each step = record {
  given = omega (arith, each.given, next_kept m w);
  holds = λ e there same.
      let from : From m w e = came_from m w e (omega (arith, each.given, same)) there
      in let number_was : from.was.cvd.number ≡ number = sym (made_number m from.was) ∙ sym (ap (λ x. x.cvd.number) from.is) ∙ same
      in subst Q (sym from.is) (step from.was from.there number_was (each.holds from.was from.there number_was));
}

-- a change of the datasets of a number keeps what it keeps of one of them
pub kept_if : (t : Bool) (P : Dataset → Type 0) (f : Dataset → Dataset) (d : Dataset) → (t ≡ true → P (f d)) → P d → P (if t then f d else d)
kept_if true P f d more holds = more refl
kept_if false P f d more holds = holds
