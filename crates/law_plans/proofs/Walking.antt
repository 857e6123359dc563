-- What each move of a run keeps holds from one World of it to a later one.
use Rattle.std.proofs.Common.{◌≡◌, ◌≤◌, ℕ, zero, suc, ◌+◌, ◌-◌, List, [], ◌∷◌, refl, sym, subst, arith}
use Rattle.std.specs.Prelude.{Option, Some, None, slice_get}
use Rattle.ov_model.specs.Course.{Item, Makes, Says, moves_of, world_at}
use Rattle.ov_model.specs.Moves.{Move, moved}
use Rattle.ov_model.specs.World.{World}
use Rattle.ov_model.proofs.Courses.{at_next}
use Rattle.law_partitions.specs.Courses.{AllDue, HasPartitions, IsBegun, IsDue}
use Rattle.law_partitions.specs.Sound.{IsSound}
use Rattle.law_partitions.proofs.CourseMoves.{course_due, due_at}
use Rattle.law_partitions.proofs.OldMoves.{moved_old}
use Rattle.law_partitions.proofs.PlanMoves.{moved_planned}
use Rattle.law_partitions.proofs.SoundMoves.{moved_sound}
use Rattle.law_plans.specs.Runs.{Between, HasPlans, IsRun}

pub begun_of : (w : World) → IsSound w → IsBegun w
begun_of w sound = record { numbered = sound.numbered; begun = sound.begun }

pub partitions_of : (w : World) → IsSound w → HasPartitions w
partitions_of w sound = record { begun = begun_of w sound; placed = sound.placed; held = sound.held }

pub plans_kept : (m : Move) (w : World) → IsDue m w → HasPlans w → HasPlans (moved m w)
plans_kept m w due has = record {
  sound = moved_sound m w due.may has.sound;
  old_or_new = moved_old m w due (partitions_of w has.sound) has.old_or_new;
  planned = moved_planned m w due (partitions_of w has.sound) has.old_or_new has.planned;
}

pub run_due : (w : World) (items : List Item) → IsRun w items → AllDue w items
run_due w items run =
    subst (AllDue w) (sym run.are) (course_due run.forms run.steps w run.session run.lines run.space run.names (begun_of w run.plans.sound))

pub plans_at : (w : World) (items : List Item) (k : ℕ) → IsRun w items → HasPlans (world_at w items k)
plans_at w items k run = due_at HasPlans plans_kept w items k (run_due w items run) run.plans

some_same : (a b : Move) → Some a ≡ Some b → a ≡ b
some_same a b e = cc

due_of : (w : World) (items : List Item) (k : ℕ) (m : Move) → AllDue w items → slice_get (moves_of items) k ≡ Some m → IsDue m (world_at w items k)
due_of w [] k m due e = cc
due_of w (Makes n ∷ items) zero m due e = subst (λ x. IsDue x w) (some_same n m e) due.0
due_of w (Makes n ∷ items) (suc k) m due e = due_of (moved n w) items k m due.1 e
due_of w (Says reply ∷ items) zero m due e = due_of w items zero m due e
due_of w (Says reply ∷ items) (suc k) m due e = due_of w items (suc k) m due e

pub run_due_of : (w : World) (items : List Item) (k : ℕ) (m : Move) → IsRun w items → slice_get (moves_of items) k ≡ Some m → IsDue m (world_at w items k)
run_due_of w items k m run e = due_of w items k m (run_due w items run) e

-- behind the last move the World stays
past_end : (w : World) (items : List Item) (k : ℕ) → slice_get (moves_of items) k ≡ None → world_at w items (suc k) ≡ world_at w items k
past_end w [] zero e = refl
past_end w [] (suc k) e = refl
past_end w (Makes n ∷ items) zero e = cc
past_end w (Makes n ∷ items) (suc k) e = past_end (moved n w) items k e
past_end w (Says reply ∷ items) zero e = past_end w items zero e
past_end w (Says reply ∷ items) (suc k) e = past_end w items (suc k) e

module _ (P : World → Type 0) (Q : Move → Type 0) (w : World) (items : List Item) (run : IsRun w items) (step : (m : Move) (v : World) → IsDue m v → HasPlans v → Q m → P v → P (moved m v)) where
  next_by : (k : ℕ) (found : Option Move) → slice_get (moves_of items) k ≡ found → ((m : Move) → slice_get (moves_of items) k ≡ Some m → Q m) → P (world_at w items k) → P (world_at w items (k + 1))
  next_by k None e is holds =
      let one : suc k ≡ k + 1 = omega arith
      in subst (λ n. P (world_at w items n)) one (subst P (sym (past_end w items k e)) holds)
  next_by k (Some m) e is holds =
      subst P (sym (at_next w items k m e)) (step m (world_at w items k) (run_due_of w items k m run e) (plans_at w items k run) (is m e) holds)

  far : (from n : ℕ) → Between items from (from + n) Q → P (world_at w items from) → P (world_at w items (from + n))
  far from zero are holds = (let none : from ≡ from + 0 = omega arith in subst (λ k. P (world_at w items k)) none holds)
  far from (suc n) are holds =
      let last : from + n + 1 ≡ from + suc n = omega arith
      in subst (λ k. P (world_at w items k)) last
      (next_by (from + n) (slice_get (moves_of items) (from + n)) refl (λ m e. are (from + n) m (omega arith) (omega arith) e)
      (far from n (λ j m low high e. are j m low (omega (arith, high)) e) holds))

  -- where all moves from one World to a later one are such moves
  pub walk : (from to : ℕ) → from ≤ to → Between items from to Q → P (world_at w items from) → P (world_at w items to)
  walk from to up are holds =
      let reach : from + (to - from) ≡ to = omega (arith, up)
      in subst (λ k. P (world_at w items k)) reach (far from (to - from) (λ j m low high e. are j m low (omega (arith, high, reach)) e) holds)
