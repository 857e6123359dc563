-- From a plan's beginning on: its targets stay, and its dataset is as it was or has a version more.
use Rattle.std.proofs.Common.{◌≡◌, ◌≤◌, ◌<◌, ◌⊎◌, ℕ, ◌+◌, Bool, true, false, ◌==◌, List, [], ◌∷◌, length, refl, sym, ◌∙◌, ap, subst, inl, inr, arith}
use Rattle.std.specs.Prelude.{◌≢◌, nat_lt, if◌then◌else◌, Option, Some, None, slice_get}
use Rattle.std.proofs.lemmas.Bool.{cond-true, eq-eqb, eqb-true}
use Rattle.std.proofs.lemmas.List.{length-append}
use Rattle.ov_value.specs.declared.column.Column.{Column}
use Rattle.ov_model.specs.Book.{Row}
use Rattle.ov_model.specs.Course.{Item, moves_of, world_at}
use Rattle.ov_model.specs.Moves.{Move, Init, Commit, BeginPlan, Copy, Flip, Drop, Checkpoint, numbered, committed, version_of, wide, wide_plan}
use Rattle.ov_model.specs.Plans.{copied_for, copied_more, flipped, flipped_by, parts_at, planned, targets_of}
use Rattle.ov_model.specs.World.{Plan, Dataset, World}
use Rattle.ov_model.proofs.Counting.{range_versions}
use Rattle.ov_model.proofs.Courses.{at_next}
use Rattle.law_partitions.specs.PlanEnds.{HasAllIn, HasAllVersions, PlanHasAll}
use Rattle.law_partitions.specs.Pieces.{target_times}
use Rattle.law_partitions.proofs.CourseMoves.{wide_long}
use Rattle.law_partitions.proofs.CourseNumbers.{one_dataset}
use Rattle.law_partitions.proofs.PlanMoves.{begun_has_all, copied_has_all, flipped_has_all}
use Rattle.law_partitions.proofs.PlanParts.{parts_times, targets_times}
use Rattle.law_plans.specs.Ends.{BeganAt, BeginsNoPlan, BringsNoVersion, EndsPlan}
use Rattle.law_plans.specs.Runs.{Between, IsRun}
use Rattle.law_plans.specs.Told.{IsAnswered}
use Rattle.law_plans.proofs.Answering.{answered}
use Rattle.law_plans.proofs.Datasets.{Each, below_next, each_moved, kept_if, made}
use Rattle.law_plans.proofs.Finishing.{old_here}
use Rattle.law_plans.proofs.Walking.{plans_at, walk}

off_number : (number cvd : ℕ) (d : Dataset) → d.cvd.number ≡ number → cvd ≢ number → numbered cvd d ≡ true → ⊥
off_number number cvd d same other t = other (sym (eqb-true d.cvd.number cvd t) ∙ same)

-- ---- the plan of a beginning

-- it is at p / q, and its targets are those with which it began in this dataset
abbrev pub IsPlanOf : Dataset → ℕ → ℕ → Option Plan → Type 0
IsPlanOf begun p q None = Unit {0}
IsPlanOf begun p q (Some plan) = (plan.p ≡ p) × (plan.q ≡ q) × (plan.targets ≡ targets_of begun (parts_at begun p q))

wide_plan_of : (begun : Dataset) (p q n : ℕ) (plan : Option Plan) → IsPlanOf begun p q plan → IsPlanOf begun p q (wide_plan n plan)
wide_plan_of begun p q n None is = tt
wide_plan_of begun p q n (Some plan) is = is

wide_of : (begun : Dataset) (p q : ℕ) (added : List Column) (d : Dataset) → IsPlanOf begun p q d.plan → IsPlanOf begun p q (wide added d).plan
wide_of begun p q [] d is = is
wide_of begun p q (column ∷ added) d is = wide_plan_of begun p q (length (column ∷ added)) d.plan is

copied_of : (begun : Dataset) (p q : ℕ) (d : Dataset) (plan : Option Plan) → IsPlanOf begun p q plan → IsPlanOf begun p q (copied_for d plan)
copied_of begun p q d None is = tt
copied_of begun p q d (Some plan) is = is

next_of : (t : Bool) (begun : Dataset) (p q : ℕ) (plan : Plan) → IsPlanOf begun p q (Some plan) → IsPlanOf begun p q (if t then Some (record plan { at = plan.at + 1; copied = [] }) else None)
next_of true begun p q plan is = is
next_of false begun p q plan is = tt

flipped_of : (begun : Dataset) (p q : ℕ) (d : Dataset) (plan : Option Plan) → d.plan ≡ plan → IsPlanOf begun p q plan → IsPlanOf begun p q (flipped_by d plan).plan
flipped_of begun p q d None e is = subst (IsPlanOf begun p q) (sym e) is
flipped_of begun p q d (Some plan) e is = next_of (nat_lt (plan.at + 1) (length plan.targets)) begun p q plan is

-- ---- its dataset

pub flipped_cvd : (d : Dataset) (plan : Option Plan) → (flipped_by d plan).cvd ≡ d.cvd
flipped_cvd d None = refl
flipped_cvd d (Some plan) = refl

committed_long : (parents message : List ℕ) (added : List Column) (rows : List Row) (d : Dataset) → length (committed parents message added rows d).cvd.versions ≡ length d.cvd.versions + 1
committed_long parents message added rows d = omega (arith, length-append (wide added d).cvd.versions (version_of parents message rows ∷ []), wide_long added d)

-- it is as it was, or longer
abbrev pub IsCvdOf : Dataset → Dataset → Type 0
IsCvdOf begun d = (d.cvd ≡ begun.cvd) ⊎ (length begun.cvd.versions < length d.cvd.versions)

at_least : (begun d : Dataset) → IsCvdOf begun d → length begun.cvd.versions ≤ length d.cvd.versions
at_least begun d (inl same) = omega (arith, ap (λ cvd. length cvd.versions) same)
at_least begun d (inr longer) = omega (arith, longer)

pub record IsFrom (begun : Dataset) (p q : ℕ) (d : Dataset) : Type 0 where
  pub plan : IsPlanOf begun p q d.plan
  pub cvd : IsCvdOf begun d

committed_from : (begun : Dataset) (p q : ℕ) (parents message : List ℕ) (added : List Column) (rows : List Row) (d : Dataset) → IsFrom begun p q d → IsFrom begun p q (committed parents message added rows d)
committed_from begun p q parents message added rows d is = record {
  plan = wide_of begun p q added d is.plan;
  cvd = inr (omega (arith, committed_long parents message added rows d, at_least begun d is.cvd));
}

flipped_from : (begun : Dataset) (p q : ℕ) (d : Dataset) → IsFrom begun p q d → IsFrom begun p q (flipped d)
flipped_from begun p q d is = record {
  plan = flipped_of begun p q d d.plan refl is.plan;
  cvd = subst (λ cvd. (cvd ≡ begun.cvd) ⊎ (length begun.cvd.versions < length cvd.versions)) (sym (flipped_cvd d d.plan)) is.cvd;
}

from_made : (begun : Dataset) (p q number : ℕ) (m : Move) (d : Dataset) → d.cvd.number ≡ number → BeginsNoPlan number m → IsFrom begun p q d → IsFrom begun p q (made m d)
from_made begun p q number (Init name schema rows) d same begins is = is
from_made begun p q number (Commit cvd parents message added rows) d same begins is =
    kept_if (numbered cvd d) (IsFrom begun p q) (committed parents message added rows) d (λ t. committed_from begun p q parents message added rows d is) is
from_made begun p q number (BeginPlan cvd r s) d same begins is =
    kept_if (numbered cvd d) (IsFrom begun p q) (planned r s) d (λ t. absurd (off_number number cvd d same begins t)) is
from_made begun p q number (Copy cvd) d same begins is =
    kept_if (numbered cvd d) (IsFrom begun p q) copied_more d (λ t. record { plan = copied_of begun p q d d.plan is.plan; cvd = is.cvd }) is
from_made begun p q number (Flip cvd) d same begins is = kept_if (numbered cvd d) (IsFrom begun p q) flipped d (λ t. flipped_from begun p q d is) is
from_made begun p q number (Drop cvd) d same begins is = is
from_made begun p q number Checkpoint d same begins is = is

-- ---- a plan that has all versions

has_all_made : (number : ℕ) (m : Move) (d : Dataset) → d.cvd.number ≡ number → BeginsNoPlan number m → BringsNoVersion number m → PlanHasAll d → PlanHasAll (made m d)
has_all_made number (Init name schema rows) d same begins brings all = all
has_all_made number (Commit cvd parents message added rows) d same begins brings all =
    kept_if (numbered cvd d) PlanHasAll (committed parents message added rows) d (λ t. absurd (off_number number cvd d same brings t)) all
has_all_made number (BeginPlan cvd p q) d same begins brings all = kept_if (numbered cvd d) PlanHasAll (planned p q) d (λ t. begun_has_all p q d) all
has_all_made number (Copy cvd) d same begins brings all = kept_if (numbered cvd d) PlanHasAll copied_more d (λ t. copied_has_all d all) all
has_all_made number (Flip cvd) d same begins brings all = kept_if (numbered cvd d) PlanHasAll flipped d (λ t. flipped_has_all d all) all
has_all_made number (Drop cvd) d same begins brings all = all
has_all_made number Checkpoint d same begins brings all = all

-- ---- a dataset that is longer

abbrev IsLonger : Dataset → Dataset → Type 0
IsLonger begun d = length begun.cvd.versions < length d.cvd.versions

longer_made : (begun : Dataset) (m : Move) (d : Dataset) → IsLonger begun d → IsLonger begun (made m d)
longer_made begun (Init name schema rows) d is = is
longer_made begun (Commit cvd parents message added rows) d is =
    kept_if (numbered cvd d) (IsLonger begun) (committed parents message added rows) d (λ t. omega (arith, is, committed_long parents message added rows d)) is
longer_made begun (BeginPlan cvd p q) d is = kept_if (numbered cvd d) (IsLonger begun) (planned p q) d (λ t. is) is
longer_made begun (Copy cvd) d is = kept_if (numbered cvd d) (IsLonger begun) copied_more d (λ t. is) is
longer_made begun (Flip cvd) d is =
    kept_if (numbered cvd d) (IsLonger begun) flipped d (λ t. subst (λ cvd. length begun.cvd.versions < length cvd.versions) (sym (flipped_cvd d d.plan)) is) is
longer_made begun (Drop cvd) d is = is
longer_made begun Checkpoint d is = is

-- ---- from the beginning to the end

planned_made : (number p q : ℕ) (d : Dataset) → d.cvd.number ≡ number → made (BeginPlan number p q) d ≡ planned p q d
planned_made number p q d same = cond-true (d.cvd.number == number) (planned p q d) d (eq-eqb d.cvd.number number same)

module _ (w : World) (items : List Item) (b number p q : ℕ) (run : IsRun w items) (begins : slice_get (moves_of items) b ≡ Some (BeginPlan number p q)) where
  pub answer : IsAnswered w items b number p q
  answer = answered w items b number p q run begins

  abbrev at_begin : World
  at_begin = world_at w items b

  -- it is the only dataset of its number
  all_begun : Each number (λ e. e ≡ answer.set) at_begin
  all_begun = record {
    given = omega (arith, answer.numbered, below_next at_begin answer.set (plans_at w items b run).sound.numbered answer.there);
    holds = λ e there same. one_dataset at_begin.sets answer.set e ((plans_at w items b run).sound.numbered.once answer.set.cvd.number) answer.there there (same ∙ sym answer.numbered);
  }

  behind : (P : Dataset → Type 0) → ((e : Dataset) → e ≡ answer.set → P (planned p q e)) → Each number P (world_at w items (b + 1))
  behind P begun =
      subst (Each number P) (sym (at_next w items b (BeginPlan number p q) begins))
      (each_moved number (λ e. e ≡ answer.set) P (BeginPlan number p q) at_begin all_begun (λ e there same is. subst P (sym (planned_made number p q e same)) (begun e is)))

  all_from : (k : ℕ) → b < k → Between items (b + 1) k (BeginsNoPlan number) → Each number (IsFrom answer.set p q) (world_at w items k)
  all_from k before only =
      walk (Each number (IsFrom answer.set p q)) (BeginsNoPlan number) w items run
      (λ m v due has quiet each. each_moved number (IsFrom answer.set p q) (IsFrom answer.set p q) m v each (λ e there same is. from_made answer.set p q number m e same quiet is))
      (b + 1) k (omega (arith, before)) only
      (behind (IsFrom answer.set p q) (λ e same. subst (λ x. IsFrom answer.set p q (planned p q x)) (sym same) (record { plan = (refl, refl, refl); cvd = inl refl })))

  all_have_all : (k : ℕ) → b < k → Between items (b + 1) k (BeginsNoPlan number) → Between items (b + 1) k (BringsNoVersion number) → Each number PlanHasAll (world_at w items k)
  all_have_all k before only brings =
      walk (Each number PlanHasAll) (λ m. BeginsNoPlan number m × BringsNoVersion number m) w items run
      (λ m v due has quiet each. each_moved number PlanHasAll PlanHasAll m v each (λ e there same is. has_all_made number m e same quiet.0 quiet.1 is))
      (b + 1) k (omega (arith, before)) (λ j m low high e. (only j m low high e, brings j m low high e))
      (behind PlanHasAll (λ e same. begun_has_all p q e))

  -- a commit on the way
  all_longer : (j k : ℕ) (parents message : List ℕ) (added : List Column) (rows : List Row) → b < j → j < k → Between items (b + 1) k (BeginsNoPlan number)
      → slice_get (moves_of items) j ≡ Some (Commit number parents message added rows) → Each number (IsLonger answer.set) (world_at w items k)
  all_longer j k parents message added rows before later only commits =
      let m : Move = Commit number parents message added rows
      in let long : (e : Dataset) → e.cvd.number ≡ number → IsFrom answer.set p q e → IsLonger answer.set (made m e) =
      λ e same is.
      subst (IsLonger answer.set) (sym (cond-true (numbered number e) (committed parents message added rows e) e (eq-eqb e.cvd.number number same)))
      (omega (arith, at_least answer.set e is.cvd, committed_long parents message added rows e))
      in walk (Each number (IsLonger answer.set)) (λ m. Unit {0}) w items run
      (λ m v due has quiet each. each_moved number (IsLonger answer.set) (IsLonger answer.set) m v each (λ e there same is. longer_made answer.set m e is))
      (j + 1) k (omega (arith, later)) (λ i m low high e. tt)
      (subst (Each number (IsLonger answer.set)) (sym (at_next w items j m commits))
      (each_moved number (IsFrom answer.set p q) (IsLonger answer.set) m (world_at w items j) (all_from j before (λ i n low high e. only i n low (omega (arith, high, later)) e))
      (λ e there same is. long e same is)))

module _ (w : World) (items : List Item) (b k p q : ℕ) (d : Dataset) (plan : Plan) (run : IsRun w items) (ends : EndsPlan w items k d plan) (began : BeganAt items b k d.cvd.number p q) where
  abbrev pub reply : IsAnswered w items b d.cvd.number p q
  reply = answer w items b d.cvd.number p q run began.begins

  ended_from : IsFrom reply.set p q d
  ended_from = (all_from w items b d.cvd.number p q run began.begins k began.before began.only).holds d ends.there refl

  pub plan_of : IsPlanOf reply.set p q (Some plan)
  plan_of = subst (IsPlanOf reply.set p q) ends.runs ended_from.plan

  pub threshold_is : (plan.p ≡ p) × (plan.q ≡ q)
  threshold_is = (plan_of.0, plan_of.1)

  -- all versions are those that were there when the plan began
  no_longer : HasAllVersions d plan → length d.cvd.versions ≤ length reply.set.cvd.versions
  no_longer all =
      let last : ℕ = length d.cvd.versions
      in let some : 1 ≤ target_times (targets_of reply.set (parts_at reply.set p q)) last =
      subst (λ ts. 1 ≤ target_times ts last) plan_of.2 (all last (omega (arith, (old_here w items k d plan run ends).begun)) (omega arith))
      in (range_versions (length reply.set.cvd.versions)).there last
      (omega (arith, some, targets_times reply.set (parts_at reply.set p q) last, parts_times reply.set p q last))

  pub cvd_is : HasAllVersions d plan → d.cvd ≡ reply.set.cvd
  cvd_is all = by ended_from.cvd
    where
      by : IsCvdOf reply.set d → d.cvd ≡ reply.set.cvd
      by (inl same) = same
      by (inr longer) = absurd (omega (arith, longer, no_longer all))

  pub has_all : Between items (b + 1) k (BringsNoVersion d.cvd.number) → HasAllVersions d plan
  has_all brings = subst (HasAllIn d) ends.runs ((all_have_all w items b d.cvd.number p q run began.begins k began.before began.only brings).holds d ends.there refl)

  is_no_commit : HasAllVersions d plan → (j : ℕ) (m : Move) → b + 1 ≤ j → j < k → slice_get (moves_of items) j ≡ Some m → BringsNoVersion d.cvd.number m
  is_no_commit all j (Init name schema rows) low high e = tt
  is_no_commit all j (Commit cvd parents message added rows) low high e =
      λ same.
      let commits : slice_get (moves_of items) j ≡ Some (Commit d.cvd.number parents message added rows) = e ∙ ap (λ n. Some (Commit n parents message added rows)) same
      in let longer = (all_longer w items b d.cvd.number p q run began.begins j k parents message added rows (omega (arith, low)) high began.only commits).holds d ends.there refl
      in absurd (omega (arith, longer, no_longer all))
  is_no_commit all j (BeginPlan cvd r s) low high e = tt
  is_no_commit all j (Copy cvd) low high e = tt
  is_no_commit all j (Flip cvd) low high e = tt
  is_no_commit all j (Drop cvd) low high e = tt
  is_no_commit all j Checkpoint low high e = tt

  pub no_commit : HasAllVersions d plan → Between items (b + 1) k (BringsNoVersion d.cvd.number)
  no_commit all = is_no_commit all
