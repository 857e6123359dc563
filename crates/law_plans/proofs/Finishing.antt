-- The split that a finished plan leaves, and that it stays.
use Rattle.std.proofs.Common.{◌≡◌, ◌≤◌, ◌<◌, ℕ, ◌+◌, ◌*◌, ◌^◌, true, ◌==◌, List, [], ◌∷◌, map, length, refl, sym, ◌∙◌, ap, subst, inl, inr, arith}
use Rattle.std.specs.Prelude.{◌≢◌, None}
use Rattle.std.specs.List.{sum}
use Rattle.std.proofs.lemmas.Bool.{cond-true, eq-eqb, eqb-true}
use Rattle.ov_graph.specs.Splits as splits
use Rattle.ov_graph.specs.Trees.{all_records, all_members}
use Rattle.ov_model.specs.Course.{Item, world_at}
use Rattle.ov_model.specs.Lists.{IsIn}
use Rattle.ov_model.specs.Moves.{Move, Init, Commit, BeginPlan, Copy, Flip, Drop, Checkpoint, moved, numbered, committed}
use Rattle.ov_model.specs.Plans.{planned, copied_more, flipped, depth_at, nodes_of_set, parts_at, sizes_of}
use Rattle.ov_model.specs.World.{Plan, Dataset, World, copied_records, cost, held, stored}
use Rattle.ov_model.proofs.Courses.{at_next}
use Rattle.law_partitions.specs.OldOrNew.{IsOldOrNew}
use Rattle.law_partitions.specs.Pieces.{ArePieces, HasPieces}
use Rattle.law_partitions.specs.PlanBounds.{IsBounded}
use Rattle.law_partitions.specs.PlanEnds.{AreByNumber, HasAllVersions, IsPlanned, IsSplit, versions_of}
use Rattle.law_partitions.proofs.CourseWhole.{tight_exact}
use Rattle.law_partitions.proofs.OldTight.{last_tight, old_in}
use Rattle.law_partitions.proofs.PlanBounds.{split_bounded}
use Rattle.law_partitions.proofs.PlanMoves.{finished, planned_in}
use Rattle.law_partitions.specs.OldOrNew.{AllTight}
use Rattle.law_plans.specs.Ends.{EndsPlan, LeavesParts}
use Rattle.law_plans.specs.Leaves.{IsFinished, StaysSplit}
use Rattle.law_plans.specs.Runs.{Between, HasPlans, IsRun}
use Rattle.law_plans.proofs.Datasets.{IsKept, goes_to, kept_if, made, made_number}
use Rattle.law_plans.proofs.Walking.{plans_at, walk}

pub pieces_in : (sets : List Dataset) (d : Dataset) → ArePieces sets → IsIn sets d → HasPieces d
pieces_in [] d are is = absurd is
pieces_in (x ∷ sets) d are (inl same) = subst HasPieces (sym same) are.0
pieces_in (x ∷ sets) d are (inr later) = pieces_in sets d are.1 later

-- ---- behind the last flip

pub flip_made : (d : Dataset) → made (Flip d.cvd.number) d ≡ flipped d
flip_made d = cond-true (d.cvd.number == d.cvd.number) (flipped d) d (eq-eqb d.cvd.number d.cvd.number refl)

module _ (w : World) (items : List Item) (k : ℕ) (d : Dataset) (plan : Plan) (run : IsRun w items) (ends : EndsPlan w items k d plan) where
  abbrev here : World
  here = world_at w items k

  pub old_here : IsOldOrNew d
  old_here = old_in here.sets d (plans_at w items k run).old_or_new ends.there

  pub flipped_there : IsIn (world_at w items (k + 1)).sets (flipped d)
  flipped_there =
      subst (λ v. IsIn v.sets (flipped d)) (sym (at_next w items k (Flip d.cvd.number) ends.flips))
      (subst (IsIn (moved (Flip d.cvd.number) here).sets) (flip_made d) (goes_to (Flip d.cvd.number) here d tt ends.there))

  pub ends_tight : AllTight (flipped d).parts
  ends_tight = last_tight d old_here ends.last

  ends_split : HasAllVersions d plan → IsSplit (flipped d) plan.p plan.q
  ends_split all = finished d plan old_here (planned_in here.sets d (plans_at w items k run).planned ends.there) ends.runs all ends.last

  pub ends_finished : HasAllVersions d plan → IsFinished (world_at w items (k + 1)) (flipped d) plan.p plan.q
  ends_finished all =
      let after : World = world_at w items (k + 1)
      in let has : HasPlans after = plans_at w items (k + 1) run
      in let planned_is : IsPlanned (flipped d) = planned_in after.sets (flipped d) has.planned flipped_there
      in record {
        there = flipped_there;
        idle = ends.last;
        split = ends_split all;
        bounds =
            split_bounded (flipped d) plan.p plan.q (old_in after.sets (flipped d) has.old_or_new flipped_there) planned_is (ends_split all) ends.last
            (tight_exact (flipped d) planned_is (pieces_in after.sets (flipped d) has.sound.pieces flipped_there) ends_tight);
      }

-- ---- it stays so

-- what the split and its bounds are of
record Same (a b : Dataset) : Type 0 where
  cvd : b.cvd ≡ a.cvd
  parts : b.parts ≡ a.parts
  next : b.next_part ≡ a.next_part

same_refl : (a : Dataset) → Same a a
same_refl a = record { cvd = refl; parts = refl; next = refl }

same_both : (a b c : Dataset) → Same a b → Same b c → Same a c
same_both a b c one two = record { cvd = two.cvd ∙ one.cvd; parts = two.parts ∙ one.parts; next = two.next ∙ one.next }

off_number : (number cvd : ℕ) (d : Dataset) → d.cvd.number ≡ number → cvd ≢ number → numbered cvd d ≡ true → ⊥
off_number number cvd d same other t = other (sym (eqb-true d.cvd.number cvd t) ∙ same)

made_same : (number : ℕ) (m : Move) (d : Dataset) → d.cvd.number ≡ number → LeavesParts number m → Same d (made m d)
made_same number (Init name schema rows) d is leaves = same_refl d
made_same number (Commit cvd parents message added rows) d is leaves =
    kept_if (numbered cvd d) (Same d) (committed parents message added rows) d (λ t. absurd (off_number number cvd d is leaves t)) (same_refl d)
made_same number (BeginPlan cvd p q) d is leaves = kept_if (numbered cvd d) (Same d) (planned p q) d (λ t. record { cvd = refl; parts = refl; next = refl }) (same_refl d)
made_same number (Copy cvd) d is leaves = kept_if (numbered cvd d) (Same d) copied_more d (λ t. record { cvd = refl; parts = refl; next = refl }) (same_refl d)
made_same number (Flip cvd) d is leaves = kept_if (numbered cvd d) (Same d) flipped d (λ t. absurd (off_number number cvd d is leaves t)) (same_refl d)
made_same number (Drop cvd) d is leaves = same_refl d
made_same number Checkpoint d is leaves = same_refl d

leaves_kept : (number : ℕ) (m : Move) (d : Dataset) → d.cvd.number ≡ number → LeavesParts number m → IsKept m d
leaves_kept number (Drop cvd) d is leaves = λ same. leaves (sym same ∙ is)
leaves_kept number (Init name schema rows) d is leaves = tt
leaves_kept number (Commit cvd parents message added rows) d is leaves = tt
leaves_kept number (BeginPlan cvd p q) d is leaves = tt
leaves_kept number (Copy cvd) d is leaves = tt
leaves_kept number (Flip cvd) d is leaves = tt
leaves_kept number Checkpoint d is leaves = tt

-- a dataset that is the same is there
record Stays (d : Dataset) (v : World) : Type 0 where
  set : Dataset
  there : IsIn v.sets set
  same : Same d set

stays_moved : (d : Dataset) (m : Move) (v : World) → LeavesParts d.cvd.number m → Stays d v → Stays d (moved m v)
stays_moved d m v leaves stays =
    let number : stays.set.cvd.number ≡ d.cvd.number = ap (λ cvd. cvd.number) stays.same.cvd
    in record {
      set = made m stays.set;
      there = goes_to m v stays.set (leaves_kept d.cvd.number m stays.set number leaves) stays.there;
      same = same_both d stays.set (made m stays.set) stays.same (made_same d.cvd.number m stays.set number leaves);
    }

split_same : (a b : Dataset) (p q : ℕ) → Same a b → IsSplit a p q → IsSplit b p q
split_same a b p q same split = record {
  from_one = split.from_one;
  up_to_q = split.up_to_q;
  by_number = subst (λ n. AreByNumber 1 n b.parts) (sym same.next) (subst (λ parts. AreByNumber 1 a.next_part parts) (sym same.parts) split.by_number);
  are = ap versions_of same.parts ∙ split.are ∙ ap (λ cvd. parts_at (record a { cvd = cvd }) p q) (sym same.cvd);
  tight = λ part there. split.tight part (subst (λ parts. IsIn parts part) same.parts there);
}

bounds_same : (a b : Dataset) (p q : ℕ) → b.cvd ≡ a.cvd → stored b ≡ stored a → cost b ≡ cost a → IsBounded a p q → IsBounded b p q
bounds_same a b p q same stored_same cost_same is = record {
  stored_is =
      stored_same ∙ is.stored_is
      ∙ ap (λ cvd. splits.stored (sizes_of (record a { cvd = cvd }) (parts_at (record a { cvd = cvd }) p q))) (sym same);
  cost_is =
      cost_same ∙ is.cost_is
      ∙ ap (λ cvd. splits.cost (sizes_of (record a { cvd = cvd }) (parts_at (record a { cvd = cvd }) p q))) (sym same);
  stored_bound =
      subst (λ cvd. q ^ depth_at (record a { cvd = cvd }) p q * stored b ≤ (p + q) ^ depth_at (record a { cvd = cvd }) p q * all_records (nodes_of_set (record a { cvd = cvd }))) (sym same)
      (subst (λ n. q ^ depth_at a p q * n ≤ (p + q) ^ depth_at a p q * all_records (nodes_of_set a)) (sym stored_same) is.stored_bound);
  cost_bound =
      subst (λ cvd. p * cost b ≤ q * all_members (nodes_of_set (record a { cvd = cvd }))) (sym same)
      (subst (λ n. p * n ≤ q * all_members (nodes_of_set a)) (sym cost_same) is.cost_bound);
}

pub stored_in : (d : Dataset) → copied_records d.plan ≡ 0 → stored d ≡ sum (map (λ part. length (held part)) d.parts)
stored_in d none = omega (arith, none)

same_bounds : (a b : Dataset) (p q : ℕ) → Same a b → a.plan ≡ None → copied_records b.plan ≡ 0 → IsBounded a p q → IsBounded b p q
same_bounds a b p q same idle none is =
    bounds_same a b p q same.cvd
    (stored_in b none ∙ ap (λ parts. sum (map (λ part. length (held part)) parts)) same.parts ∙ sym (stored_in a (ap copied_records idle)))
    (ap (λ parts. sum (map (λ part. length part.versions * length (held part)) parts)) same.parts) is

flipped_number : (d : Dataset) → (flipped d).cvd.number ≡ d.cvd.number
flipped_number d = sym (ap (λ x. x.cvd.number) (flip_made d)) ∙ made_number (Flip d.cvd.number) d

pub split_stays : (w : World) (items : List Item) (k j : ℕ) (d : Dataset) (plan : Plan) → IsRun w items → EndsPlan w items k d plan → HasAllVersions d plan
    → k < j → Between items (k + 1) j (LeavesParts d.cvd.number) → StaysSplit (world_at w items j) (flipped d) plan.p plan.q
split_stays w items k j d plan run ends all later leaves =
    let done : IsFinished (world_at w items (k + 1)) (flipped d) plan.p plan.q = ends_finished w items k d plan run ends all
    in let stays : Stays (flipped d) (world_at w items j) =
    walk (Stays (flipped d)) (LeavesParts (flipped d).cvd.number) w items run (λ m v due has leaves stays. stays_moved (flipped d) m v leaves stays)
    (k + 1) j (omega (arith, later)) (subst (λ n. Between items (k + 1) j (LeavesParts n)) (sym (flipped_number d)) leaves)
    (record { set = flipped d; there = done.there; same = same_refl (flipped d) })
    in record {
      set = stays.set;
      there = stays.there;
      cvd = stays.same.cvd;
      parts = stays.same.parts;
      split = split_same (flipped d) stays.set plan.p plan.q stays.same done.split;
      bounds = λ none. same_bounds (flipped d) stays.set plan.p plan.q stays.same done.idle none done.bounds;
    }

-- ---- a split that stands when a run begins

pub finished_at : (w : World) (d : Dataset) (p q : ℕ) → HasPlans w → IsIn w.sets d → IsSplit d p q → d.plan ≡ None → IsFinished w d p q
finished_at w d p q has there split idle =
    let planned_is : IsPlanned d = planned_in w.sets d has.planned there
    in record {
      there = there;
      idle = idle;
      split = split;
      bounds =
          split_bounded d p q (old_in w.sets d has.old_or_new there) planned_is split idle
          (tight_exact d planned_is (pieces_in w.sets d has.sound.pieces there) split.tight);
    }

pub stays_from : (w : World) (items : List Item) (j : ℕ) (d : Dataset) (p q : ℕ) → IsRun w items → IsFinished w d p q → Between items 0 j (LeavesParts d.cvd.number)
    → StaysSplit (world_at w items j) d p q
stays_from w items j d p q run done leaves =
    let stays : Stays d (world_at w items j) =
    walk (Stays d) (LeavesParts d.cvd.number) w items run (λ m v due has leaves stays. stays_moved d m v leaves stays)
    0 j (omega arith) leaves (record { set = d; there = done.there; same = same_refl d })
    in record {
      set = stays.set;
      there = stays.there;
      cvd = stays.same.cvd;
      parts = stays.same.parts;
      split = split_same d stays.set p q stays.same done.split;
      bounds = λ none. same_bounds d stays.set p q stays.same done.idle none done.bounds;
    }

pub split_later : (w : World) (items : List Item) (j : ℕ) (d : Dataset) (p q : ℕ) → IsRun w items → IsIn w.sets d → IsSplit d p q → d.plan ≡ None
    → Between items 0 j (LeavesParts d.cvd.number) → StaysSplit (world_at w items j) d p q
split_later w items j d p q run there split idle leaves = stays_from w items j d p q run (finished_at w d p q run.plans there split idle) leaves

pub none_copied : (d : Dataset) → d.plan ≡ None → copied_records d.plan ≡ 0
none_copied d idle = ap copied_records idle
