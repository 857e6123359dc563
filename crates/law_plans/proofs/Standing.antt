-- What stands when a plan has ended is what its optimize told.
use Rattle.std.proofs.Common.{◌≡◌, ℕ, ◌+◌, List, length, sym, ◌∙◌, ap, subst}
use Rattle.std.specs.Prelude.{Some}
use Rattle.std.proofs.lemmas.List.{length-map}
use Rattle.ov_graph.specs.Trees.{all_records, all_members}
use Rattle.ov_model.specs.Course.{Item, world_at}
use Rattle.ov_model.specs.Plans.{depth_at, flipped, nodes_of_set, parts_at}
use Rattle.ov_model.specs.World.{Plan, Dataset, World}
use Rattle.law_partitions.specs.PlanBounds.{IsBounded}
use Rattle.law_partitions.specs.PlanEnds.{HasAllVersions, IsSplit}
use Rattle.law_plans.specs.Ends.{BeganAt, EndsPlan}
use Rattle.law_plans.specs.Leaves.{IsFinished}
use Rattle.law_plans.specs.Runs.{IsRun}
use Rattle.law_plans.specs.Told.{IsAnswered, IsAsTold, figures_planned, figures_standing}
use Rattle.law_plans.proofs.Finishing.{ends_finished}
use Rattle.law_plans.proofs.Telling.{cvd_is, flipped_cvd, reply, threshold_is}

stands : (d : Dataset) (p q : ℕ) → IsSplit d p q → IsBounded d p q → figures_planned d p q ≡ figures_standing d p q
stands d p q split bounds =
    let count : length (parts_at d p q) ≡ length d.parts = ap length (sym split.are) ∙ length-map d.parts (λ part. part.versions)
    in λ i. record {
      depth = depth_at d p q;
      partitions = count i;
      stored_records = sym bounds.stored_is i;
      tree_records = all_records (nodes_of_set d);
      tree_members = all_members (nodes_of_set d);
      read_records = sym bounds.cost_is i;
    }

pub as_told : (w : World) (items : List Item) (b k p q : ℕ) (d : Dataset) (plan : Plan) → IsRun w items → EndsPlan w items k d plan → BeganAt items b k d.cvd.number p q → HasAllVersions d plan
    → IsAsTold items b (flipped d) p q
as_told w items b k p q d plan run ends began all =
    let told : IsAnswered w items b d.cvd.number p q = reply w items b k p q d plan run ends began
    in let at = threshold_is w items b k p q d plan run ends began
    in let done : IsFinished (world_at w items (k + 1)) (flipped d) p q =
    subst (λ x. IsFinished (world_at w items (k + 1)) (flipped d) p x) at.1
    (subst (λ x. IsFinished (world_at w items (k + 1)) (flipped d) x plan.q) at.0 (ends_finished w items k d plan run ends all))
    in let same : (flipped d).cvd ≡ told.set.cvd = flipped_cvd d d.plan ∙ cvd_is w items b k p q d plan run ends began all
    in let figures : figures_planned told.set p q ≡ figures_standing (flipped d) p q =
    ap (λ cvd. figures_planned (record told.set { cvd = cvd }) p q) (sym same) ∙ stands (flipped d) p q done.split done.bounds
    in record { reply = told.reply; behind = told.behind; tells = told.tells ∙ ap (λ f. Some f) figures }
