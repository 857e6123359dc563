-- The laws of finished plans, of the run of a script on an image.
use Rattle.std.proofs.Common.{◌≡◌, ◌≤◌, ◌<◌, ℕ, ◌+◌, List}
use Rattle.std.specs.Prelude.{◌≢◌}
use Rattle.ov_host.specs.Disk.{Image}
use Rattle.ov_model.specs.Act.{Session}
use Rattle.ov_model.specs.Course.{Item, Space, course, world_at}
use Rattle.ov_model.specs.Forms.{Form}
use Rattle.ov_model.specs.Lists.{IsIn}
use Rattle.ov_model.specs.Plans.{flipped}
use Rattle.ov_model.specs.World.{Part, Plan, Dataset, World}
use Rattle.law_partitions.specs.OldOrNew.{AllTight}
use Rattle.law_partitions.specs.PlanEnds.{HasAllVersions}
use Rattle.law_partitions.specs.Sound.{AllNameVersions}
use Rattle.law_image.specs.Images.{StandsAs}
use Rattle.law_plans.specs.Ends.{BeganAt, BeginsNoPlan, EndsPlan, LeavesParts, Waits}
use Rattle.law_plans.specs.Leaves.{IsFinished, StaysSplit}
use Rattle.law_plans.specs.Runs.{Between}
use Rattle.law_plans.specs.Told.{IsAsTold}
use Rattle.law_plans.proofs.Finishing.{ends_finished, ends_tight, split_stays}
use Rattle.law_plans.proofs.Images.{run_by}
use Rattle.law_plans.proofs.Standing.{as_told}
use Rattle.law_plans.proofs.Waiting.{gone}

module _ (forms : List Form) (c : Image) (w : World) (steps : ℕ) (s : Session) (lines : List (List ℕ)) (space : Space) where
  abbrev items : List Item
  items = (course forms steps w s lines space).items

  pub image_finished : (k : ℕ) (d : Dataset) (plan : Plan) → AllNameVersions forms lines → StandsAs w c → EndsPlan w items k d plan → HasAllVersions d plan → IsFinished (world_at w items (k + 1)) (flipped d) plan.p plan.q
  image_finished k d plan names stands ends all = ends_finished w items k d plan (run_by forms c w steps s lines space names stands) ends all

  pub image_stays : (k j : ℕ) (d : Dataset) (plan : Plan) → AllNameVersions forms lines → StandsAs w c → EndsPlan w items k d plan → HasAllVersions d plan → k < j → Between items (k + 1) j (LeavesParts d.cvd.number)
      → StaysSplit (world_at w items j) (flipped d) plan.p plan.q
  image_stays k j d plan names stands ends all later leaves = split_stays w items k j d plan (run_by forms c w steps s lines space names stands) ends all later leaves

  pub image_told : (b k p q : ℕ) (d : Dataset) (plan : Plan) → AllNameVersions forms lines → StandsAs w c → EndsPlan w items k d plan → BeganAt items b k d.cvd.number p q → HasAllVersions d plan → IsAsTold items b (flipped d) p q
  image_told b k p q d plan names stands ends began all = as_told w items b k p q d plan (run_by forms c w steps s lines space names stands) ends began all

  pub image_tight : (k : ℕ) (d : Dataset) (plan : Plan) → AllNameVersions forms lines → StandsAs w c → EndsPlan w items k d plan → AllTight (flipped d).parts
  image_tight k d plan names stands ends = ends_tight w items k d plan (run_by forms c w steps s lines space names stands) ends

  pub image_gone : (j k : ℕ) (d e : Dataset) (plan : Plan) (part : Part) → AllNameVersions forms lines → StandsAs w c → EndsPlan w items k d plan → j ≤ k → Between items j k (BeginsNoPlan d.cvd.number)
      → IsIn (world_at w items j).sets e → e.cvd.number ≡ d.cvd.number → IsIn e.parts part → Waits e part → (after : Part) → IsIn (flipped d).parts after → after.id ≢ part.id
  image_gone j k d e plan part names stands ends up quiet there same is waits = gone w items j k d e plan part (run_by forms c w steps s lines space names stands) ends up quiet there same is waits
