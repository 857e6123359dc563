-- What the laws of runs ask of the World in which a run begins, where an image stands for it.
use Rattle.std.proofs.Common.{ℕ, List, [], ◌∷◌, refl, sym, subst, inl, inr}
use Rattle.ov_host.specs.Disk.{Image}
use Rattle.ov_model.specs.Act.{Session}
use Rattle.ov_model.specs.Course.{Space, course}
use Rattle.ov_model.specs.Forms.{Form, all_forms}
use Rattle.ov_model.specs.World.{World, empty_world, empty_world_of}
use Rattle.ov_model.proofs.AllFormed.{all_ask}
use Rattle.law_partitions.specs.PlanEnds.{ArePlanned}
use Rattle.law_partitions.specs.Sound.{AllNameVersions}
use Rattle.law_partitions.proofs.PlanMoves.{moved_planned}
use Rattle.law_partitions.proofs.SoundLines.{lines_name}
use Rattle.law_partitions.proofs.SoundMoves.{empty_sound}
use Rattle.ov_catalog.specs.Reached.{ByMove, Leads, MayPass, OldCheckpoint, Past, Reached, passed}
use Rattle.ov_catalog.proofs.Good.{IsGood, fits_due, good, good_passed, partitions}
use Rattle.law_image.specs.Images.{StandsAs}
use Rattle.law_plans.specs.Runs.{HasPlans, IsRun}

pub empty_plans : HasPlans empty_world
empty_plans = record { sound = empty_sound; old_or_new = tt; planned = tt }

-- plans are kept by the moves that fit
planned_passed : (p : Past) (w : World) → MayPass p w → IsGood w → ArePlanned w.sets → ArePlanned (passed p w).sets
planned_passed (ByMove m) w may is are = moved_planned m w (fits_due m w may is) (partitions w is.sound) is.old are
planned_passed OldCheckpoint w may is are = are

planned_leads : (ps : List Past) (v w : World) → Leads v ps w → IsGood v → ArePlanned v.sets → ArePlanned w.sets
planned_leads [] v w leads is are = subst (λ x. ArePlanned x.sets) leads are
planned_leads (p ∷ ps) v w leads is are = planned_leads ps (passed p v) w leads.1 (good_passed p v leads.0 is) (planned_passed p v leads.0 is are)

reached_plans : (w : World) → Reached w → HasPlans w
reached_plans w reached =
    let is : IsGood w = good w reached
    in let start : IsGood (empty_world_of reached.0) = good (empty_world_of reached.0) (reached.0, reached.1, [], refl)
    in record { sound = is.sound; old_or_new = is.old; planned = planned_leads reached.2 (empty_world_of reached.0) w reached.3 start tt }

pub image_plans : (c : Image) (w : World) → StandsAs w c → HasPlans w
image_plans c w (inl new) = subst HasPlans (sym new.world) empty_plans
image_plans c w (inr made) = reached_plans w made.by.stands.reached

pub run_by : (forms : List Form) (c : Image) (w : World) (steps : ℕ) (s : Session) (lines : List (List ℕ)) (space : Space) → AllNameVersions forms lines → StandsAs w c
    → IsRun w (course forms steps w s lines space).items
run_by forms c w steps s lines space names stands = record {
  forms = forms;
  steps = steps;
  session = s;
  lines = lines;
  space = space;
  names = names;
  plans = image_plans c w stands;
  are = refl;
}

pub any_run : (c : Image) (w : World) (steps : ℕ) (s : Session) (lines : List (List ℕ)) (space : Space) → StandsAs w c → IsRun w (course all_forms steps w s lines space).items
any_run c w steps s lines space stands = run_by all_forms c w steps s lines space (lines_name all_forms lines (all_ask lines)) stands
