-- The dataset whose turn it is: the next step is of its plan.
--     IsTurn w d plan      it is this one, with this plan
--     IsNext w m      a dataset whose turn it is, and the step, which is this move
--     running n      the numbers of the first dataset in which a plan runs
--     IsSeenTurn w area s      a dataset whose turn it is, and the numbers and bytes are its own
--     IsPlanSeen s d plan      what the numbers say of the plan
use Rattle.std.specs.Prelude.{◌≡◌, ℕ, Bool, List, length, map, is_some, Option, Some}
use Rattle.std.specs.List.{find}
use Rattle.ov_host.specs.declared.area.Extent.{Extent}
use Rattle.ov_model.specs.Lists.{joined}
use Rattle.ov_model.specs.Moves.{Move, numbered}
use Rattle.ov_model.specs.Plans.{current, missing}
use Rattle.ov_model.specs.Steps.{step_of, next_step}
use Rattle.ov_model.specs.World.{Plan, Dataset, World, first_set}
use Rattle.ov_catalog.specs.Events as numbers
use Rattle.ov_catalog.specs.Numbers.{PlanNumbers, Numbers as Catalog}
use Rattle.ov_catalog.specs.Planning as lacked
use Rattle.ov_catalog.specs.Shown.{shown_target}
use Rattle.ov_read.specs.Agreement.{Numbers}
use Rattle.ov_read.specs.OfWorld.{IsSetOf}

abbrev pub runs : Dataset → Bool
runs d = is_some d.plan

-- it is the first one in order of creation in which a plan runs, and the one that its number finds
pub record IsTurn (w : World) (d : Dataset) (plan : Plan) : Type 0 where
  pub first : first_set runs w.sets ≡ Some d
  pub found : first_set (numbered d.cvd.number) w.sets ≡ Some d
  pub runs : d.plan ≡ Some plan
  pub next : next_step w ≡ Some (step_of d plan)

pub record IsNext (w : World) (m : Move) : Type 0 where
  pub set : Dataset
  pub plan : Plan
  pub turn : IsTurn w set plan
  pub is : m ≡ step_of set plan

abbrev pub running : Catalog Extent Extent → Option Numbers
running n = find (λ s. is_some s.plan) n.sets

pub record IsSeenTurn (w : World) (area : List ℕ) (s : Numbers) : Type 0 where
  pub set : Dataset
  pub plan : Plan
  pub turn : IsTurn w set plan
  pub of_world : IsSetOf w set area s

-- a plan runs in the numbers too: at the same threshold, with the same targets, as far on, with as many records copied and
-- as many missing
pub record IsPlanSeen (s : Numbers) (d : Dataset) (plan : Plan) : Type 0 where
  pub seen : PlanNumbers Extent
  pub is : s.plan ≡ Some seen
  pub p : seen.p ≡ plan.p
  pub q : seen.q ≡ plan.q
  pub targets : seen.targets ≡ map (shown_target d) plan.targets
  pub at : seen.at ≡ plan.at
  pub current : numbers.current seen ≡ shown_target d (current plan)
  pub copied : seen.copied ≡ length (joined plan.copied)
  pub segments : length seen.segments ≡ length plan.copied
  pub missing : lacked.missing seen ≡ length (missing d plan)
