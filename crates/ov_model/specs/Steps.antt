-- Migration steps of a World.
--     next_step w      the step that is to be taken next; None where no plan runs
--     steps_left w      the steps that all running plans have left
use Rattle.std.specs.Prelude.{ℕ, zero, suc, ◌+◌, ◌==◌, if◌then◌else◌, List, [], ◌∷◌, length, Option, Some, None}
use Rattle.ov_model.specs.Moves.{Move, Copy, Flip, moved}
use Rattle.ov_model.specs.Plans.{missing, plan_steps}
use Rattle.ov_model.specs.World.{Plan, Dataset, World}

-- a copy where the target misses records, or else its flip
abbrev pub step_of : Dataset → Plan → Move
step_of d plan = if length (missing d plan) == 0 then Flip d.cvd.number else Copy d.cvd.number

-- of the first dataset, in order of creation, that has a running plan
abbrev pub step_or : Dataset → Option Plan → Option Move → Option Move
step_or d None later = later
step_or d (Some plan) later = Some (step_of d plan)

abbrev pub first_step : List Dataset → Option Move
first_step [] = None
first_step (d ∷ ds) = step_or d d.plan (first_step ds)

abbrev pub next_step : World → Option Move
next_step w = first_step w.sets

abbrev pub steps_of_all : List Dataset → ℕ
steps_of_all [] = 0
steps_of_all (d ∷ ds) = plan_steps d + steps_of_all ds

abbrev pub steps_left : World → ℕ
steps_left w = steps_of_all w.sets

-- up to so many steps, until no plan runs
abbrev pub and_after : (World → List Move) → World → Option Move → List Move
and_after more w None = []
and_after more w (Some step) = step ∷ more (moved step w)

abbrev pub next_steps : ℕ → World → List Move
next_steps zero w = []
next_steps (suc n) w = and_after (next_steps n) w (next_step w)

abbrev pub all_moved : List Move → World → World
all_moved [] w = w
all_moved (m ∷ ms) w = all_moved ms (moved m w)
