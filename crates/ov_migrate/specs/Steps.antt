-- The next migration step.
--     event_in step      its event
--     IsReady n step      it is of the dataset whose turn it is, by the catalog's numbers, and its event applies
--     IsTested area n step      its target agrees with the bytes, and lacks what the step says
--     RefusesStep e area n      why there is none
--     IsNextOf w step      it is the step that the World has next
use Rattle.std.specs.Prelude.{◌≡◌, ◌⊎◌, ℕ, List, [], length, min, take, drop, Option, Some, None}
use Rattle.ov_host.specs.declared.area.Extent.{Extent}
use Rattle.ov_event.specs.Spelling.{IsEvent}
use Rattle.ov_event.specs.declared.event.Event as raw
use Rattle.ov_event.specs.declared.event.Event.TheVariants as says
use Rattle.ov_model.specs.Moves as moves
use Rattle.ov_model.specs.Moves.{Move}
use Rattle.ov_model.specs.Steps.{next_step}
use Rattle.ov_model.specs.World.{World}
use Rattle.ov_catalog.specs.Applying.{first_off}
use Rattle.ov_catalog.specs.Events.{current}
use Rattle.ov_catalog.specs.Numbers.{Numbers as Catalog, PlanNumbers}
use Rattle.ov_catalog.specs.Planning.{missing}
use Rattle.ov_core.specs.Brought.{Asks, Brings, IsUnplaced, extent_at}
use Rattle.ov_core.specs.declared.brought.Brought.{Brought}
use Rattle.ov_copies.specs.Copies.{IsCopied, RefusesCopy}
use Rattle.ov_fetch.specs.declared.errors.FetchErr.{FetchErr}
use Rattle.ov_fetch.specs.declared.errors.FetchErr.TheVariants.{Host, Memory, Damaged}
use Rattle.law_steps.specs.Turns.{running}
use Rattle.ov_read.specs.Agreement.{Numbers}
use Rattle.ov_migrate.specs.declared.step.Step.{Step}
use Rattle.ov_migrate.specs.declared.step.Step.TheVariants.{Copy, Flip}
use Rattle.ov_migrate.specs.Targets.{IsTargetDamage, TargetAgrees, lacking}

-- the first dataset, in order of creation, that has a running plan, and the plan
pub record IsTurn (n : Catalog Extent Extent) (s : Numbers) (p : PlanNumbers Extent) : Type 0 where
  pub first : running n ≡ Some s
  pub plan : s.plan ≡ Some p

abbrev pub event_in : Step → raw.Event
event_in (Copy b) = b.event
event_in (Flip cvd) = says.Flip cvd

-- ---- on every host

-- it brings the next 256 records that the target misses, or all that are left, in a segment that is to be placed
pub record IsCopyOf (s : Numbers) (p : PlanNumbers Extent) (b : Brought) : Type 0 where
  pub unplaced : IsUnplaced b
  pub event : IsEvent b.event
  pub is : b.event ≡ says.Copy s.number (min 256 (missing p)) (extent_at 0 b.segment.items)
  pub no_list : b.list.items ≡ []

abbrev pub IsStepOf : Numbers → PlanNumbers Extent → Step → Type 0
IsStepOf s p (Copy b) = IsCopyOf s p b
IsStepOf s p (Flip cvd) = cvd ≡ s.number

pub record IsReadyStep (n : Catalog Extent Extent) (step : Step) : Type 0 where
  pub s : Numbers
  pub p : PlanNumbers Extent
  pub turn : IsTurn n s p
  pub is : IsStepOf s p step
  pub applies : (format : ℕ) → first_off format (event_in step) n ≡ None

abbrev pub IsReady : Catalog Extent Extent → Option Step → Type 0
IsReady n None = running n ≡ None
IsReady n (Some step) = IsReadyStep n step

-- ---- by the bytes

-- The next rids that a target lacks: those that were copied are the first of them.
abbrev pub next_rids : {area : List ℕ} {s : Numbers} → (p : PlanNumbers Extent) → TargetAgrees area s (current p) → List ℕ
next_rids p agrees = take 256 (drop p.copied (lacking agrees))

pub record IsTestedCopy (area : List ℕ) (s : Numbers) (p : PlanNumbers Extent) (b : Brought) : Type 0 where
  pub agrees : TargetAgrees area s (current p)
  pub copied : IsCopied area s (current p).versions agrees.lists (next_rids p agrees) b.segment.items

-- as many were copied as the target lacks
pub record IsTestedFlip (area : List ℕ) (s : Numbers) (p : PlanNumbers Extent) : Type 0 where
  pub agrees : TargetAgrees area s (current p)
  pub none_missing : length (lacking agrees) ≡ p.copied

abbrev pub IsTestedBy : List ℕ → Numbers → PlanNumbers Extent → Step → Type 0
IsTestedBy area s p (Copy b) = IsTestedCopy area s p b
IsTestedBy area s p (Flip cvd) = IsTestedFlip area s p

pub record IsTestedStep (area : List ℕ) (n : Catalog Extent Extent) (step : Step) : Type 0 where
  pub s : Numbers
  pub p : PlanNumbers Extent
  pub turn : IsTurn n s p
  pub is : IsTestedBy area s p step

abbrev pub IsTested : List ℕ → Catalog Extent Extent → Option Step → Type 0
IsTested area n None = running n ≡ None
IsTested area n (Some step) = IsTestedStep area n step

-- the target agrees, and a record that it lacks next can't be had
pub record HasNoCopy (area : List ℕ) (s : Numbers) (p : PlanNumbers Extent) (page : ℕ) : Type 0 where
  pub agrees : TargetAgrees area s (current p)
  pub off : RefusesCopy (Damaged page) area s (current p).versions agrees.lists (next_rids p agrees)

-- want of memory and a fault of the host say nothing of the bytes
abbrev pub RefusesBy : FetchErr → List ℕ → Numbers → PlanNumbers Extent → Type 0
RefusesBy Host area s p = Unit {0}
RefusesBy Memory area s p = Unit {0}
RefusesBy (Damaged page) area s p = IsTargetDamage area s (current p) page ⊎ HasNoCopy area s p page

pub record IsStepDamage (area : List ℕ) (n : Catalog Extent Extent) (page : ℕ) : Type 0 where
  pub s : Numbers
  pub p : PlanNumbers Extent
  pub turn : IsTurn n s p
  pub off : IsTargetDamage area s (current p) page ⊎ HasNoCopy area s p page

abbrev pub RefusesStep : FetchErr → List ℕ → Catalog Extent Extent → Type 0
RefusesStep Host area n = Unit {0}
RefusesStep Memory area n = Unit {0}
RefusesStep (Damaged page) area n = IsStepDamage area n page

-- ---- by the World

abbrev pub IsCopyMove : Move → Type 0
IsCopyMove (moves.Copy cvd) = Unit {0}
IsCopyMove _ = ⊥

-- a step is a move, and what it brings is what the World asks for
abbrev pub Means : Move → World → Step → Type 0
Means m w (Copy b) = IsCopyMove m × Brings m w b
Means m w (Flip cvd) = (m ≡ moves.Flip cvd) × Asks m w (says.Flip cvd)

pub record IsMove (w : World) (step : Step) : Type 0 where
  pub move : Move
  pub next : next_step w ≡ Some move
  pub means : Means move w step

abbrev pub IsNextOf : World → Option Step → Type 0
IsNextOf w None = next_step w ≡ None
IsNextOf w (Some step) = IsMove w step
