-- What every move of a course meets at the World in which it is made.
--     IsDue m w      what a move meets
--     AllDue w items      each move of these does
--     IsBegun w, HasPartitions w      what holds in every World of a course
use Rattle.std.specs.Prelude.{◌≡◌, ◌≤◌, ℕ, List, [], ◌∷◌, None}
use Rattle.ov_model.specs.Course.{Item, Makes, Says}
use Rattle.ov_model.specs.Holding.{AreHeld}
use Rattle.ov_model.specs.Moves.{Move, BeginPlan, moved}
use Rattle.ov_model.specs.Placed.{ArePlaced}
use Rattle.ov_model.specs.World.{Dataset, World, AllBegun}
use Rattle.law_partitions.specs.Countdown.{AreNumbered}
use Rattle.law_partitions.specs.Sound.{MayMove}

-- no plan of these datasets runs
abbrev pub AllIdle : ℕ → List Dataset → Type 0
AllIdle cvd [] = Unit {0}
AllIdle cvd (d ∷ sets) = (d.cvd.number ≡ cvd → d.plan ≡ None) × AllIdle cvd sets

-- a plan begins where none runs, at a threshold up to 1
abbrev pub MayBegin : Move → World → Type 0
MayBegin (BeginPlan cvd p q) w = ((1 ≤ p) × (p ≤ q)) × AllIdle cvd w.sets
MayBegin _ w = Unit {0}

-- it may be made, and a plan begins where none runs
pub record IsDue (m : Move) (w : World) : Type 0 where
  pub may : MayMove m w
  pub begins : MayBegin m w

abbrev pub AllDue : World → List Item → Type 0
AllDue w [] = Unit {0}
AllDue w (Makes m ∷ items) = IsDue m w × AllDue (moved m w) items
AllDue w (Says reply ∷ items) = AllDue w items

-- numbers of datasets are given once, and each dataset has a version
pub record IsBegun (w : World) : Type 0 where
  pub numbered : AreNumbered w
  pub begun : AllBegun w.sets

-- what holds of partitions in every World of a course
pub record HasPartitions (w : World) : Type 0 where
  pub begun : IsBegun w
  pub placed : ArePlaced w.sets
  pub held : AreHeld w.sets
