-- What is chosen where the store is at a World.
--     best_of budget d, least_in d      of a dataset's table the chosen line with its number, and the least that a line stores
--     within_refused w name budget, advise_refused w name budget a b      what the World refuses
--     IsRefusedTo name budget off why      an error of a choice is what it refuses
--     IsWhole why      nothing is damaged
--     MayBegin w name      a plan of the dataset may begin
--     within_in name budget w      the World when the plan began
--     IsShownTo w name budget shown p      what is chosen of the dataset's table
--     IsToldOf d budget chosen, IsAdviceOn d budget a b advice      and what is told then
--     IsPlanLackOf entry past m w why      and what room may be wanting
use Rattle.std.specs.Prelude.{◌≡◌, ℕ, not, List, Option, Some, None}
use Rattle.std.specs.Option.{option_or}
use Rattle.law_room.specs.Room.{Entry, LacksRecord, Made}
use Rattle.ov_model.specs.Act.{if_so, is_threshold}
use Rattle.ov_model.specs.Budget.{choice, is_worth, least_of, table, within_refusal}
use Rattle.ov_model.specs.Moves.{BeginPlan, Move, moved}
use Rattle.ov_model.specs.World.{Dataset, World, cost, set_named}
use Rattle.ov_model.specs.declared.refusal.Refusal.{Refusal}
use Rattle.ov_model.specs.declared.refusal.Refusal.TheVariants as no
use Rattle.ov_model.specs.declared.reply.BudgetLine.{BudgetLine}
use Rattle.ov_optimize.specs.Planned.{IsReport}
use Rattle.ov_choose.specs.declared.advising.Advice.{Advice}
use Rattle.ov_choose.specs.declared.choosing.Chosen.{Chosen}
use Rattle.ov_choose.specs.declared.errors.ChooseErr.{ChooseErr}
use Rattle.ov_choose.specs.declared.errors.ChooseErr.TheVariants as why

unfoldable pub best_of : ℕ → Dataset → Option (ℕ × BudgetLine)
best_of budget d = choice budget (table d)

unfoldable pub least_in : Dataset → ℕ
least_in d = least_of (table d)

-- ---- what it refuses

-- 21
abbrev pub over_budget : ℕ → Dataset → Option (ℕ × BudgetLine) → Option Refusal
over_budget budget d None = Some (no.NoThreshold budget (least_in d))
over_budget budget d (Some best) = None

-- 10, 18, 22, 21
abbrev pub within_refused_of : List ℕ → ℕ → Option Dataset → Option Refusal
within_refused_of name budget None = Some (no.NoCvd name)
within_refused_of name budget (Some d) = option_or (within_refusal d) (over_budget budget d (best_of budget d))

abbrev pub within_refused : World → List ℕ → ℕ → Option Refusal
within_refused w name budget = within_refused_of name budget (set_named w name)

-- 10, 17, 21
abbrev pub advise_refused_of : List ℕ → ℕ → ℕ → ℕ → Option Dataset → Option Refusal
advise_refused_of name budget a b None = Some (no.NoCvd name)
advise_refused_of name budget a b (Some d) =
    option_or (if_so (not (is_threshold b a)) no.BadThreshold) (over_budget budget d (best_of budget d))

abbrev pub advise_refused : World → List ℕ → ℕ → ℕ → ℕ → Option Refusal
advise_refused w name budget a b = advise_refused_of name budget a b (set_named w name)

abbrev pub IsWhole : ChooseErr → Type 0
IsWhole (why.Damaged area at) = ⊥
IsWhole _ = Unit {0}

-- A fault of the host and want of memory say nothing. Nothing is damaged.
abbrev pub IsRefusedTo : List ℕ → ℕ → Option Refusal → ChooseErr → Type 0
IsRefusedTo name budget off why.Host = Unit {0}
IsRefusedTo name budget off why.Memory = Unit {0}
IsRefusedTo name budget off (why.Damaged area at) = ⊥
IsRefusedTo name budget off why.JournalFull = off ≡ None
IsRefusedTo name budget off why.NoCvd = off ≡ Some (no.NoCvd name)
IsRefusedTo name budget off why.BadThreshold = off ≡ Some no.BadThreshold
IsRefusedTo name budget off why.Migrating = off ≡ Some (no.Migrating name)
IsRefusedTo name budget off (why.NoThreshold least) = off ≡ Some (no.NoThreshold budget least)
IsRefusedTo name budget off why.NoNumbers = off ≡ Some (no.NoNumbers name)

-- ---- what is chosen

abbrev pub with_best : Dataset → Option (ℕ × BudgetLine) → World → World
with_best d None w = w
with_best d (Some best) w = moved (BeginPlan d.cvd.number best.0 100) w

abbrev pub within_of : ℕ → Option Dataset → World → World
within_of budget None w = w
within_of budget (Some d) w = with_best d (best_of budget d) w

abbrev pub within_in : List ℕ → ℕ → World → World
within_in name budget w = within_of budget (set_named w name) w

pub record MayBegin (w : World) (name : List ℕ) : Type 0 where
  pub d : Dataset
  pub named : set_named w name ≡ Some d
  pub allowed : within_refusal d ≡ None

-- these lines and this number, where a plan may begin
pub record IsShownTo (w : World) (name : List ℕ) (budget : ℕ) (shown : List BudgetLine) (p : ℕ) : Type 0 where
  pub d : Dataset
  pub named : set_named w name ≡ Some d
  pub allowed : within_refusal d ≡ None
  pub shown_are : shown ≡ table d
  pub line : BudgetLine
  pub best : best_of budget d ≡ Some (p, line)

pub record IsToldOf (d : Dataset) (budget : ℕ) (chosen : Chosen) : Type 0 where
  pub lines_are : chosen.lines ≡ table d
  pub line : BudgetLine
  pub best : best_of budget d ≡ Some (chosen.p, line)
  pub report : IsReport d chosen.p 100 chosen.report

pub record IsAdviceOn (d : Dataset) (budget a b : ℕ) (advice : Advice) : Type 0 where
  pub best : ℕ × BudgetLine
  pub best_is : best_of budget d ≡ Some best
  pub cost_is : advice.cost ≡ cost d
  pub least_is : advice.best ≡ best.1.cost
  pub worth_is : advice.worth ≡ is_worth a b (cost d) best.1.cost

-- a plan asks for room in the journal alone
abbrev pub IsPlanLackOf : Entry → List Made → Move → World → ChooseErr → Type 0
IsPlanLackOf entry past m w why.JournalFull = LacksRecord entry past m w
IsPlanLackOf entry past m w _ = Unit {0}
