-- What is read to choose a threshold, what is chosen, and why nothing is.
--     within_off set, advise_off set a b      what the numbers refuse: of a plan within a budget, and of an advice
--     IsTableOf set t lists lines, AreLines set t lines      the table of a dataset, by the lists of its versions as they were read
--     IsChoice set budget t lines p, HasNoThreshold set budget t least      what is chosen of it, or that all its lines store more
--     IsAdvice set budget a b t advice, IsBegunWithin set budget t old new chosen      what is told then
--     IsUnpicked off o budget old new why, IsUnchosen o budget held old new why      why nothing is chosen, and why no plan began
use Rattle.std.specs.Prelude.{◌≡◌, ◌⊎◌, ℕ, Bool, true, not, nat_lt, if◌then◌else◌, List, map, Option, Some, None, is_some}
use Rattle.std.specs.Option.{option_or}
use Rattle.ov_budget.specs.Choices.{AreOver, IsBest, IsLeast, is_worth, line_in}
use Rattle.ov_budget.specs.Tables.{table}
use Rattle.ov_budget.specs.declared.thresholds.Line.{Line}
use Rattle.ov_graph.specs.Versions.{reduced}
use Rattle.ov_host.specs.declared.area.Area.TheVariants.{Pages}
use Rattle.ov_host.specs.Host.{Rose, State}
use Rattle.ov_catalog.specs.Events.{graph_of}
use Rattle.ov_core.specs.Held.{Held}
use Rattle.ov_fetch.specs.Extents.{page_bytes}
use Rattle.ov_listing.specs.Listed.{cost}
use Rattle.ov_model.specs.Act.{is_threshold}
use Rattle.ov_model.specs.declared.reply.BudgetLine.{BudgetLine}
use Rattle.ov_optimize.specs.Damages.{HasBadPart, IsListDamage}
use Rattle.law_budget.specs.Told.{told}
use Rattle.ov_store.specs.Committing.{IfSet, Set}
use Rattle.ov_store.specs.Planning.{FindsNoPlace, IsBegun}
use Rattle.ov_store.specs.Thresholds.{AreListsOf, IsListsDamage}
use Rattle.ov_choose.specs.declared.advising.Advice.{Advice}
use Rattle.ov_choose.specs.declared.choosing.Chosen.{Chosen}
use Rattle.ov_choose.specs.declared.errors.ChooseErr.{ChooseErr}
use Rattle.ov_choose.specs.declared.errors.ChooseErr.TheVariants as why

-- ---- what the numbers refuse

abbrev pub off_if : Bool → ChooseErr → Option ChooseErr
off_if refused off = if refused then Some off else None

-- 10
abbrev pub there_off : Option Set → Option ChooseErr
there_off None = Some why.NoCvd
there_off (Some s) = None

-- 10, 18, 22
abbrev pub within_off : Option Set → Option ChooseErr
within_off None = Some why.NoCvd
within_off (Some s) = option_or (off_if (is_some s.plan) why.Migrating) (off_if (nat_lt 4294000000 s.next_part) why.NoNumbers)

-- 10, 17
abbrev pub advise_off : ℕ → ℕ → Option Set → Option ChooseErr
advise_off a b None = Some why.NoCvd
advise_off a b (Some s) = off_if (not (is_threshold b a)) why.BadThreshold

-- ---- what is chosen

-- the table that these lists make, which are those of all versions as they were read
pub record IsTableOf (s : Set) (t : State) (lists : List (List ℕ)) (lines : List Line) : Type 0 where
  pub listed : AreListsOf s t lists
  pub made : lines ≡ table (reduced (graph_of s.versions)) lists

pub record AreLines (s : Set) (t : State) (lines : List Line) : Type 0 where
  pub lists : List (List ℕ)
  pub is : IsTableOf s t lists lines

-- line p of the table is the best one within the budget
pub record IsChoice (s : Set) (budget : ℕ) (t : State) (lines : List Line) (p : ℕ) : Type 0 where
  pub are : AreLines s t lines
  pub best : IsBest budget 1 lines p (line_in lines p)

-- all lines of the table store more than the budget, and this is the least that one stores
pub record HasNoThreshold (s : Set) (budget : ℕ) (t : State) (least : ℕ) : Type 0 where
  pub lines : List Line
  pub are : AreLines s t lines
  pub over : AreOver budget lines
  pub least_is : IsLeast lines least

-- the lines as they are told, and the number of the one that is chosen
pub record IsPicked (s : Set) (budget : ℕ) (t : State) (shown : List BudgetLine) (p : ℕ) : Type 0 where
  pub lines : List Line
  pub choice : IsChoice s budget t lines p
  pub shown_are : shown ≡ map told lines

-- the present cost, that of the best line, and whether the one is so far over the other
pub record IsAdvice (s : Set) (budget a b : ℕ) (t : State) (advice : Advice) : Type 0 where
  pub lines : List Line
  pub p : ℕ
  pub choice : IsChoice s budget t lines p
  pub cost_is : advice.cost ≡ cost s
  pub best_is : advice.best ≡ (line_in lines p).cost
  pub worth_is : advice.worth ≡ is_worth a b (cost s) (line_in lines p).cost

-- the plan of the chosen threshold began
pub record IsBegunWithin (s : Set) (budget : ℕ) (t : State) (old new : Held) (chosen : Chosen) : Type 0 where
  pub picked : IsPicked s budget t chosen.lines chosen.p
  pub begun : IsBegun s chosen.p 100 t old new chosen.report

-- ---- why nothing is

-- from the lists of a dataset
abbrev pub IsUnread : Option Set → State → State → ChooseErr → Type 0
IsUnread o old new why.Host = Rose old.faults new.faults
IsUnread o old new why.Memory = Unit {0}
IsUnread o old new (why.Damaged area at) = (area ≡ Pages) × IfSet (λ s. IsListsDamage s old at) o
IsUnread o old new why.NoCvd = (o ≡ None) × (new ≡ old)
IsUnread o old new _ = ⊥

-- What the numbers refuse, which is `off`, comes before anything is read; damage of the lists before what the table refuses.
abbrev pub IsUnpicked : Option ChooseErr → Option Set → ℕ → State → State → ChooseErr → Type 0
IsUnpicked off o budget old new why.Host = Rose old.faults new.faults
IsUnpicked off o budget old new why.Memory = Unit {0}
IsUnpicked off o budget old new (why.Damaged area at) = (area ≡ Pages) × (off ≡ None) × IfSet (λ s. IsListsDamage s old at) o
IsUnpicked off o budget old new (why.NoThreshold least) = (off ≡ None) × IfSet (λ s. HasNoThreshold s budget old least) o
IsUnpicked off o budget old new why.JournalFull = ⊥
IsUnpicked off o budget old new other = (off ≡ Some other) × (new ≡ old)

-- a threshold was chosen, and a partition is damaged
pub record HasPartDamage (s : Set) (budget : ℕ) (t : State) (page : ℕ) : Type 0 where
  pub lines : List Line
  pub p : ℕ
  pub choice : IsChoice s budget t lines p
  pub bad : HasBadPart (page_bytes t) s page

abbrev pub IsDamagedWithin : Set → ℕ → State → ℕ → Type 0
IsDamagedWithin s budget t page = t.tells ≡ true → IsListDamage (page_bytes t) s page ⊎ HasPartDamage s budget t page

-- a threshold was chosen, and the journal has no room for its plan
pub record FindsNoPlaceWithin (s : Set) (budget : ℕ) (t : State) (held : Held) : Type 0 where
  pub lines : List Line
  pub p : ℕ
  pub choice : IsChoice s budget t lines p
  pub full : FindsNoPlace s p 100 t held

-- all thresholds store more than the budget
abbrev pub IsNoThreshold : ChooseErr → Type 0
IsNoThreshold (why.NoThreshold least) = Unit {0}
IsNoThreshold _ = ⊥

-- Behind what the table refuses come the partitions, and then the journal.
abbrev pub IsUnchosen : Option Set → ℕ → Held → State → State → ChooseErr → Type 0
IsUnchosen o budget held old new (why.Damaged area at) =
    (area ≡ Pages) × (within_off o ≡ None) × IfSet (λ s. IsDamagedWithin s budget old at) o
IsUnchosen o budget held old new why.JournalFull = (within_off o ≡ None) × IfSet (λ s. FindsNoPlaceWithin s budget old held) o
IsUnchosen o budget held old new e = IsUnpicked (within_off o) o budget old new e
