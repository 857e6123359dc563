-- What `optimize` does.
--     optimize_off n name p q      why it is refused by numbers: 10, 17, 18, 22
--     begun_in name p q w      the World with the plan; as it is where no dataset has the name
--     IsPlanBy s p q t planned      the plan that is made of what was read
--     IsBegun s p q t old new report      it began
--     IsUnbegun name p q held old new why      why none did
--     optimize_refused w name p q      why the World refuses one
--     IsPlanRefused name off why      by what the World refuses; for want of room only where it refuses nothing
--     IsPlanLack entry past m w why      and only where room may be wanting
use Rattle.std.specs.Prelude.{◌≡◌, ℕ, Bool, true, not, nat_lt, is_some, if◌then◌else◌, List, Option, Some, None}
use Rattle.std.specs.Option.{option_or}
use Rattle.ov_host.specs.declared.area.Area.TheVariants.{Pages}
use Rattle.ov_host.specs.declared.area.Extent.{Extent}
use Rattle.ov_host.specs.Host.{Rose, State}
use Rattle.ov_model.specs.Act.{is_threshold, optimize_refusal}
use Rattle.ov_model.specs.Moves.{Move, BeginPlan, moved}
use Rattle.ov_model.specs.World.{Dataset, World, set_named}
use Rattle.ov_model.specs.declared.refusal.Refusal.{Refusal}
use Rattle.ov_model.specs.declared.refusal.Refusal.TheVariants as no
use Rattle.ov_catalog.specs.Numbers.{Numbers}
use Rattle.ov_core.specs.declared.errors.ChangeErr.{ChangeErr}
use Rattle.ov_core.specs.declared.errors.ChangeErr.TheVariants as change
use Rattle.ov_core.specs.Held.{Held}
use Rattle.ov_core.specs.Rooms.{IsRecorded, PassesJournal}
use Rattle.ov_fetch.specs.declared.errors.FetchErr.{FetchErr}
use Rattle.ov_fetch.specs.declared.errors.FetchErr.TheVariants as fetch
use Rattle.ov_fetch.specs.Extents.{page_bytes}
use Rattle.law_room.specs.Room.{Entry, Made, LacksRecord}
use Rattle.ov_optimize.specs.declared.planning.Planned.{Planned}
use Rattle.ov_optimize.specs.declared.report.Report.{Report}
use Rattle.ov_optimize.specs.Damages.{RefusesPlan}
use Rattle.ov_optimize.specs.Planned.{IsMade, IsPlanned}
use Rattle.ov_store.specs.declared.plan_errors.PlanErr.{PlanErr}
use Rattle.ov_store.specs.declared.plan_errors.PlanErr.TheVariants as why
use Rattle.ov_store.specs.Committing.{IfSet, Set}
use Rattle.ov_store.specs.Scanning.{set_in}

abbrev pub off_if : Bool → PlanErr → Option PlanErr
off_if refused off = if refused then Some off else None

abbrev pub plan_off : Option Set → ℕ → ℕ → Option PlanErr
plan_off None p q = Some why.NoCvd
plan_off (Some s) p q =
    option_or (off_if (not (is_threshold p q)) why.BadThreshold)
    (option_or (off_if (is_some s.plan) why.Migrating) (off_if (nat_lt 4294000000 s.next_part) why.NoNumbers))

abbrev pub optimize_off : Numbers Extent Extent → List ℕ → ℕ → ℕ → Option PlanErr
optimize_off n name p q = plan_off (set_in n name) p q

abbrev pub of_read : FetchErr → PlanErr
of_read fetch.Host = why.Host
of_read fetch.Memory = why.Memory
of_read (fetch.Damaged page) = why.Damaged Pages page

-- a plan that isn't recorded, for which no run is asked
abbrev pub IsUnrecorded : ChangeErr → PlanErr → Type 0
IsUnrecorded change.Host off = off ≡ why.Host
IsUnrecorded change.Memory off = off ≡ why.Memory
IsUnrecorded (change.Full pages) off = ⊥
IsUnrecorded change.JournalFull off = off ≡ why.JournalFull

-- ---- that it began

-- its event is that of a plan of the dataset, and the report counts what the event says; where the bytes are told, the event says
-- what they make of the dataset's versions and partitions
pub record IsPlanBy (s : Set) (p q : ℕ) (t : State) (planned : Planned) : Type 0 where
  pub made : IsMade s p q planned
  pub read : t.tells ≡ true → IsPlanned (page_bytes t) s p q planned.event

pub record IsBegun (s : Set) (p q : ℕ) (t : State) (old new : Held) (report : Report) : Type 0 where
  pub planned : Planned
  pub by : IsPlanBy s p q t planned
  pub recorded : IsRecorded old new planned.event
  pub report_is : report ≡ planned.report

-- ---- why not

abbrev pub IsDamagedFor : Set → State → ℕ → Type 0
IsDamagedFor s t page = t.tells ≡ true → RefusesPlan (fetch.Damaged page) (page_bytes t) s

pub record FindsNoPlace (s : Set) (p q : ℕ) (t : State) (held : Held) : Type 0 where
  pub planned : Planned
  pub by : IsPlanBy s p q t planned
  pub passes : PassesJournal held planned.event

-- A refusal by numbers comes before anything is read.
abbrev pub IsUnbegun : List ℕ → ℕ → ℕ → Held → State → State → PlanErr → Type 0
IsUnbegun name p q held old new why.Host = Rose old.faults new.faults
IsUnbegun name p q held old new why.Memory = Unit {0}
IsUnbegun name p q held old new (why.Damaged area at) =
    (area ≡ Pages) × (optimize_off held.numbers name p q ≡ None) × IfSet (λ s. IsDamagedFor s old at) (set_in held.numbers name)
IsUnbegun name p q held old new why.JournalFull =
    (optimize_off held.numbers name p q ≡ None) × IfSet (λ s. FindsNoPlace s p q old held) (set_in held.numbers name)
IsUnbegun name p q held old new other = (optimize_off held.numbers name p q ≡ Some other) × (new ≡ old)

-- before anything is recorded no room is wanting
abbrev pub IsUnplanned : List ℕ → ℕ → ℕ → Held → State → State → PlanErr → Type 0
IsUnplanned name p q held old new why.JournalFull = ⊥
IsUnplanned name p q held old new other = IsUnbegun name p q held old new other

-- ---- at a World

abbrev pub with_plan : Option Dataset → ℕ → ℕ → World → World
with_plan None p q w = w
with_plan (Some d) p q w = moved (BeginPlan d.cvd.number p q) w

abbrev pub begun_in : List ℕ → ℕ → ℕ → World → World
begun_in name p q w = with_plan (set_named w name) p q w

abbrev pub refused_in : List ℕ → Option Dataset → ℕ → ℕ → Option Refusal
refused_in name None p q = Some (no.NoCvd name)
refused_in name (Some d) p q = optimize_refusal d p q

abbrev pub optimize_refused : World → List ℕ → ℕ → ℕ → Option Refusal
optimize_refused w name p q = refused_in name (set_named w name) p q

-- A fault of the host and want of memory say nothing. Nothing is damaged.
abbrev pub IsPlanRefused : List ℕ → Option Refusal → PlanErr → Type 0
IsPlanRefused name off why.Host = Unit {0}
IsPlanRefused name off why.Memory = Unit {0}
IsPlanRefused name off (why.Damaged area at) = ⊥
IsPlanRefused name off why.JournalFull = off ≡ None
IsPlanRefused name off why.NoCvd = off ≡ Some (no.NoCvd name)
IsPlanRefused name off why.BadThreshold = off ≡ Some no.BadThreshold
IsPlanRefused name off why.Migrating = off ≡ Some (no.Migrating name)
IsPlanRefused name off why.NoNumbers = off ≡ Some (no.NoNumbers name)

-- A plan asks for room in the journal alone.
abbrev pub IsPlanLack : Entry → List Made → Move → World → PlanErr → Type 0
IsPlanLack entry past m w why.JournalFull = LacksRecord entry past m w
IsPlanLack entry past m w why.Host = Unit {0}
IsPlanLack entry past m w why.Memory = Unit {0}
IsPlanLack entry past m w (why.Damaged area at) = Unit {0}
IsPlanLack entry past m w why.NoCvd = Unit {0}
IsPlanLack entry past m w why.BadThreshold = Unit {0}
IsPlanLack entry past m w why.Migrating = Unit {0}
IsPlanLack entry past m w why.NoNumbers = Unit {0}
