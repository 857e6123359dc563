-- How many bytes of pages serving a line of a user may fetch.
--     may_fetch n user line      what its command's row says: nothing where the numbers refuse it, and of a line that asks for none
--     IsFetchedBy user line ..      no more was fetched; of a `generate` no more than its versions read of their parents; of a
--                                   `migrate` nothing where no plan runs
--     IsReading line      the line changes no store
--     is_off n user line      the numbers refuse it by its row, or a `migrate` has no step to take
use Rattle.std.specs.Prelude.{◌≡◌, ◌⊎◌, ◌≤◌, ◌+◌, ◌==◌, ◌||◌, ℕ, Bool, false, not, List, Option, Some, None, is_some}
use Rattle.ov_host.specs.declared.area.Extent.{Extent}
use Rattle.ov_host.specs.Host.{State}
use Rattle.ov_catalog.specs.Numbers.{Numbers}
use Rattle.ov_core.specs.Held.{Held}
use Rattle.ov_generate.specs.Reads.{HasFetched}
use Rattle.law_steps.specs.Turns.{running}
use Rattle.ov_model.specs.Book.{Row}
use Rattle.ov_model.specs.Line.{Line, Asks}
use Rattle.ov_model.specs.declared.command.Command.{Command}
use Rattle.ov_store.specs.Planning.{optimize_off}
use Rattle.ov_store.specs.Scanning.{all_vids, set_in}
use Rattle.ov_registry.specs.Last.{AreLast}
use Rattle.ov_session.specs.Reads.{advise_off, lists_in, segments_in, within_set_off}
pub use Rattle.ov_session.specs.Reads.{Changes, Nothing, Once, Several, Own, Nought, Versions, Steps, Later, Reads, Source, bytes_in, bytes_of_all, changes_of, fetch, if_allowed, reads_of}

-- the lists of all versions and the segments of all partitions, where nothing refuses the plan
abbrev pub plan_fetch : Numbers Extent Extent → List ℕ → ℕ → ℕ → ℕ
plan_fetch n cvd p q = if_allowed (optimize_off n cvd p q) (bytes_in (set_in n cvd) (all_vids (set_in n cvd)))

-- within a budget all these, and of an advice the lists alone
abbrev pub within_fetch : Numbers Extent Extent → List ℕ → ℕ
within_fetch n cvd =
    if_allowed (within_set_off cvd (set_in n cvd)) (lists_in (set_in n cvd) (all_vids (set_in n cvd)) + segments_in (set_in n cvd) (all_vids (set_in n cvd)))

abbrev pub advise_fetch : Numbers Extent Extent → List ℕ → ℕ → ℕ → ℕ
advise_fetch n cvd a b = if_allowed (advise_off cvd a b (set_in n cvd)) (lists_in (set_in n cvd) (all_vids (set_in n cvd)))

abbrev pub command_fetch : Numbers Extent Extent → List ℕ → Command → ℕ
command_fetch n user command = fetch (reads_of n user command)

abbrev pub may_fetch : Numbers Extent Extent → List ℕ → Line → ℕ
may_fetch n user (Asks command) = command_fetch n user command
may_fetch n user _ = 0

-- No more was fetched than the row says, and by the rows of the registry, as they are read, no more than these say.
abbrev pub FetchedLater : Option Later → ℕ → State → State → Type 0
FetchedLater None bytes old new = new.fetched ≤ old.fetched + bytes
FetchedLater (Some later) bytes old new =
    (new.fetched ≤ old.fetched + bytes)
    ⊎ ((rows : List Row) × AreLast later.registry old rows × (new.fetched ≤ old.fetched + (bytes + bytes_of_all (later.sources rows))))

-- Of a `generate` each version's parent is read twice, by what the store kept when that version was begun. What the steps of a
-- `migrate` read has no bound here, but that nothing is read where no plan runs. The store kept `before`, and keeps `now`; whether
-- the host failed is `fault`.
abbrev pub FetchedBy : Own → Reads → Held → Held → Type 0 → State → State → Type 0
FetchedBy Nought row before now fault old new = FetchedLater row.later (fetch row) old new
FetchedBy (Versions cvd seed rows versions) row before now fault old new = HasFetched cvd seed rows versions before now fault old new
FetchedBy (Steps count) row before now fault old new = running before.numbers ≡ None → new.fetched ≤ old.fetched

abbrev pub IsFetched : List ℕ → Command → Held → Held → Type 0 → State → State → Type 0
IsFetched user command before now fault old new =
    FetchedBy (reads_of before.numbers user command).own (reads_of before.numbers user command) before now fault old new

abbrev pub IsFetchedBy : List ℕ → Line → Held → Held → Type 0 → State → State → Type 0
IsFetchedBy user (Asks command) before now fault old new = IsFetched user command before now fault old new
IsFetchedBy user line before now fault old new = new.fetched ≤ old.fetched

-- what the numbers refuse, or has no step to take, reads nothing
abbrev pub is_row_off : Own → Reads → Numbers Extent Extent → Bool
is_row_off Nought row n = is_some row.off
is_row_off (Versions cvd seed rows versions) row n = is_some row.off
is_row_off (Steps count) row n = (count == 0) || not (is_some (running n))

abbrev pub is_command_off : Numbers Extent Extent → List ℕ → Command → Bool
is_command_off n user command = is_row_off (reads_of n user command).own (reads_of n user command) n

abbrev pub is_off : Numbers Extent Extent → List ℕ → Line → Bool
is_off n user (Asks command) = is_command_off n user command
is_off n user _ = false

-- commands and lines that change no store: a comment and one that is refused too
abbrev pub IsNothing : Changes → Type 0
IsNothing Nothing = Unit {0}
IsNothing Once = ⊥
IsNothing Several = ⊥

abbrev pub IsReadingCommand : Command → Type 0
IsReadingCommand command = IsNothing (changes_of command)

abbrev pub IsReading : Line → Type 0
IsReading (Asks command) = IsReadingCommand command
IsReading _ = Unit {0}
