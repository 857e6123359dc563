-- A core from a journal's payloads, beside so many whole pages.
use Rattle.std.specs.Prelude.{◌≡◌, ◌≤◌, ◌<◌, ◌-◌, ◌^◌, ℕ, min, List, take, Option, Some, None}
use Rattle.ov_host.specs.declared.area.Area.TheVariants.{Pages, Journal}
use Rattle.ov_host.specs.declared.area.Extent.{Extent}
use Rattle.ov_journal.specs.declared.errors.JournalErr.{JournalErr}
use Rattle.ov_journal.specs.declared.errors.JournalErr.TheVariants as journal_errors
use Rattle.ov_journal.specs.Held as journals
use Rattle.ov_pages.specs.declared.errors.PagesErr.{PagesErr}
use Rattle.ov_pages.specs.declared.errors.PagesErr.TheVariants as pages
use Rattle.ov_catalog.specs.Extents.{AreApart, covers, live}
use Rattle.ov_catalog.specs.Numbers.{Numbers}
use Rattle.ov_core.specs.Held.{Held, IsReplay}
use Rattle.ov_open.specs.Replaying.{IsStopped}
use Rattle.ov_open.specs.declared.errors.OpenErr.{OpenErr}
use Rattle.ov_open.specs.declared.errors.OpenErr.TheVariants as errors
use Rattle.ov_open.specs.Refusing.{gate_behind, IsMissing, IsOff}

-- what a journal's error is for a store
abbrev pub of_journal : JournalErr → OpenErr
of_journal journal_errors.Host = errors.Host
of_journal journal_errors.Memory = errors.Memory
of_journal journal_errors.NotAStore = errors.NotAStore
of_journal (journal_errors.Format found) = errors.Format found
of_journal (journal_errors.Damaged place) = errors.Damaged Journal place

-- and an error of the pages; those of events that apply are never too high
abbrev pub of_pages : PagesErr → OpenErr
of_pages (pages.TooHigh page) = errors.Damaged Pages page
of_pages (pages.Overlap page) = errors.Damaged Pages page
of_pages pages.Memory = errors.Memory

-- the place of that gate, or the greatest u64 where it would pass that
abbrev pub gate_within : ℕ → List (List ℕ) → ℕ
gate_within start payloads = min (gate_behind start payloads) (2 ^ 64 - 1)

pub record IsBuilt (numbers : journals.Numbers) (payloads : List (List ℕ)) (there : ℕ) (held : Held) : Type 0 where
  pub journal : held.journal ≡ numbers
  pub replays : IsReplay numbers.format payloads held.numbers
  pub apart : AreApart (live held.numbers) there

-- the place is that of the gate of the first record whose payload spells no event that follows
pub record StopsWithin (format start : ℕ) (payloads : List (List ℕ)) (place : ℕ) : Type 0 where
  pub nth : ℕ
  pub stops : IsStopped format payloads nth
  pub place_is : place ≡ gate_within start (take nth payloads)

pub record HasOff (format : ℕ) (payloads : List (List ℕ)) (there page : ℕ) : Type 0 where
  pub numbers : Numbers Extent Extent
  pub replays : IsReplay format payloads numbers
  pub off : IsOff (live numbers) there page

-- why there is no catalog, no reserved pages, no core
abbrev pub NotReplayed : OpenErr → ℕ → ℕ → List (List ℕ) → Type 0
NotReplayed errors.Memory format start payloads = Unit {0}
NotReplayed (errors.Damaged Journal place) format start payloads = StopsWithin format start payloads place
NotReplayed _ format start payloads = ⊥

abbrev pub NotReserved : OpenErr → List Extent → ℕ → Type 0
NotReserved errors.Memory es there = Unit {0}
NotReserved (errors.Damaged Pages page) es there = IsOff es there page
NotReserved _ es there = ⊥

abbrev pub NotBuilt : OpenErr → journals.Numbers → List (List ℕ) → ℕ → Type 0
NotBuilt errors.Memory journal payloads there = Unit {0}
NotBuilt (errors.Damaged Journal place) journal payloads there = StopsWithin journal.format journal.start payloads place
NotBuilt (errors.Damaged Pages page) journal payloads there = HasOff journal.format payloads there page
NotBuilt _ journal payloads there = ⊥

-- the least page of these extents that isn't there, if any is
abbrev pub AreThere : List Extent → ℕ → Type 0
AreThere es there = (page : ℕ) → 1 ≤ covers es page → page < there

abbrev pub FirstIs : Option ℕ → List Extent → ℕ → Type 0
FirstIs None es there = AreThere es there
FirstIs (Some page) es there = IsMissing es there page

-- the lesser of two pages, where there are as many
abbrev pub lesser : Option ℕ → Option ℕ → Option ℕ
lesser None b = b
lesser (Some a) None = Some a
lesser (Some a) (Some b) = Some (min a b)
