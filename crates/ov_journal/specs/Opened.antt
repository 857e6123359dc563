-- What opening a journal answers, and what a stop in it leaves.
use Rattle.std.specs.Prelude.{◌≡◌, ◌≢◌, ◌⊎◌, ℕ, false, List, [], take, Result, Ok, Err}
use Rattle.ov_host.specs.Disk.{Disk, Image, MayLeave, as_read, settled}
use Rattle.ov_host.specs.Host.{State}
use Rattle.ov_journal.specs.declared.errors.JournalErr.{JournalErr}
use Rattle.ov_journal.specs.declared.errors.JournalErr.TheVariants as errors
use Rattle.ov_journal.specs.declared.header.Side.TheVariants.{First}
use Rattle.ov_journal.specs.Bytes.{IsLive}
use Rattle.ov_journal.specs.Journal.{AreaIs, Unmade, Foreign, OfFormat, DamagedAt, Holds, IsUnmade, IsJournal, new_kept, end_of}
use Rattle.ov_journal.specs.Held.{Numbers, kept_by, IsAt}

-- the numbers of a new journal
abbrev pub new_numbers : Numbers
new_numbers = record { end = 38; epoch = 1; start = 38; format = 2; side = First; spare_open = false }

-- A journal stood there, and its records are answered; nothing was written.
pub record HasStood (d e : Disk) (numbers : Numbers) (payloads : List (List ℕ)) : Type 0 where
  pub stands : AreaIs (Holds (kept_by numbers payloads)) d.journal.bytes
  pub same : as_read e ≡ as_read d

-- None was made yet, beside an empty page area; now there is one without a record.
pub record IsMade (d : Disk) (numbers : Numbers) (payloads : List (List ℕ)) : Type 0 where
  pub unmade : AreaIs Unmade d.journal.bytes
  pub no_pages : d.pages.bytes ≡ []
  pub numbers_new : numbers ≡ new_numbers
  pub no_records : payloads ≡ []

-- what reading a journal answers that isn't unmade
abbrev pub Loads : Result (Numbers × List (List ℕ)) JournalErr → List ℕ → Type 0
Loads (Ok read) bytes = AreaIs (Holds (kept_by read.0 read.1)) bytes × (read.0.end ≡ end_of (kept_by read.0 read.1)) × IsLive read.0.side read.0.spare_open (take 38 bytes)
Loads (Err errors.Host) bytes = Unit {0}
Loads (Err errors.Memory) bytes = Unit {0}
Loads (Err errors.NotAStore) bytes = AreaIs Foreign bytes
Loads (Err (errors.Format found)) bytes = AreaIs (OfFormat found) bytes
Loads (Err (errors.Damaged place)) bytes = AreaIs (DamagedAt place) bytes

-- nothing is pending in the journal's area, which holds a new journal; the pages are as they were
pub record IsBegun (old new : State) (numbers : Numbers) (payloads : List (List ℕ)) : Type 0 where
  pub at : IsAt payloads numbers new
  pub numbers_new : numbers ≡ new_numbers
  pub no_records : payloads ≡ []
  pub no_pages : old.tape.disk.pages.bytes ≡ []
  pub pages_same : new.tape.disk.pages ≡ old.tape.disk.pages
  pub printed_same : new.tape.disk.printed ≡ old.tape.disk.printed

-- why a journal isn't begun; only at Host something may have been written
abbrev pub NotBegun : JournalErr → State → State → Type 0
NotBegun errors.Host old new = Unit {0}
NotBegun errors.Memory old new = ⊥
NotBegun errors.NotAStore old new = (old.tape.disk.pages.bytes ≢ []) × (new.tape ≡ old.tape)
NotBegun (errors.Format found) old new = ⊥
NotBegun (errors.Damaged place) old new = ⊥

-- this disk with nothing pending
pub record IsSettled (d e : Disk) : Type 0 where
  pub pages : e.pages ≡ settled d.pages.bytes
  pub journal : e.journal ≡ settled d.journal.bytes
  pub printed : e.printed ≡ d.printed

-- nothing is pending in the page area, and no page and nothing printed changed
pub record ArePagesSettled (d e : Disk) : Type 0 where
  pub pages : e.pages ≡ settled d.pages.bytes
  pub printed : e.printed ≡ d.printed

-- why a journal isn't opened; only at Host something may have been written
abbrev pub Refuses : JournalErr → Disk → Disk → Type 0
Refuses errors.Host d e = Unit {0}
Refuses errors.Memory d e = as_read e ≡ as_read d
Refuses errors.NotAStore d e = (AreaIs Foreign d.journal.bytes ⊎ (AreaIs Unmade d.journal.bytes × (d.pages.bytes ≢ []))) × (as_read e ≡ as_read d)
Refuses (errors.Format found) d e = AreaIs (OfFormat found) d.journal.bytes × (as_read e ≡ as_read d)
Refuses (errors.Damaged place) d e = AreaIs (DamagedAt place) d.journal.bytes × (as_read e ≡ as_read d)

-- a journal that is unmade, or new and without a record; all else as it reads
pub record IsMaking (d : Disk) (c : Image) : Type 0 where
  pub journal : IsUnmade c.journal ⊎ IsJournal new_kept c.journal
  pub pages : c.pages ≡ d.pages.bytes
  pub printed : c.printed ≡ d.printed

-- What a stop in opening leaves: what could be left before; or, where no journal was made yet, an unmade one or a new one.
abbrev pub IsLeftByOpen : Disk → Image → Type 0
IsLeftByOpen d c = MayLeave d c ⊎ (IsUnmade d.journal.bytes × IsMaking d c)
