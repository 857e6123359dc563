-- The disk's part of a writing command: what a stop in it leaves, and what is there after it.
use Rattle.std.specs.Prelude.{◌≡◌, ◌⊎◌, ℕ, List, [], ◌∷◌}
use Rattle.ov_host.specs.Disk.{Disk, Image, settled}
use Rattle.ov_host.specs.Host.{State}
use Rattle.ov_journal.specs.Held.{Numbers, IsAt}
use Rattle.ov_journal.specs.Journal.{Kept, IsJournal}
use Rattle.ov_publish.specs.declared.run.Run.{Run}
use Rattle.ov_publish.specs.Pages.{with_run, range_of, AreOff, AreThere, SameOn}

-- the page area with both runs, the list's first
abbrev pub with_runs : Run → Run → List ℕ → List ℕ
with_runs list segment old = with_run segment.page segment.bytes.now (with_run list.page list.bytes.now old)

-- the places of both
abbrev pub ranges_of : Run → Run → List (ℕ × ℕ)
ranges_of list segment = range_of list.page list.bytes.now ∷ range_of segment.page segment.bytes.now ∷ []

-- nothing is pending in the pages, and the live ranges are there and off the free ones
pub record IsFree (live free : List (ℕ × ℕ)) (d : Disk) : Type 0 where
  pub rest : d.pages ≡ settled d.pages.bytes
  pub there : AreThere live d.pages.bytes
  pub off : AreOff free live

-- the old journal with the live ranges as they were, or the new one with the final pages
pub record IsStored (old new : Kept) (live : List (ℕ × ℕ)) (pages final printed : List ℕ) (c : Image) : Type 0 where
  pub which : (IsJournal old c.journal × SameOn live pages c.pages) ⊎ (IsJournal new c.journal × (c.pages ≡ final))
  pub printed_is : c.printed ≡ printed

-- a journal with these payloads over these pages, with nothing pending in either
pub record IsAdded (payloads : List (List ℕ)) (final printed : List ℕ) (numbers : Numbers) (s : State) : Type 0 where
  pub at : IsAt payloads numbers s
  pub rest : s.tape.disk.pages ≡ settled final
  pub printed_is : s.tape.disk.printed ≡ printed
