-- Which bytes a run opens.
--     OpensAs numbers d      a disk's bytes say these numbers
--     Opens d      they say some
use Rattle.std.specs.Prelude.{◌≡◌, ◌⊎◌, []}
use Rattle.ov_host.specs.declared.area.Extent.{Extent}
use Rattle.ov_host.specs.Disk.{Disk}
use Rattle.ov_journal.specs.Journal.{Kept, IsJournal, IsUnmade}
use Rattle.ov_catalog.specs.Extents.{AreApart, live}
use Rattle.ov_catalog.specs.Numbers.{Numbers, nothing_yet}
use Rattle.law_image.specs.Pages.{pages_in}
use Rattle.ov_core.specs.Held.{IsReplay}

-- A journal stands there, and its payloads spell events that apply one after another and make these numbers, whose live extents
-- share no page and stand whole.
pub record IsStore (numbers : Numbers Extent Extent) (d : Disk) : Type 0 where
  pub kept : Kept
  pub journal : IsJournal kept d.journal.bytes
  pub replays : IsReplay kept.format kept.payloads numbers
  pub apart : AreApart (live numbers) (pages_in d.pages.bytes)

-- no journal was made yet, and there are no pages and no numbers
pub record IsEmpty (numbers : Numbers Extent Extent) (d : Disk) : Type 0 where
  pub journal : IsUnmade d.journal.bytes
  pub no_pages : d.pages.bytes ≡ []
  pub nothing : numbers ≡ nothing_yet

abbrev pub OpensAs : Numbers Extent Extent → Disk → Type 0
OpensAs numbers d = IsStore numbers d ⊎ IsEmpty numbers d

abbrev pub Opens : Disk → Type 0
Opens d = (numbers : Numbers Extent Extent) × OpensAs numbers d
