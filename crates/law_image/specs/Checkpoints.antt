-- An image of the disk after a checkpoint.
--     IsCheckpointed kept events next snapshot old new      the image after a checkpoint
--     IsOldCheckpointed ..      the same after one that an earlier program took in a store of format 1, which left that number
use Rattle.std.specs.Prelude.{◌≡◌, ◌+◌, ℕ, List}
use Rattle.ov_host.specs.Disk.{Image}
use Rattle.ov_event.specs.declared.event.Event.{Event}
use Rattle.ov_journal.specs.Journal.{Kept, IsJournal}
use Rattle.ov_catalog.specs.Extents.{live}
use Rattle.ov_catalog.specs.Raw.{numbers_in}
use Rattle.ov_catalog.specs.Snapshots.{IsSnapshot}
use Rattle.law_image.specs.Images.{Spell}
use Rattle.law_image.specs.Pages.{SameLive}

-- The journal is one of the next epoch and of this format, whose payloads spell the Base and the Wholes of the numbers where the old
-- events end; and the pages of the live extents have the same bytes.
pub record IsTurned (number : ℕ) (kept : Kept) (events : List Event) (next : Kept) (snapshot : List Event) (old new : Image) : Type 0 where
  pub journal : IsJournal next new.journal
  pub epoch : next.epoch ≡ kept.epoch + 1
  pub format : next.format ≡ number
  pub spell : Spell snapshot next.payloads
  pub says : IsSnapshot snapshot (numbers_in events)
  pub pages : SameLive (live (numbers_in events)) old.pages new.pages

abbrev pub IsCheckpointed : Kept → List Event → Kept → List Event → Image → Image → Type 0
IsCheckpointed kept events next snapshot old new = IsTurned 2 kept events next snapshot old new

abbrev pub IsOldCheckpointed : Kept → List Event → Kept → List Event → Image → Image → Type 0
IsOldCheckpointed kept events next snapshot old new = (kept.format ≡ 1) × IsTurned 1 kept events next snapshot old new
