-- The split of a finished plan on the disk that a run leaves.
--     LeavesSplit w c d p q      the image stands for the World by a journal whose events say the split, as read of the pages
use Rattle.std.specs.Prelude.{ℕ, List}
use Rattle.law_image.specs.Images.{StandsBy}
use Rattle.law_image.specs.Pages.{readings_of}
use Rattle.law_plans.specs.OnDisk.{IsSplitOnDisk}
use Rattle.ov_event.specs.declared.event.Event.{Event}
use Rattle.ov_host.specs.Disk.{Image}
use Rattle.ov_journal.specs.Journal.{Kept}
use Rattle.ov_model.specs.World.{Dataset, World}

pub record LeavesSplit (w : World) (c : Image) (d : Dataset) (p q : ℕ) : Type 0 where
  pub kept : Kept
  pub events : List Event
  pub stands : StandsBy kept events w c
  pub split : IsSplitOnDisk events (readings_of c.pages) d p q
