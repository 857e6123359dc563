-- One run after another.
--     Continues new next      the next run has the host and the stage as the last one left them, and a source of its own
--     BeginsFrom c next      after a stop, the next run's host has the bytes that it left
use Rattle.std.specs.Prelude.{◌≡◌, true}
use Rattle.ov_host.specs.Disk.{AllSettled, Image}
use Rattle.ov_top.specs.Ending.{Ends}

pub record Continues (new next : Ends) : Type 0 where
  pub host : next.host ≡ new.host
  pub stage : next.stage ≡ new.stage
  pub script : next.script.tells ≡ true

-- nothing of these bytes is pending; what was printed before, the next run doesn't know
pub record BeginsFrom (c : Image) (next : Ends) : Type 0 where
  pub host : next.host.tells ≡ true
  pub settled : AllSettled next.host.tape.disk
  pub pages : next.host.tape.disk.pages.bytes ≡ c.pages
  pub journal : next.host.tape.disk.journal.bytes ≡ c.journal
  pub script : next.script.tells ≡ true
  pub stage : next.stage.tells ≡ true
