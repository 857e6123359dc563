-- Sessions, moves and deeds as the programs keep them, and what of the definitions each one is.
use Rattle.std.specs.Prelude.{◌+◌, Bool, true, false, List, [], ◌∷◌, ◌++◌, length, map, Some, None, Result, Ok, Err}
use Rattle.ov_model.specs.Act.{Files, put, refuses, Session as KnownSession, Deed as KnownDeed}
use Rattle.ov_model.specs.Book.{Row, Version}
use Rattle.ov_model.specs.Moves.{Move as KnownMove, Init, Commit, BeginPlan, Copy, Flip, Drop, Checkpoint, committed}
use Rattle.ov_model.specs.Plans.{planned, copied_more, flipped}
use Rattle.ov_model.specs.Records.{Rec, records_of, fresh_in}
use Rattle.ov_model.specs.World.{Dataset}
use Rattle.ov_model.specs.declared.command.Command.{Command}
use Rattle.ov_model.specs.declared.command.Command.TheVariants as asks
use Rattle.ov_model.specs.declared.refusal.Refusal.{Refusal}
use Rattle.ov_model.specs.declared.reply.LogLine.{LogLine}
use Rattle.ov_plain_act.specs.declared.changes.Change.{Change}
use Rattle.ov_plain_act.specs.declared.changes.Change.TheVariants as changes
use Rattle.ov_plain_act.specs.declared.deed.Deed.{Deed}
use Rattle.ov_plain_act.specs.declared.deed.Move.{Move}
use Rattle.ov_plain_act.specs.declared.deed.Move.TheVariants as kept
use Rattle.ov_plain_act.specs.declared.session.File.{File}
use Rattle.ov_plain_act.specs.declared.session.Session.{Session}

-- the files of a list, the newest first
abbrev pub files_of : List File → Files
files_of [] = λ name. None
files_of (file ∷ files) = put (files_of files) file.name file.bytes

abbrev pub session_of : Session → KnownSession
session_of s = record { files = files_of s.files; user = s.user }

abbrev pub move_of : Move → KnownMove
move_of (kept.Init name schema rows) = Init name schema rows
move_of (kept.Commit cvd added version) = Commit cvd version.parents version.message added version.rows
move_of (kept.BeginPlan cvd p q) = BeginPlan cvd p q
move_of (kept.Copy cvd) = Copy cvd
move_of (kept.Flip cvd) = Flip cvd
move_of (kept.Drop cvd) = Drop cvd
move_of kept.Checkpoint = Checkpoint

-- what a change makes of the dataset that it is of
abbrev pub changed_by : Change → Dataset → Dataset
changed_by (changes.Version added version) = committed version.parents version.message added version.rows
changed_by (changes.Plan p q) = planned p q
changed_by changes.Copy = copied_more
changed_by changes.Flip = flipped

abbrev pub deed_of : Deed → KnownDeed
deed_of d = record {
  moves = map move_of d.moves;
  reply = d.reply;
  counts_steps = d.counts_steps;
  session = session_of d.session;
}

-- a refusal, or what comes of these rows
abbrev pub came : KnownSession → (List Row → KnownDeed) → Result (List Row) Refusal → KnownDeed
came s next (Err refusal) = refuses s refusal
came s next (Ok rows) = next rows

-- Whether a command's act is computed here.
abbrev pub is_plain : Command → Bool
is_plain (asks.Init cvd schema file) = true
is_plain (asks.Checkout cvd vids file table) = true
is_plain (asks.Commit cvd vids file message added) = true
is_plain (asks.CommitStaged user table message) = true
is_plain (asks.Run text) = false
is_plain (asks.Optimize cvd p q) = true
is_plain (asks.OptimizeWithin cvd budget) = true
is_plain (asks.Advise cvd budget a b) = true
is_plain (asks.Migrate count) = true
is_plain (asks.Layout cvd) = true
is_plain (asks.Log cvd) = true
is_plain asks.Ls = true
is_plain (asks.DropCvd cvd) = true
is_plain asks.Checkpoint = true
is_plain (asks.Generate cvd seed rows versions) = false
is_plain (asks.CreateUser name) = true
is_plain (asks.Config name) = true
is_plain asks.Whoami = true
is_plain (asks.Unstage user table) = true
is_plain asks.Tables = true

-- the lines of a log, by the records of the versions before
abbrev pub lines_after : List (List Rec) → List Version → List LogLine
lines_after done [] = []
lines_after done (v ∷ vs) =
    record {
      vid = length done + 1;
      rows = length v.rows;
      fresh = length (fresh_in (records_of v done) (length done + 1));
      parents = v.parents;
      message = v.message;
    } ∷ lines_after (done ++ records_of v done ∷ []) vs
