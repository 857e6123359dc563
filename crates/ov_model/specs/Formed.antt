-- What a command has that a line asks for, whatever the store has: what the command's form reads.
--     IsAsked command      one row for each command, whether it is built or not
--     AsksSo P line      of the command that a line asks for, where it asks for one, P holds
--     AllAsk P forms lines      so it is of each of these lines, by these forms
use Rattle.std.specs.Prelude.{◌≢◌, ◌≤◌, ◌+◌, ℕ, List, [], ◌∷◌, length, Some, IsTrue}
use Rattle.ov_value.specs.Naming.{is_name}
use Rattle.ov_model.specs.Forms.{Form}
use Rattle.ov_model.specs.Line.{Line, Comment, Asks, Refused, line_of}
use Rattle.ov_model.specs.declared.command.Command.{Command}
use Rattle.ov_model.specs.declared.command.Command.TheVariants as asks

-- a name to begin under, a version at least, a message of up to 1,024 bytes, a column at least where any are added, a text of up to
-- 65,536 bytes, and numbers within their bounds; where nothing is said, its words may be anything that its form reads
abbrev pub IsAsked : Command → Type 0
IsAsked (asks.Init cvd schema file) = IsTrue (is_name cvd)
IsAsked (asks.Checkout cvd vids file table) = vids ≢ []
IsAsked (asks.Commit cvd vids file message added) = (vids ≢ []) × (length message ≤ 1024) × (added ≢ Some [])
IsAsked (asks.CommitStaged user table message) = length message ≤ 1024
IsAsked (asks.Run text) = length text ≤ 65536
IsAsked (asks.Optimize cvd p q) = Unit {0}
IsAsked (asks.OptimizeWithin cvd budget) = Unit {0}
IsAsked (asks.Advise cvd budget a b) = Unit {0}
IsAsked (asks.Migrate count) = Unit {0}
IsAsked (asks.Layout cvd) = Unit {0}
IsAsked (asks.Log cvd) = Unit {0}
IsAsked asks.Ls = Unit {0}
IsAsked (asks.DropCvd cvd) = Unit {0}
IsAsked asks.Checkpoint = Unit {0}
IsAsked (asks.Generate cvd seed rows versions) =
    IsTrue (is_name cvd) × (1 ≤ rows) × (1 ≤ versions) × (versions ≤ 65535) × (rows + versions ≤ 1000000)
IsAsked (asks.CreateUser name) = Unit {0}
IsAsked (asks.Config name) = Unit {0}
IsAsked asks.Whoami = Unit {0}
IsAsked (asks.Unstage user table) = Unit {0}
IsAsked asks.Tables = Unit {0}

abbrev pub AsksSo : (Command → Type 0) → Line → Type 0
AsksSo P Comment = Unit {0}
AsksSo P (Asks command) = P command
AsksSo P (Refused refusal) = Unit {0}

abbrev pub AllAsk : (Command → Type 0) → List Form → List (List ℕ) → Type 0
AllAsk P forms [] = Unit {0}
AllAsk P forms (line ∷ lines) = AsksSo P (line_of forms line) × AllAsk P forms lines
