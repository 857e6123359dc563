-- Each line that asks for a commit lists a version, where its command has what its form reads.
use Rattle.std.proofs.Common.{ℕ, List, [], ◌∷◌}
use Rattle.ov_model.specs.Formed.{AllAsk, AsksSo, IsAsked}
use Rattle.ov_model.specs.Forms.{Form}
use Rattle.ov_model.specs.Line.{Line, Asks, line_of}
use Rattle.ov_model.specs.declared.command.Command.{Command}
use Rattle.ov_model.specs.declared.command.Command.TheVariants as asks
use Rattle.law_partitions.specs.Sound.{NamesVersions, LineNames, AllNameVersions}

command_names : (command : Command) → IsAsked command → NamesVersions command
command_names (asks.Commit cvd vids file message added) is = is.0
command_names command is = tt

line_names : (l : Line) → AsksSo IsAsked l → LineNames l
line_names (Asks command) is = command_names command is
line_names l is = tt

pub lines_name : (forms : List Form) (lines : List (List ℕ)) → AllAsk IsAsked forms lines → AllNameVersions forms lines
lines_name forms [] are = tt
lines_name forms (line ∷ lines) are = (line_names (line_of forms line) are.0, lines_name forms lines are.1)
