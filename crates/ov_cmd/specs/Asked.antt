-- What a command that a line asks for is known to have.
--     AsksAny c      a comment, or a command with what its form reads
use Rattle.std.specs.Prelude.{Option, Some, None}
use Rattle.ov_model.specs.Formed.{IsAsked}
use Rattle.ov_model.specs.declared.command.Command.{Command}

abbrev pub AsksAny : Option Command → Type 0
AsksAny None = Unit {0}
AsksAny (Some command) = IsAsked command
