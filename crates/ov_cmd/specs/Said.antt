-- What reading a line answers, as the definition has it.
--     said c      a comment, or what the command asks for
--     RefusesLine l e      the line is refused so, but for want of memory
use Rattle.std.specs.Prelude.{◌≡◌, ◌≢◌, Option, Some, None}
use Rattle.ov_model.specs.declared.command.Command.{Command}
use Rattle.ov_model.specs.Line.{Line, Comment, Asks, Refused}
use Rattle.ov_cmd.specs.Errors.{refusal_of}
use Rattle.ov_cmd.specs.declared.line_err.LineErr.{LineErr}
use Rattle.ov_cmd.specs.declared.line_err.LineErr.TheVariants as why

abbrev pub said : Option Command → Line
said None = Comment
said (Some command) = Asks command

abbrev pub RefusesLine : Line → LineErr → Type 0
RefusesLine line e = e ≢ why.Memory → line ≡ Refused (refusal_of e)
