-- Each command that a line asks for.
use Rattle.std.proofs.Common.{◌≡◌, ℕ, List, subst}
use Rattle.std.specs.Prelude.{Option, Some, None, Result, Ok, Err, IfOk}
use Rattle.ov_model.specs.Formed.{AsksSo, IsAsked}
use Rattle.ov_model.specs.Forms.{all_forms}
use Rattle.ov_model.specs.Line.{line_of}
use Rattle.ov_model.specs.declared.command.Command.{Command}
use Rattle.ov_model.proofs.AllFormed.{line_asks}
use Rattle.ov_cmd.specs.Asked.{AsksAny}
use Rattle.ov_cmd.specs.Said.{said}
use Rattle.ov_cmd.specs.declared.line_err.LineErr.{LineErr}

any_said : (line : List ℕ) (c : Option Command) → line_of all_forms line ≡ said c → AsksAny c
any_said line None e = tt
any_said line (Some command) e = subst (AsksSo IsAsked) e (line_asks line)

pub asks_any : (line : List ℕ) (r : Result (Option Command) LineErr) → IfOk r (λ c. line_of all_forms line ≡ said c) → IfOk r AsksAny
asks_any line (Ok c) e = any_said line c e
asks_any line (Err why) e = tt
