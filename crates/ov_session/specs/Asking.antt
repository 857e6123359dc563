-- What a user's line asks.
--     line_asked user text      a comment, a command that no rule denies, or a refusal
--     refusal_to off      why it asks for nothing
use Rattle.std.specs.Prelude.{◌≡◌, ◌≢◌, ℕ, List}
use Rattle.ov_cmd.specs.Errors.{refusal_of}
use Rattle.ov_cmd.specs.declared.line_err.LineErr.TheVariants as why
use Rattle.ov_model.specs.Forms.{all_forms}
use Rattle.ov_model.specs.Line.{Line, Refused, line_of}
use Rattle.ov_model.specs.Users.{line_by}
use Rattle.ov_model.specs.declared.refusal.Refusal.{Refusal}
use Rattle.ov_model.specs.declared.refusal.Refusal.TheVariants as no
use Rattle.ov_session.specs.declared.lines.Unasked.{Unasked}
use Rattle.ov_session.specs.declared.lines.Unasked.TheVariants as unasked

abbrev pub line_asked : List ℕ → List ℕ → Line
line_asked user text = line_by user (line_of all_forms text)

abbrev pub refusal_to : Unasked → Refusal
refusal_to (unasked.Line off) = refusal_of off
refusal_to (unasked.Denied denied) = no.Denied denied.rule

abbrev pub IsUnasked : Line → Unasked → Type 0
IsUnasked line off = off ≢ unasked.Line why.Memory → line ≡ Refused (refusal_to off)
