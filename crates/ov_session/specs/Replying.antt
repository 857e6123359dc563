-- The reply to a line.
--     IsSaidBy line served ..      a line but a comment has one reply, which is printed last
--     IsReplied steps line served ..      and then come steps
use Rattle.std.specs.Prelude.{◌≡◌, ℕ, true}
use Rattle.ov_host.specs.Host.{Calls, Rose, State}
use Rattle.ov_host.specs.Stage.{Staged}
use Rattle.ov_host.specs.Tape.{Prints}
use Rattle.law_runs.specs.Serving.{is_error}
use Rattle.law_runs.specs.Stops.{printed_of}
use Rattle.ov_core.specs.Held.{Held}
use Rattle.ov_model.specs.Line.{Comment, Line, Refused}
use Rattle.ov_model.specs.Replies.{reply_text}
use Rattle.ov_model.specs.declared.reply.Reply.{Reply}
use Rattle.ov_model.specs.declared.reply.Reply.TheVariants as says
use Rattle.ov_session.specs.Commands.{Goes, IfNoFile, IsSaid}
use Rattle.ov_session.specs.Standing.{IsAtSome}
use Rattle.ov_session.specs.Stepping.{NoneBehind}
use Rattle.ov_session.specs.declared.serving.Served.{Served}
use Rattle.ov_session.specs.declared.serving.Served.TheVariants as served

-- a line that is refused is answered by its refusal; a comment has no reply
abbrev pub IsReplyTo : Line → Reply → Type 0
IsReplyTo Comment reply = ⊥
IsReplyTo (Refused refusal) reply = reply ≡ says.Refused refusal
IsReplyTo _ reply = Unit {0}

-- Printed whole, in one print behind what the line did, which printed nothing where the store was at a World. What is served says
-- whether it is an error, and it says that there is no such file only where a miss of the stage was counted in this line.
pub record IsReply (line : Line) (reply : Reply) (what : Served) (held : Held) (stage staged : Staged) (old mid new : State) : Type 0 where
  pub to_line : IsReplyTo line reply
  pub printed : Calls (Prints (reply_text reply)) true mid new
  pub told : mid.tells ≡ old.tells
  pub silent : IsAtSome held old → printed_of mid ≡ printed_of old
  pub kind : IsSaid (is_error reply) what
  pub missed : IfNoFile (Rose stage.misses staged.misses) reply

-- of a comment the host knows nothing
abbrev pub IsSaidBy : Line → Served → Held → Staged → Staged → State → State → Type 0
IsSaidBy line served.Comment held stage staged old new = new ≡ old
IsSaidBy line what held stage staged old new =
    (reply : Reply) × (mid : State) × IsReply line reply what held stage staged old mid new

-- What comes behind the reply prints nothing where the store was at a World; and where no step comes behind the line, the host is as
-- the reply left it.
pub record IsBehind (steps : ℕ) (line : Line) (held : Held) (old said new : State) : Type 0 where
  pub goes : Goes said new
  pub silent : IsAtSome held old → printed_of new ≡ printed_of said
  pub none : NoneBehind steps held.numbers line → new ≡ said

-- and no step comes behind a comment
abbrev pub IsReplied : ℕ → Line → Served → Held → Staged → Staged → State → State → Type 0
IsReplied steps line served.Comment held stage staged old new = new ≡ old
IsReplied steps line what held stage staged old new =
    (reply : Reply) × (mid : State) × (said : State) × IsReply line reply what held stage staged old mid said × IsBehind steps line held old said new
