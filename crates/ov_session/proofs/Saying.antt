-- A line and its reply.
use Rattle.std.proofs.Common.{◌≡◌, ◌∙◌, ℕ, Bool, true, false, List, refl, sym, ap, subst}
use Rattle.std.specs.Prelude.{IfErr, IfOk, IsErrOf, Ok, Err, Option, Some, None, Result, is_ok}
use Rattle.ov_host.specs.Host.{Calls, State}
use Rattle.ov_host.specs.Tape.{Prints}
use Rattle.ov_core.specs.AtWorld.{IsAtWorld}
use Rattle.ov_core.specs.Held.{Held}
use Rattle.law_runs.proofs.Lines.{asked_by, breaks_permitted, does_permitted, served_refused, serves_broken, serves_comment, serves_refusal, serves_refusal_silent, serves_refusal_unsaid, serves_reply, serves_silent, serves_unsaid}
use Rattle.law_runs.specs.Serving.{Breaks, Does, Serves, is_error}
use Rattle.ov_model.specs.Act.{Session}
use Rattle.ov_model.specs.Deed.{deed, permitted}
use Rattle.ov_model.specs.Forms.{all_forms}
use Rattle.law_runs.proofs.Doing.{breaks_looked}
use Rattle.ov_model.specs.Line.{Asks, Comment, Line, Refused, line_of}
use Rattle.ov_model.specs.Replies.{reply_text}
use Rattle.ov_model.specs.Users.{line_by, permit, unless_denied}
use Rattle.ov_model.specs.World.{World}
use Rattle.ov_model.specs.declared.command.Command.{Command}
use Rattle.ov_model.specs.declared.refusal.Refusal.{Refusal}
use Rattle.ov_model.specs.declared.reply.Reply.{Reply}
use Rattle.ov_model.specs.declared.reply.Reply.TheVariants as says
use Rattle.ov_session.specs.Asking.{line_asked}
use Rattle.ov_session.specs.Commands.{IsSaid, IsUnsaid, is_comment_in, is_comment_of, is_refused}
use Rattle.ov_session.specs.declared.errors.EndErr.{EndErr}
use Rattle.ov_session.specs.declared.errors.EndErr.TheVariants as ending
use Rattle.ov_session.specs.declared.serving.Served.{Served}
use Rattle.ov_session.specs.declared.serving.Served.TheVariants as served

-- what printing a reply answers
pub record Says (reply : Reply) (result : Result Served EndErr) (mid new : State) : Type 0 where
  pub answer : IfOk result (IsSaid (is_error reply))
  pub why : IfErr result IsUnsaid
  pub silent : IsErrOf result ending.Memory → new ≡ mid
  pub printed : (IsErrOf result ending.Memory → ⊥) → Calls (Prints (reply_text reply)) (is_ok result) mid new

abbrev failed : Result Served EndErr
failed = Err ending.Host

abbrev went : Served → Result Served EndErr
went x = Ok x

host_is_not : IsErrOf failed ending.Memory → ⊥
host_is_not e = cc

done_is_not : (x : Served) → IsErrOf (went x) ending.Memory → ⊥
done_is_not x e = cc

-- of a command
says_done : (w : World) (s t : Session) (line : List ℕ) (command : Command) (reply : Reply) (before now : Held) (old mid new : State)
    → line_of all_forms line ≡ Asks command → Does (deed w s command) s t w reply before now old mid → (result : Result Served EndErr) → Says reply result mid new
    → Serves all_forms 0 w s t line (is_ok result) (is_refused result) before now old new
says_done w s t line command reply before now old mid new asks does (Ok served.Comment) says_ = absurd says_.answer
says_done w s t line command reply before now old mid new asks does (Ok served.Done) says_ =
    subst (λ (r : Bool). Serves all_forms 0 w s t line true r before now old new) says_.answer
    (serves_reply all_forms w s t line command reply before now old mid new asks does true (reply_text reply) refl refl (says_.printed (done_is_not served.Done)))
says_done w s t line command reply before now old mid new asks does (Ok served.Refused) says_ =
    subst (λ (r : Bool). Serves all_forms 0 w s t line true r before now old new) says_.answer
    (serves_reply all_forms w s t line command reply before now old mid new asks does true (reply_text reply) refl refl (says_.printed (done_is_not served.Refused)))
says_done w s t line command reply before now old mid new asks does (Err ending.Host) says_ =
    serves_unsaid all_forms w s t line command reply before now old mid new asks does false (reply_text reply) t false now refl (says_.printed host_is_not)
says_done w s t line command reply before now old mid new asks does (Err ending.Memory) says_ =
    serves_silent all_forms w s t line command reply before now old mid new asks does t false now (ap (λ (x : State). x.tape) (says_.silent refl))
says_done w s t line command reply before now old mid new asks does (Err ending.Stage) says_ = absurd says_.why
says_done w s t line command reply before now old mid new asks does (Err (ending.Damaged area at)) says_ = absurd says_.why

-- of one that no rule denies
pub says_reply : (w : World) (s t : Session) (line : List ℕ) (command : Command) (reply : Reply) (before now : Held) (old mid new : State)
    → line_asked s.user line ≡ Asks command → Does (permitted w s command) s t w reply before now old mid → (result : Result Served EndErr) → Says reply result mid new
    → Serves all_forms 0 w s t line (is_ok result) (is_refused result) before now old new
says_reply w s t line command reply before now old mid new asks does result says_ =
    let both = asked_by s.user (line_of all_forms line) command asks
    in says_done w s t line command reply before now old mid new both.0 (does_permitted w s t command reply before now old mid both.1 does) result says_

-- it was broken off
pub says_broken : (w : World) (s t : Session) (line : List ℕ) (command : Command) (before later : Held) (old new : State)
    → line_asked s.user line ≡ Asks command → Breaks (permitted w s command) s w old new → Serves all_forms 0 w s t line false false before later old new
says_broken w s t line command before later old new asks breaks =
    let both = asked_by s.user (line_of all_forms line) command asks
    in serves_broken all_forms 0 w s t line command false before later old new both.0 (breaks_permitted w s command old new both.1 breaks)

-- a comment is one for every user
pub comment_by : (user : List ℕ) (l : Line) → line_by user l ≡ Comment → l ≡ Comment
comment_by user Comment e = refl
comment_by user (Refused refusal) e = absurd cc
comment_by user (Asks command) e = by (permit user command) e
  where
    by : (found : Option Refusal) → unless_denied found command ≡ Comment → Asks command ≡ Comment
    by None e = e
    by (Some refusal) e = absurd cc

pub says_comment : (w : World) (s : Session) (line : List ℕ) (held : Held) (st : State) → line_asked s.user line ≡ Comment → IsAtWorld w held st
    → Serves all_forms 0 w s s line true false held held st st
says_comment w s line held st is at = serves_comment all_forms 0 w s line held st st (comment_by s.user (line_of all_forms line) is) at refl refl

-- of a line that is refused
pub says_refusal : (w : World) (s : Session) (line : List ℕ) (refusal : Refusal) (held : Held) (old new : State) → line_asked s.user line ≡ Refused refusal
    → IsAtWorld w held old → (result : Result Served EndErr) → Says (says.Refused refusal) result old new
    → Serves all_forms 0 w s s line (is_ok result) (is_refused result) held held old new
says_refusal w s line refusal held old new is at (Ok served.Comment) says_ = absurd says_.answer
says_refusal w s line refusal held old new is at (Ok served.Done) says_ =
    subst (λ (r : Bool). Serves all_forms 0 w s s line true r held held old new) says_.answer
    (serves_refusal all_forms w s line refusal held old new (served_refused all_forms 0 w s line refusal is) at true (reply_text (says.Refused refusal)) refl refl (says_.printed (done_is_not served.Done)))
says_refusal w s line refusal held old new is at (Ok served.Refused) says_ =
    serves_refusal all_forms w s line refusal held old new (served_refused all_forms 0 w s line refusal is) at true (reply_text (says.Refused refusal)) refl refl (says_.printed (done_is_not served.Refused))
says_refusal w s line refusal held old new is at (Err ending.Host) says_ =
    serves_refusal_unsaid all_forms w s line refusal held old new (served_refused all_forms 0 w s line refusal is) at false (reply_text (says.Refused refusal)) s false held refl (says_.printed host_is_not)
says_refusal w s line refusal held old new is at (Err ending.Memory) says_ =
    serves_refusal_silent all_forms w s line refusal held old new (served_refused all_forms 0 w s line refusal is) at s false held (ap (λ (x : State). x.tape) (says_.silent refl))
says_refusal w s line refusal held old new is at (Err ending.Stage) says_ = absurd says_.why
says_refusal w s line refusal held old new is at (Err (ending.Damaged area at_)) says_ = absurd says_.why

-- ended where nothing was printed, the host being at most looked at
refusal_unsaid : (w : World) (s : Session) (line : List ℕ) (refusal : Refusal) (held : Held) (st : State) → line_asked s.user line ≡ Refused refusal
    → IsAtWorld w held st → Serves all_forms 0 w s s line false false held held st st
refusal_unsaid w s line refusal held st is at = serves_refusal_silent all_forms w s line refusal held st st (served_refused all_forms 0 w s line refusal is) at s false held refl

-- no memory for the refusal of a line: the line asks for a command, is refused, or is a comment
pub line_unserved : (w : World) (s : Session) (line : List ℕ) (held : Held) (st : State) → IsAtWorld w held st → Serves all_forms 0 w s s line false false held held st st
line_unserved w s line held st at = by (line_of all_forms line) refl
  where
    by : (l : Line) → line_of all_forms line ≡ l → Serves all_forms 0 w s s line false false held held st st
    by Comment is =
        let whole : Serves all_forms 0 w s s line true false held held st st = serves_comment all_forms 0 w s line held st st is at refl refl
        in record {
          used = whole.used;
          did = whole.did;
          acts = λ future ends. whole.acts future (λ e. absurd cc);
          licensed = λ entry past within future ends. whole.licensed entry past within future (λ e. absurd cc);
          within = λ e. absurd cc;
          stops = whole.stops;
          at = λ e. absurd cc;
          printed = λ e. absurd cc;
          session_is = λ e. absurd cc;
          refused_is = λ e. absurd cc;
        }
    by (Asks command) is = serves_broken all_forms 0 w s s line command false held held st st is (breaks_looked (deed w s command) s w held st st at refl)
    by (Refused refusal) is = refusal_unsaid w s line refusal held st (ap (line_by s.user) is) at

-- what has a reply is no comment
pub comment_none : (l m : Line) (error : Bool) (result : Result Served EndErr) → l ≡ m → is_comment_in l ≡ false → IfOk result (IsSaid error)
    → IfOk result (λ x. is_comment_of x ≡ is_comment_in m)
comment_none l m error (Ok served.Comment) is none said = absurd said
comment_none l m error (Ok served.Done) is none said = sym (sym (ap is_comment_in is) ∙ none)
comment_none l m error (Ok served.Refused) is none said = sym (sym (ap is_comment_in is) ∙ none)
comment_none l m error (Err why) is none said = tt
