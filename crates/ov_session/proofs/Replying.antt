-- What the reply to a line is, and that it says that there is no such file only of a file that was asked for.
use Rattle.std.proofs.Common.{◌≡◌, ◌∙◌, ℕ, List, Some}
use Rattle.std.specs.Prelude.{IfOk, Ok, Err, Result}
use Rattle.std.proofs.lemmas.Option.{same_Some}
use Rattle.ov_cmd.specs.Errors as cmd
use Rattle.ov_cmd.specs.declared.line_err.LineErr.{LineErr}
use Rattle.ov_cmd.specs.declared.line_err.LineErr.TheVariants as line
use Rattle.ov_host.specs.Host.{Rose, State}
use Rattle.ov_host.specs.Stage.{Staged}
use Rattle.ov_core.specs.Held.{Held}
use Rattle.law_runs.specs.Stops.{printed_of}
use Rattle.ov_model.specs.Line.{Line}
use Rattle.ov_model.specs.declared.refusal.Refusal.{Refusal}
use Rattle.ov_model.specs.declared.refusal.Refusal.TheVariants as no
use Rattle.ov_model.specs.declared.reply.Reply.{Reply}
use Rattle.ov_model.specs.declared.reply.Reply.TheVariants as says
use Rattle.ov_session.proofs.Saying.{Says}
use Rattle.ov_session.specs.Asking.{refusal_to}
use Rattle.ov_session.specs.declared.lines.Unasked.{Unasked}
use Rattle.ov_session.specs.declared.lines.Unasked.TheVariants as unasked
use Rattle.ov_session.specs.Commands.{IfNoFile}
use Rattle.ov_session.specs.Errors.{reply_of}
use Rattle.ov_session.specs.Replying.{IsReplyTo, IsSaidBy}
use Rattle.ov_session.specs.Standing.{IsAtSome}
use Rattle.ov_session.specs.declared.errors.EndErr.{EndErr}
use Rattle.ov_session.specs.declared.serving.Served.{Served}
use Rattle.ov_session.specs.declared.serving.Served.TheVariants as served
use Rattle.ov_store.specs.declared.errors.StoreErr.{StoreErr}
use Rattle.ov_store.specs.declared.errors.StoreErr.TheVariants as why

-- ---- refusals that speak of no file

pub other_refusal : (refusal : Refusal) (r : Reply) → Some (says.Refused refusal) ≡ Some r → ((name : List ℕ) → refusal ≡ no.NoFile name → ⊥) → IfNoFile ⊥ r
other_refusal refusal r said other = λ name is. let same : says.Refused refusal ≡ says.Refused (no.NoFile name) = same_Some (says.Refused refusal) r said ∙ is in other name cc

-- those of the store
pub stored_seen : (name : List ℕ) (e : StoreErr) (r : Reply) → reply_of name e ≡ Some r → IfNoFile ⊥ r
stored_seen name why.Host r said = absurd cc
stored_seen name why.Memory r said = absurd cc
stored_seen name (why.Damaged area at) r said = absurd cc
stored_seen name (why.Full pages) r said = other_refusal _ r said (λ file is. cc)
stored_seen name why.JournalFull r said = other_refusal _ r said (λ file is. cc)
stored_seen name why.NoCvd r said = other_refusal _ r said (λ file is. cc)
stored_seen name why.CvdExists r said = other_refusal _ r said (λ file is. cc)
stored_seen name (why.NoVersion vid) r said = other_refusal _ r said (λ file is. cc)
stored_seen name (why.RepeatedVersion vid) r said = other_refusal _ r said (λ file is. cc)
stored_seen name (why.DuplicateKey row) r said = other_refusal _ r said (λ file is. cc)
stored_seen name why.TooManyVersions r said = other_refusal _ r said (λ file is. cc)
stored_seen name why.TooManyRecords r said = other_refusal _ r said (λ file is. cc)
stored_seen name why.TooManyRows r said = other_refusal _ r said (λ file is. cc)
stored_seen name why.TooManyCvds r said = other_refusal _ r said (λ file is. cc)
stored_seen name why.NoNumbers r said = other_refusal _ r said (λ file is. cc)
stored_seen name (why.FormatOne row) r said = other_refusal _ r said (λ file is. cc)

pub result_seen : (name : List ℕ) (e : StoreErr) (result : Result Reply EndErr) → IfOk result (λ r. reply_of name e ≡ Some r) → IfOk result (IfNoFile ⊥)
result_seen name e (Ok r) said = stored_seen name e r said
result_seen name e (Err why) said = tt

-- those of a line
pub line_seen : (e : LineErr) (name : List ℕ) → cmd.refusal_of e ≡ no.NoFile name → ⊥
line_seen line.UnknownCommand name is = cc
line_seen (line.Missing what) name is = cc
line_seen (line.UnexpectedWord nth) name is = cc
line_seen line.BadNumber name is = cc
line_seen line.LongLine name is = cc
line_seen (line.BadKind column) name is = cc
line_seen line.NotUtf8 name is = cc
line_seen line.OpenQuote name is = cc
line_seen line.NoColumns name is = cc
line_seen line.TooManyColumns name is = cc
line_seen (line.BadName bad) name is = cc
line_seen (line.RepeatedName bad) name is = cc
line_seen line.NoKey name is = cc
line_seen (line.UnknownKey bad) name is = cc
line_seen (line.RepeatedKey bad) name is = cc
line_seen line.Memory name is = cc

-- nor of a rule
pub asked_seen : (off : Unasked) (name : List ℕ) → refusal_to off ≡ no.NoFile name → ⊥
asked_seen (unasked.Line e) name is = line_seen e name is
asked_seen (unasked.Denied denied) name is = cc

-- what speaks of none needs no miss
pub seen_missed : (P : Type 0) (result : Result Reply EndErr) → IfOk result (IfNoFile ⊥) → IfOk result (IfNoFile P)
seen_missed P (Ok r) seen = λ name is. absurd (seen name is)
seen_missed P (Err why) seen = tt

-- a file's refusal, as the reply
pub refused_missed : (P : Type 0) (refusal : Refusal) → ((file : List ℕ) → refusal ≡ no.NoFile file → P) → IfNoFile P (says.Refused refusal)
refused_missed P refusal missed = λ name is. missed name cc

-- ---- the reply was printed

module _ (l : Line) (reply : Reply) (held : Held) (stage staged : Staged) (old mid new : State) (to_line : IsReplyTo l reply) (told : mid.tells ≡ old.tells)
    (silent : IsAtSome held old → printed_of mid ≡ printed_of old) (missed : IfNoFile (Rose stage.misses staged.misses) reply) where
  pub is_replied : (result : Result Served EndErr) → Says reply result mid new → IfOk result (λ what. IsSaidBy l what held stage staged old new)
  is_replied (Err why) says_ = tt
  is_replied (Ok served.Comment) says_ = absurd says_.answer
  is_replied (Ok served.Done) says_ =
      (reply, mid, record { to_line = to_line; printed = says_.printed (λ e. cc); told = told; silent = silent; kind = says_.answer; missed = missed })
  is_replied (Ok served.Refused) says_ =
      (reply, mid, record { to_line = to_line; printed = says_.printed (λ e. cc); told = told; silent = silent; kind = says_.answer; missed = missed })
