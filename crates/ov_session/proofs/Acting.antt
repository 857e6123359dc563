-- Who acts behind a line.
use Rattle.std.proofs.Common.{◌≡◌, ℕ, true, false, List, refl, sym, ◌∙◌, ap, subst, inl, inr}
use Rattle.std.specs.Prelude.{◌⊎◌, IfOk, MatchResult, Option, Some, None, Result, Ok, Err}
use Rattle.law_runs.specs.Serving.{is_error}
use Rattle.ov_model.specs.Line.{Line, Comment, Asks, Refused}
use Rattle.ov_model.specs.declared.command.Command.{Command}
use Rattle.ov_model.specs.declared.command.Command.TheVariants as asks
use Rattle.ov_model.specs.declared.refusal.Refusal.{Refusal}
use Rattle.ov_model.specs.declared.reply.Reply.{Reply}
use Rattle.ov_model.specs.declared.reply.Reply.TheVariants as says
use Rattle.ov_session.specs.Acting.{IsNextUser, kind_of, user_after, user_by}
use Rattle.ov_session.specs.Commands.{IsSaid}
use Rattle.ov_session.specs.Reads.{becomes_of}
use Rattle.ov_session.specs.declared.errors.EndErr.{EndErr}
use Rattle.ov_session.specs.declared.serving.Served.{Served}
use Rattle.ov_session.specs.declared.serving.Served.TheVariants as served

-- no other command makes anybody the user
pub becomes_none : (command : Command) → ((name : List ℕ) → command ≡ asks.Config name → ⊥) → becomes_of command ≡ None
becomes_none (asks.Checkout cvd vids file None) other = refl
becomes_none (asks.Checkout cvd vids file (Some table)) other = refl
becomes_none (asks.Config name) other = absurd (other name refl)
becomes_none command other = refl

pub stays_so : (command : Command) (result : Result Reply EndErr) (user : List ℕ) → becomes_of command ≡ None
    → MatchResult result (λ reply. user ≡ user_by (becomes_of command) (kind_of reply) user) (λ why. user ≡ user)
stays_so command (Ok reply) user none = sym (ap (λ (o : Option (List ℕ)). user_by o (kind_of reply) user) none)
stays_so command (Err why) user none = refl

-- a comment, or the end of the run before anything is said
pub comment_user : (l : Line) (user : List ℕ) → user ≡ user_after l served.Comment user
comment_user Comment user = refl
comment_user (Asks command) user = by (becomes_of command)
  where
    by : (o : Option (List ℕ)) → user ≡ user_by o served.Comment user
    by None = refl
    by (Some name) = refl
comment_user (Refused refusal) user = refl

-- the user behind a line is the one before, or whom a line that is done makes it
either_by : (found : Option (List ℕ)) (what : Served) (user : List ℕ) → (user_by found what user ≡ user) ⊎ (user_by found what user ≡ user_by found served.Done user)
either_by None what user = inl refl
either_by (Some name) served.Comment user = inl refl
either_by (Some name) served.Done user = inr refl
either_by (Some name) served.Refused user = inl refl

pub user_either : (l : Line) (what : Served) (user : List ℕ) → (user_after l what user ≡ user) ⊎ (user_after l what user ≡ user_after l served.Done user)
user_either Comment what user = inl refl
user_either (Asks command) what user = either_by (becomes_of command) what user
user_either (Refused refusal) what user = inl refl

-- a line that was broken off once it was answered
pub either_next : (l : Line) (what : Served) (user next : List ℕ) → next ≡ user_after l what user → (next ≡ user) ⊎ (next ≡ user_after l served.Done user)
either_next l what user next is = by (user_either l what user)
  where
    by : (user_after l what user ≡ user) ⊎ (user_after l what user ≡ user_after l served.Done user) → (next ≡ user) ⊎ (next ≡ user_after l served.Done user)
    by (inl same) = inl (is ∙ same)
    by (inr done) = inr (is ∙ done)

-- whatever broke it off
pub next_again : (l : Line) (a b : Result Served EndErr) (e f : EndErr) (user next : List ℕ) → a ≡ Err e → b ≡ Err f → IsNextUser l a user next → IsNextUser l b user next
next_again l a b e f user next one other is =
    subst (λ (r : Result Served EndErr). IsNextUser l r user next) (sym other)
    (same (subst (λ (r : Result Served EndErr). IsNextUser l r user next) one is))
  where
    same : IsNextUser l (Err e) user next → IsNextUser l (Err f) user next
    same x = x

-- its reply was printed, or not
module _ (l : Line) (command : Command) (user next : List ℕ) (after : (what : Served) → user_after l what user ≡ user_by (becomes_of command) what user)
    (reply : Reply) (is : next ≡ user_by (becomes_of command) (kind_of reply) user) where
  no_error : (r : Reply) → is_error r ≡ false → kind_of r ≡ served.Done
  no_error (says.Refused refusal) e = cc
  no_error r e = refl

  an_error : (r : Reply) → is_error r ≡ true → kind_of r ≡ served.Refused
  an_error (says.Refused refusal) e = refl
  an_error r e = cc

  to_kind : (what : Served) → IsSaid (is_error reply) what → kind_of reply ≡ what
  to_kind served.Comment said = absurd said
  to_kind served.Done said = no_error reply said
  to_kind served.Refused said = an_error reply said

  pub said_user : (result : Result Served EndErr) → IfOk result (IsSaid (is_error reply)) → IsNextUser l result user next
  said_user (Ok what) said = is ∙ ap (λ (k : Served). user_by (becomes_of command) k user) (to_kind what said) ∙ sym (after what)
  said_user (Err why) said = either_next l (kind_of reply) user next (is ∙ sym (after (kind_of reply)))

-- a line that is refused
pub refused_user : (refusal : Refusal) (user : List ℕ) (result : Result Served EndErr) → IsNextUser (Refused refusal) result user user
refused_user refusal user (Ok what) = refl
refused_user refusal user (Err why) = inl refl
