-- Who acts behind a line.
--     user_after line what user      the user behind a line of this user that came to this
--     user_by name what user, kind_of reply      that behind a command whose row names this one, and what its reply says it came to
--     IsNextUser line result user next      the user behind it; where it was broken off, perhaps still the one before
use Rattle.std.specs.Prelude.{◌≡◌, ◌⊎◌, ℕ, List, Option, Some, None, Result, Ok, Err}
use Rattle.ov_model.specs.Line.{Line, Comment, Asks, Refused}
use Rattle.ov_model.specs.declared.reply.Reply.{Reply}
use Rattle.ov_model.specs.declared.reply.Reply.TheVariants as says
use Rattle.ov_session.specs.Reads.{becomes_of}
use Rattle.ov_session.specs.declared.errors.EndErr.{EndErr}
use Rattle.ov_session.specs.declared.serving.Served.{Served}
use Rattle.ov_session.specs.declared.serving.Served.TheVariants as served

-- the one that the command's row names, where the command wasn't refused
abbrev pub user_by : Option (List ℕ) → Served → List ℕ → List ℕ
user_by None what user = user
user_by (Some name) served.Comment user = user
user_by (Some name) served.Done user = name
user_by (Some name) served.Refused user = user

-- a reply says that it was refused, or that it was done
abbrev pub kind_of : Reply → Served
kind_of (says.Refused refusal) = served.Refused
kind_of reply = served.Done

abbrev pub user_after : Line → Served → List ℕ → List ℕ
user_after Comment what user = user
user_after (Asks command) what user = user_by (becomes_of command) what user
user_after (Refused refusal) what user = user

abbrev pub IsNextUser : Line → Result Served EndErr → List ℕ → List ℕ → Type 0
IsNextUser line (Ok what) user next = next ≡ user_after line what user
IsNextUser line (Err why) user next = (next ≡ user) ⊎ (next ≡ user_after line served.Done user)
