-- A line that was answered, and the steps behind it.
use Rattle.std.proofs.Common.{◌≡◌, ◌∙◌, ◌++◌, inl, inr, ℕ, Bool, true, false, List, refl, sym, ap, subst, arith}
use Rattle.std.specs.Prelude.{◌≢◌, ◌≤◌, None, Ok, Err, Result}
use Rattle.ov_host.specs.declared.area.Area.{Area}
use Rattle.ov_host.specs.Host.{Rose, State}
use Rattle.ov_host.specs.Stage.{Staged}
use Rattle.ov_core.specs.AtWorld.{IsAtWorld}
use Rattle.ov_core.specs.Held.{Held}
use Rattle.law_runs.proofs.Behind.{serves_ended, serves_stepped, serves_unstepped}
use Rattle.law_runs.specs.Licence.{LicensedLine}
use Rattle.law_runs.specs.Serving.{Serves}
use Rattle.law_runs.specs.Stepping.{IsStepped}
use Rattle.law_steps.specs.Turns.{running}
use Rattle.ov_model.specs.Act.{Session}
use Rattle.ov_model.specs.Forms.{all_forms}
use Rattle.ov_model.specs.Course.{line_served}
use Rattle.ov_model.specs.Line.{Asks, Comment, Line, Refused, line_of}
use Rattle.ov_model.specs.Users.{line_by}
use Rattle.ov_model.specs.World.{World}
use Rattle.ov_session.proofs.Bounds.{printed_line}
use Rattle.ov_session.proofs.Saying.{comment_by}
use Rattle.ov_session.proofs.Taking.{end_is}
use Rattle.ov_session.specs.Asking.{line_asked}
use Rattle.ov_session.specs.Bounds.{IsFetchedBy}
use Rattle.ov_session.specs.Commands.{Goes, IsDamageOf, IsNoDamage, is_comment_in, is_comment_of}
use Rattle.ov_session.specs.Damages.{IsLineDamaged, IsMetBy}
use Rattle.ov_session.specs.Replying.{IsBehind, IsReplied, IsSaidBy}
use Rattle.ov_session.specs.Standing.{IsAtSilently, IsAtSome, IsIdleOn}
use Rattle.ov_session.specs.Stepping.{IsStepDamaged, NoneBehind, TakesNoStep, line_begins}
use Rattle.ov_session.specs.declared.errors.EndErr.{EndErr}
use Rattle.ov_session.specs.declared.errors.EndErr.TheVariants as ending
use Rattle.ov_session.specs.declared.serving.Served.{Served}
use Rattle.ov_session.specs.declared.serving.Served.TheVariants as served
use Rattle.ov_store.specs.Kept.{Kept}

-- ---- no step

-- none comes where a line began no plan
pub no_step : (steps : ℕ) (l : Line) (before mid : Held) → (line_begins before.numbers l ≡ false → running before.numbers ≡ None → running mid.numbers ≡ None)
    → NoneBehind steps before.numbers l → TakesNoStep steps mid.numbers
no_step steps l before mid begins (inl zero_is) = inl zero_is
no_step steps l before mid begins (inr (none, quiet)) = inr (begins quiet none)

-- then the bounds of the line are those of all
pub fetched_then : (user : List ℕ) (l : Line) (before : Held) (mid now : Kept) (P Q : Type 0) (old said new : State) → (P → Q) → (now ≡ mid) × (new ≡ said)
    → IsFetchedBy user l before mid.held P old said → IsFetchedBy user l before now.held Q old new
fetched_then user l before mid now P Q old said new to same f =
    subst (λ (k : Kept). IsFetchedBy user l before k.held Q old new) (sym same.0)
    (printed_line user l before mid.held P Q old said new to (ap (λ (s : State). s.fetched) same.1) f)

-- ---- damage

module _ (steps : ℕ) (user : List ℕ) (l : Line) (before now : Kept) (stage staged : Staged) (old new : State) where
  abbrev IsMet : ℕ → Type 0
  IsMet page = IsMetBy steps user l before now stage staged old new page

  -- the command's
  pub line_met : (e : EndErr) → IsDamageOf (IsLineDamaged user l stage before.held now.held new) e → IsIdleOn l e before now stage staged old new → IsDamageOf IsMet e
  line_met ending.Host damaged idle = tt
  line_met ending.Stage damaged idle = tt
  line_met ending.Memory damaged idle = tt
  line_met (ending.Damaged area at) damaged idle = (
    damaged.0,
    inl (record {
      damaged = damaged.1;
      idle = subst (λ (a : Area). IsIdleOn l (ending.Damaged a at) before now stage staged old new) damaged.0 idle;
    }),
  )

  -- a step's, behind the reply
  pub step_met : (what : Served) → is_comment_of what ≡ false → (e : EndErr) → IsDamageOf (IsStepDamaged steps now.held new) e
      → ((IsNoDamage e → ⊥) → IsReplied steps l what before.held stage staged old new) → IsDamageOf IsMet e
  step_met what some ending.Host damaged replied = tt
  step_met what some ending.Stage damaged replied = tt
  step_met what some ending.Memory damaged replied = tt
  step_met what some (ending.Damaged area at) damaged replied =
      (damaged.0, inr (record { damaged = damaged.1; served = what; some = some; replied = replied (λ none. none) }))

-- ---- the reply

module _ (steps : ℕ) (l : Line) (held : Held) (stage staged : Staged) (old said new : State) where
  pub replied_then : (what : Served) → is_comment_of what ≡ false → IsSaidBy l what held stage staged old said → IsBehind steps l held old said new
      → IsReplied steps l what held stage staged old new
  replied_then served.Comment some is behind = cc
  replied_then served.Done some is behind = (is.0, is.1, said, is.2, behind)
  replied_then served.Refused some is behind = (is.0, is.1, said, is.2, behind)

  pub replied_none : (what : Served) → is_comment_of what ≡ true → IsSaidBy l what held stage staged old said → IsReplied steps l what held stage staged old said
  replied_none served.Comment none is = is
  replied_none served.Done none is = cc
  replied_none served.Refused none is = cc

-- what the steps do where they ended well, or where they met damage, which they don't at a World
module _ (steps : ℕ) (l : Line) (held mid now : Held) (old said new : State) (goes : Goes said new) (none : NoneBehind steps held.numbers l → new ≡ said)
    (at : IsAtSome held old → IsAtSome mid said) where
  pub behind_done : ((w : World) → IsAtWorld w mid said → IsAtSilently now said new) → IsBehind steps l held old said new
  behind_done silent = record { goes = goes; silent = λ some. let on = at some in (silent on.0 on.1).printed; none = none }

  pub behind_damaged : ((w : World) → IsAtWorld w mid said → ⊥) → IsBehind steps l held old said new
  behind_damaged never = record { goes = goes; silent = λ some. let on = at some in absurd (never on.0 on.1); none = none }

-- ---- what is served

false_true : false ≡ true → ⊥
false_true e = cc

-- a line that isn't a comment for a user is none
pub some_line : (user line : List ℕ) → is_comment_in (line_asked user line) ≡ false → line_of all_forms line ≢ Comment
some_line user line some is = false_true (sym some ∙ ap (λ (l : Line). is_comment_in (line_by user l)) is)

in_comment : (l : Line) → is_comment_in l ≡ true → l ≡ Comment
in_comment Comment is = refl
in_comment (Asks command) is = cc
in_comment (Refused refusal) is = cc

pub no_line : (user line : List ℕ) → is_comment_in (line_asked user line) ≡ true → line_of all_forms line ≡ Comment
no_line user line is = comment_by user (line_of all_forms line) (in_comment (line_asked user line) is)

-- behind a comment no step comes, however many are asked for
pub serves_none : (n : ℕ) (w : World) (s t : Session) (line : List ℕ) (ok refused : Bool) (before now : Held) (old new : State) → line_of all_forms line ≡ Comment
    → Serves all_forms 0 w s t line ok refused before now old new → Serves all_forms n w s t line ok refused before now old new
serves_none n w s t line ok refused before now old new is a = record {
  used = a.used;
  did = a.did;
  acts = λ future ends.
      ap (line_served n w s (a.used ++ future)) is ∙ sym (ap (line_served 0 w s (a.used ++ future)) is) ∙ a.acts future ends;
  licensed = λ entry past within future ends. subst (LicensedLine n entry past w s (a.used ++ future)) (sym is) tt;
  within = a.within;
  stops = a.stops;
  at = a.at;
  printed = a.printed;
  session_is = a.session_is;
  refused_is = a.refused_is;
}

-- the run ended in the line
pub serves_off : (n : ℕ) (w : World) (s t : Session) (line : List ℕ) (before now : Held) (old new : State) → Serves all_forms 0 w s t line false false before now old new
    → Serves all_forms n w s t line false false before now old new
serves_off n w s t line before now old new a = by (line_of all_forms line) refl
  where
    by : (l : Line) → line_of all_forms line ≡ l → Serves all_forms n w s t line false false before now old new
    by Comment is = serves_none n w s t line false false before now old new is a
    by (Asks command) is = serves_unstepped all_forms n w s t line (λ e. no_asks (sym is ∙ e)) false before now old new a
      where
        no_asks : Asks command ≡ Comment → ⊥
        no_asks e = cc
    by (Refused refusal) is = serves_unstepped all_forms n w s t line (λ e. no_refusal (sym is ∙ e)) false before now old new a
      where
        no_refusal : Refused refusal ≡ Comment → ⊥
        no_refusal e = cc

-- its steps were taken, or the run ended in them
module _ (n : ℕ) (w : World) (s t : Session) (line : List ℕ) (some : line_of all_forms line ≢ Comment) (refused : Bool) (before mid now : Held) (old said new : State)
    (a : Serves all_forms 0 w s t line true refused before mid old said) where
  pub serves_steps : (ok : Bool) → ((v : World) → IsAtWorld v mid said → IsStepped n v ok mid now said new) → Serves all_forms n w s t line ok refused before now old new
  serves_steps ok steps = serves_stepped all_forms n w s t line some ok refused before mid now old said new a (steps a.did.world (a.at refl))

  pub serves_halted : ((v : World) → IsAtWorld v mid said → IsStepped n v false mid now said new) → Serves all_forms n w s t line false false before now old new
  serves_halted steps = serves_ended all_forms n w s t t line refused false before now now old new (serves_steps false steps)

-- ---- ends

pub ends_same : {A : Type 0} → (r : Result A EndErr) (e f : EndErr) → r ≡ Err e → r ≡ Err f → e ≡ f
ends_same r e f is as_ = end_is e f (sym is ∙ as_)

pub no_end : {A : Type 0} → (a : A) (e : EndErr) → (let one : Result A EndErr = Ok a in one) ≡ Err e → ⊥
no_end a e is = cc

-- a fault that rose behind the line rose in all
pub rose_behind : (old said new : State) → old.faults ≤ said.faults → Rose said.faults new.faults → Rose old.faults new.faults
rose_behind old said new so_far rose = omega (arith, so_far, rose)
