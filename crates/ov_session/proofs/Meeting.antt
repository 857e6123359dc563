-- A checkout that is answered met no damage.
use Rattle.std.proofs.Common.{◌≡◌, ◌∙◌, ℕ, List, Some, true, sym, ap, subst}
use Rattle.std.specs.Prelude.{IfOk, OnOk, Option, Ok, Err, Result}
use Rattle.ov_host.specs.Host.{State}
use Rattle.ov_core.specs.Held.{Held}
use Rattle.ov_fetch.specs.Extents.{page_bytes}
use Rattle.ov_model.specs.Line.{Asks, Comment, Refused}
use Rattle.ov_model.specs.declared.command.Command.{Command}
use Rattle.ov_model.specs.declared.refusal.Refusal.{Refusal}
use Rattle.ov_model.specs.declared.reply.Reply.{Reply}
use Rattle.ov_read.specs.Damages.{IsDamage}
use Rattle.ov_session.proofs.Bounds.{none_off}
use Rattle.ov_session.proofs.Lookups.{unscanned_off}
use Rattle.ov_session.specs.Commands.{IsScanDamaged}
use Rattle.ov_session.specs.Errors.{reply_of}
use Rattle.ov_session.specs.declared.errors.EndErr.{EndErr}
use Rattle.ov_store.specs.Committing.{Set}
use Rattle.ov_store.specs.Scanning.{IsDamagedIn, IsUnscanned, scan_off, set_in}
use Rattle.ov_store.specs.declared.errors.StoreErr.{StoreErr}

-- what a scan that is Ok says
pub whole_in : (o : Option Set) (set : Set) (vids : List ℕ) (old : State) (page : ℕ) → o ≡ Some set → old.tells ≡ true
    → ((page : ℕ) → IsDamage (page_bytes old) set vids page → ⊥) → IsDamagedIn o vids old page → ⊥
whole_in o set vids old page is told whole damaged = whole page (subst (λ (x : Option Set). IsDamagedIn x vids old page) is damaged told)

module _ (held : Held) (name cvd vids : List ℕ) (old new : State) (page : ℕ) (same : name ≡ cvd) where
  abbrev IsMet : Type 0
  IsMet = IsScanDamaged cvd vids held old page

  pub given_whole : {A : Type 0} → (result : Result A EndErr) → (IsDamagedIn (set_in held.numbers name) vids old page → ⊥) → OnOk result (IsMet → ⊥)
  given_whole (Ok a) whole = λ met. whole (subst (λ (n : List ℕ). IsDamagedIn (set_in held.numbers n) vids old page) (sym same) met.1)
  given_whole (Err why) whole = tt

  -- what the numbers refuse is no damage
  pub refused_whole : (e : StoreErr) (result : Result Reply EndErr) → IsUnscanned (scan_off held.numbers name vids) (set_in held.numbers name) vids old new e
      → IfOk result (λ r. reply_of cvd e ≡ Some r) → OnOk result (IsMet → ⊥)
  refused_whole e (Ok r) is said = λ met.
      none_off e met.0
      (ap (λ (n : List ℕ). scan_off held.numbers n vids) (sym same)
      ∙ (unscanned_off cvd vids (scan_off held.numbers name vids) (set_in held.numbers name) old new e r is said).0)
  refused_whole e (Err why) is said = tt

-- ---- what a line asks

pub same_command : (a b : Command) → Asks a ≡ Asks b → a ≡ b
same_command a b is = cc

pub comment_asks : (command : Command) → Comment ≡ Asks command → ⊥
comment_asks command is = cc

pub refused_asks : (refusal : Refusal) (command : Command) → Refused refusal ≡ Asks command → ⊥
refused_asks refusal command is = cc
