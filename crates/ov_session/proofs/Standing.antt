-- Where a line leaves the store, whatever the stage tells.
use Rattle.std.proofs.Common.{◌≡◌, ℕ, List, Some, None, true, refl, sym, ap, subst, arith}
use Rattle.std.specs.Prelude.{IfErr, IfOk, IsErrOf, OnOk, Ok, Err, Result}
use Rattle.ov_host.specs.Host.{State}
use Rattle.ov_host.specs.Stage.{Staged}
use Rattle.ov_host.specs.Tape.{Tape}
use Rattle.ov_core.specs.AtWorld.{IsAtNext, IsAtWorld}
use Rattle.ov_core.specs.Held.{Held}
use Rattle.law_runs.proofs.Found.{at_same_tape, printed_at}
use Rattle.ov_fetch.specs.Extents.{Looked}
use Rattle.ov_model.specs.Replies.{reply_text}
use Rattle.ov_model.specs.Line.{Line, Comment, Asks, Refused}
use Rattle.ov_model.specs.World.{World}
use Rattle.ov_model.specs.declared.command.Command.{Command}
use Rattle.ov_model.specs.declared.reply.Reply.{Reply}
use Rattle.ov_session.proofs.Calls.{stays_still}
use Rattle.ov_session.proofs.Saying.{Says}
use Rattle.ov_session.specs.Commands.{IfDamaged, IsNoDamage, IsNoHost, IsUnsaid}
use Rattle.ov_session.specs.Errors.{end_of, reply_of}
use Rattle.ov_session.specs.Reads.{Changes, Nothing, Once, Several, File, Unused, Taken, Given, GivenBehind, changes_of, file_of}
use Rattle.ov_session.specs.Standing.{Idle, IsAtSilently, IsAtSome, IsIdle, IsIdleBy, IsIdleFor, IsIdleOf, IsIdleOn, IsUnstaged}
use Rattle.ov_session.specs.declared.errors.EndErr.{EndErr}
use Rattle.ov_session.specs.declared.errors.EndErr.TheVariants as ending
use Rattle.ov_session.specs.declared.serving.Served.{Served}
use Rattle.ov_store.specs.Kept.{Kept, Stays}
use Rattle.ov_store.specs.declared.errors.StoreErr.{StoreErr}
use Rattle.ov_store.specs.declared.errors.StoreErr.TheVariants as why

-- ---- at a World

-- the host was at most looked at
pub at_looked : (w : World) (held : Held) (old new : State) → IsAtWorld w held old → Looked old new → IsAtSilently held old new
at_looked w held old new at looked =
    let tape : new.tape ≡ old.tape = looked.tape at.at.told
    in record { at = (w, at_same_tape w held old new looked.told tape at); printed = ap (λ (t : Tape). t.disk.printed) tape }

pub at_still : (w : World) (held : Held) (s : State) → IsAtWorld w held s → IsAtSilently held s s
at_still w held s at = record { at = (w, at); printed = refl }

pub at_next : (w : World) (held : Held) (old new : State) → IsAtNext w held old new → IsAtSilently held old new
at_next w held old new next = record { at = (w, next.at); printed = next.printed_same }

-- what holds anyway
pub on_any : {A : Type 0} → (P : Type 0) (result : Result A EndErr) → P → OnOk result P
on_any P (Ok a) p = p
on_any P (Err why) p = tt

-- a refusal of the store, or the end of the run
pub at_refused : (w : World) (name : List ℕ) (e : StoreErr) (result : Result Reply EndErr) (before now : Kept) (old new : State) → IfOk result (λ r. reply_of name e ≡ Some r)
    → Stays e before now old new → IsAtWorld w before.held old → OnOk result (IsAtSilently now.held old new)
at_refused w name e (Err why) before now old new said stays at = tt
at_refused w name e (Ok r) before now old new said stays at =
    let still = stays_still name e r before now old new said stays
    in subst (λ (k : Kept). IsAtSilently k.held old new) (sym still.0) (at_looked w before.held old new at still.1)

-- its reply was printed
pub at_said : (held : Held) (mid new : State) (reply : Reply) (result : Result Served EndErr) → Says reply result mid new → IsAtSome held mid → OnOk result (IsAtSome held new)
at_said held mid new reply (Err why) says at = tt
at_said held mid new reply (Ok what) says at = (at.0, printed_at at.0 held mid new true (reply_text reply) refl at.1 (says.printed (λ e. cc)))

-- ---- nothing was changed

looked_same : (s : State) → Looked s s
looked_same s = record { told = refl; kept = refl; tape = λ told. refl; faults = omega arith; fetched = omega arith }

pub idle_same : (k : Kept) (s : State) → Idle k k s s
idle_same k s = record { store = refl; looked = looked_same s }

module _ (before now : Kept) (stage staged : Staged) (old new : State) where
  -- at any end
  pub idle_unmoved : (e : EndErr) → Idle before now old new → staged.files ≡ stage.files → IsIdle e before now stage staged old new
  idle_unmoved ending.Host idle files = tt
  idle_unmoved ending.Memory idle files = tt
  idle_unmoved ending.Stage idle files = idle
  idle_unmoved (ending.Damaged area at) idle files = (idle, files)

  pub result_unmoved : (result : Result Reply EndErr) → Idle before now old new → staged.files ≡ stage.files → IfErr result (λ e. IsIdle e before now stage staged old new)
  result_unmoved (Ok reply) idle files = tt
  result_unmoved (Err e) idle files = idle_unmoved e idle files

  -- an end of the store's call alone
  pub idle_stored : (result : Result Reply EndErr) → (IsErrOf result ending.Stage → ⊥) → IfErr result (IfDamaged (Idle before now old new)) → staged.files ≡ stage.files
      → IfErr result (λ e. IsIdle e before now stage staged old new)
  idle_stored (Ok reply) alone idle files = tt
  idle_stored (Err ending.Host) alone idle files = tt
  idle_stored (Err ending.Memory) alone idle files = tt
  idle_stored (Err ending.Stage) alone idle files = absurd (alone refl)
  idle_stored (Err (ending.Damaged area at)) alone idle files = (idle, files)

  -- neither damage nor the stage
  pub idle_spared : (result : Result Reply EndErr) → (IsErrOf result ending.Stage → ⊥) → IfErr result IsNoDamage → IfErr result (λ e. IsIdle e before now stage staged old new)
  idle_spared (Ok reply) alone fine = tt
  idle_spared (Err ending.Host) alone fine = tt
  idle_spared (Err ending.Memory) alone fine = tt
  idle_spared (Err ending.Stage) alone fine = absurd (alone refl)
  idle_spared (Err (ending.Damaged area at)) alone fine = absurd fine

  -- the stage alone
  pub idle_given : (result : Result Reply EndErr) → IfErr result IsNoHost → Idle before now old new → IfErr result (λ e. IsIdle e before now stage staged old new)
  idle_given (Ok reply) alone idle = tt
  idle_given (Err ending.Host) alone idle = tt
  idle_given (Err ending.Memory) alone idle = tt
  idle_given (Err ending.Stage) alone idle = idle
  idle_given (Err (ending.Damaged area at)) alone idle = absurd alone

  -- a print, whatever the line
  unsaid_file : (file : File) (e : EndErr) → IsUnsaid e → IsIdleFor file e before now stage staged old new
  unsaid_file Unused ending.Host alone = tt
  unsaid_file Unused ending.Memory alone = tt
  unsaid_file Unused ending.Stage alone = absurd alone
  unsaid_file Unused (ending.Damaged area at) alone = absurd alone
  unsaid_file Taken ending.Host alone = tt
  unsaid_file Taken ending.Memory alone = tt
  unsaid_file Taken ending.Stage alone = absurd alone
  unsaid_file Taken (ending.Damaged area at) alone = absurd alone
  unsaid_file Given ending.Host alone = tt
  unsaid_file Given ending.Memory alone = tt
  unsaid_file Given ending.Stage alone = absurd alone
  unsaid_file Given (ending.Damaged area at) alone = absurd alone
  unsaid_file GivenBehind ending.Host alone = tt
  unsaid_file GivenBehind ending.Memory alone = tt
  unsaid_file GivenBehind ending.Stage alone = absurd alone
  unsaid_file GivenBehind (ending.Damaged area at) alone = absurd alone

  unsaid_by : (changes : Changes) (file : File) (e : EndErr) → IsUnsaid e → IsIdleOf changes file e before now stage staged old new
  unsaid_by Nothing file e alone = unsaid_file file e alone
  unsaid_by Once file e alone = unsaid_file file e alone
  unsaid_by Several file ending.Host alone = tt
  unsaid_by Several file ending.Memory alone = tt
  unsaid_by Several file ending.Stage alone = absurd alone
  unsaid_by Several file (ending.Damaged area at) alone = absurd alone

  unsaid_command : (command : Command) (e : EndErr) → IsUnsaid e → IsIdleBy command e before now stage staged old new
  unsaid_command command e alone = unsaid_by (changes_of command) (file_of command) e alone

  pub unsaid_line : (l : Line) (e : EndErr) → IsUnsaid e → IsIdleOn l e before now stage staged old new
  unsaid_line (Asks command) e alone = unsaid_command command e alone
  unsaid_line Comment ending.Host alone = tt
  unsaid_line Comment ending.Memory alone = tt
  unsaid_line Comment ending.Stage alone = absurd alone
  unsaid_line Comment (ending.Damaged area at) alone = absurd alone
  unsaid_line (Refused refusal) ending.Host alone = tt
  unsaid_line (Refused refusal) ending.Memory alone = tt
  unsaid_line (Refused refusal) ending.Stage alone = absurd alone
  unsaid_line (Refused refusal) (ending.Damaged area at) alone = absurd alone

  pub idle_unsaid_on : (l : Line) (result : Result Served EndErr) → IfErr result IsUnsaid → IfErr result (λ e. IsIdleOn l e before now stage staged old new)
  idle_unsaid_on l (Ok what) alone = tt
  idle_unsaid_on l (Err e) alone = unsaid_line l e alone

  -- a dataset that is generated, and steps
  pub idle_unstaged : (result : Result Reply EndErr) → (IsErrOf result ending.Stage → ⊥) → staged.files ≡ stage.files → IfErr result (λ e. IsUnstaged e stage staged)
  idle_unstaged (Ok reply) alone files = tt
  idle_unstaged (Err ending.Host) alone files = tt
  idle_unstaged (Err ending.Memory) alone files = tt
  idle_unstaged (Err ending.Stage) alone files = absurd (alone refl)
  idle_unstaged (Err (ending.Damaged area at)) alone files = files

pub the_end : (a b : EndErr) → Some a ≡ Some b → a ≡ b
the_end a b is = ap (λ o. elim o as (λ _. EndErr) [ None ↦ a | Some x ↦ x ]) is

-- what met damage or was refused only looked
module _ (before now : Kept) (old new : State) where
  end_idle : (off : StoreErr) (e : EndErr) → end_of off ≡ Some e → Stays off before now old new → IfDamaged (Idle before now old new) e
  end_idle why.Host e is stays = subst (IfDamaged (Idle before now old new)) (the_end ending.Host e is) tt
  end_idle why.Memory e is stays = subst (IfDamaged (Idle before now old new)) (the_end ending.Memory e is) tt
  end_idle (why.Damaged area at) e is stays =
      subst (IfDamaged (Idle before now old new)) (the_end (ending.Damaged area at) e is) (record { store = stays.0; looked = stays.1 })
  end_idle (why.Full pages) e is stays = absurd cc
  end_idle why.JournalFull e is stays = absurd cc
  end_idle why.NoCvd e is stays = absurd cc
  end_idle why.CvdExists e is stays = absurd cc
  end_idle (why.NoVersion vid) e is stays = absurd cc
  end_idle (why.RepeatedVersion vid) e is stays = absurd cc
  end_idle (why.DuplicateKey row) e is stays = absurd cc
  end_idle why.TooManyVersions e is stays = absurd cc
  end_idle why.TooManyRecords e is stays = absurd cc
  end_idle why.TooManyRows e is stays = absurd cc
  end_idle why.TooManyCvds e is stays = absurd cc
  end_idle why.NoNumbers e is stays = absurd cc
  end_idle (why.FormatOne row) e is stays = absurd cc

  pub result_idle : (off : StoreErr) (result : Result Reply EndErr) → IfErr result (λ e. end_of off ≡ Some e) → Stays off before now old new
      → IfErr result (IfDamaged (Idle before now old new))
  result_idle off (Ok reply) ends stays = tt
  result_idle off (Err e) ends stays = end_idle off e ends stays
