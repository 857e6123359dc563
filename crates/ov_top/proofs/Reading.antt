-- What a run reads of the pages, and the damage that it meets.
use Rattle.std.proofs.Common.{◌≡◌, ◌≤◌, ◌+◌, inl, inr, ℕ, Bool, true, false, List, [], ◌∷◌, ◌++◌, length, take, refl, sym, ◌∙◌, ap, subst, append_assoc, arith}
use Rattle.std.specs.Prelude.{◌⊎◌, Err, None, Ok, Option, Result, Some, max}
use Rattle.std.specs.FinMap.{get}
use Rattle.std.proofs.lemmas.List.{length-take, take_all}
use Rattle.std.proofs.lemmas.Bool.{cases_lt}
use Rattle.ov_host.specs.declared.area.Area.{Area}
use Rattle.ov_host.specs.declared.area.Area.TheVariants.{Pages}
use Rattle.ov_host.specs.declared.area.Extent.{Extent}
use Rattle.ov_host.specs.Host.{State}
use Rattle.ov_host.specs.Source.{Script}
use Rattle.ov_host.specs.Stage.{Files as Map, Staged}
use Rattle.ov_files.specs.Files.{file_rows}
use Rattle.ov_value.specs.declared.column.Column.{Column}
use Rattle.ov_value.specs.Shapes.{Shape}
use Rattle.ov_catalog.specs.Numbers.{Numbers}
use Rattle.ov_core.specs.Held.{Held, IsByJournal}
use Rattle.ov_model.specs.Book.{Row}
use Rattle.ov_model.specs.Forms.{all_forms}
use Rattle.ov_model.specs.Line.{Line, Asks, Comment, Refused, line_of}
use Rattle.ov_model.specs.Users.{line_by, permit, unless_denied}
use Rattle.ov_model.specs.Words.{lines_of}
use Rattle.ov_model.specs.declared.command.Command.{Command}
use Rattle.ov_model.specs.declared.command.Command.TheVariants as asks
use Rattle.ov_model.specs.declared.refusal.Refusal.{Refusal}
use Rattle.ov_model.specs.declared.refusal.Refusal.TheVariants.{LongLine}
use Rattle.ov_model.specs.declared.reply.Reply.{Reply}
use Rattle.ov_store.specs.Committing.{IfSet, Set, schema_for}
use Rattle.ov_store.specs.Kept.{Kept}
use Rattle.ov_session.specs.Acting.{user_after}
use Rattle.ov_session.specs.Asking.{line_asked}
use Rattle.ov_session.specs.Bounds.{IsFetchedBy, IsReading, IsReadingCommand, may_fetch}
use Rattle.ov_session.proofs.Acting.{user_either}
use Rattle.ov_session.proofs.Bounds.{reading_fetched}
use Rattle.ov_session.specs.Commands.{AreAnyBad, AreBad, AreRowsOf, DamagedBy, IsBad, IsDamageOf, IsDamaged, IsNoDamage, IsParentsDamaged, is_comment_in, is_comment_of}
use Rattle.ov_session.specs.Reads.{Changes, Nothing, Once, Several, changes_of, Own, Nought, Versions, Steps, File, Unused, Taken, Given, GivenBehind, Later, Reads, Source, RowsOf, ParentsOf, PlanOf, ListsOf, SegmentsOf, LastOf, ChangeOf, Wanted, file_of, reads_of}
use Rattle.ov_session.specs.Damages.{IsCommandMet, IsMetBy, IsStepMet}
use Rattle.ov_session.specs.Replying.{IsReplied, IsReplyTo}
use Rattle.ov_session.specs.Standing.{IsIdle, IsIdleBy, IsIdleFor, IsIdleOn}
use Rattle.ov_session.specs.Stepping.{NoneBehind, TakesNoStep, begins_plan, line_begins}
use Rattle.ov_session.specs.declared.errors.EndErr.{EndErr}
use Rattle.ov_session.specs.declared.errors.EndErr.TheVariants as ending
use Rattle.ov_session.specs.declared.serving.Served.{Served}
use Rattle.ov_session.specs.declared.serving.Served.TheVariants as served
use Rattle.ov_script.specs.Reader.{IsNext}
use Rattle.ov_script.specs.declared.reader.ReadErr.{ReadErr}
use Rattle.ov_script.specs.declared.reader.ReadErr.TheVariants as reading
use Rattle.ov_script.proofs.Readers.{next_lines}
use Rattle.ov_top.specs.Errors.{by_reading, by_serving}
use Rattle.ov_top.specs.Running.{ActsAfter, AreReading, HasReply, IsKeptBefore, IsRunDamage, IsUnharmed, MeetsDamage, ReadsDamage, StepsOnDamage, reads, user_of_run}
use Rattle.ov_top.proofs.Lined.{acts_more, kept_line, long_line}

-- ---- lines, as they were kept

same_line : (x kept line : List ℕ) → x ≡ kept → kept ≡ take 65537 line → line_of all_forms x ≡ line_of all_forms line
same_line x kept line value keeps = ap (line_of all_forms) (value ∙ keeps) ∙ kept_line line

pub line_kept : (user x kept line : List ℕ) → x ≡ kept → kept ≡ take 65537 line → line_asked user x ≡ line_asked user line
line_kept user x kept line value keeps = ap (line_by user) (same_line x kept line value keeps)

-- a line that asks for something was kept whole
asked_whole : (user x line : List ℕ) (command : Command) → x ≡ take 65537 line → line_asked user x ≡ Asks command → x ≡ line
asked_whole user x line command keeps asks_ =
    elim (cases_lt 65536 (length line)) [
      | inl long ↦
          let size : length x ≡ length (take 65537 line) = ap length keeps
          in let too_long : line_asked user x ≡ Refused LongLine = ap (line_by user) (long_line x (omega (arith, long, size, length-take 65537 line)))
          in let same : Refused LongLine ≡ Asks command = sym too_long ∙ asks_ in absurd cc
      | inr short ↦ keeps ∙ take_all 65537 line (omega (arith, short))
    ]

-- ---- who acts

-- who acts behind the lines that are gone; where the script tells its bytes, they are those in front of what is left
pub record Acting (tells : Bool) (all left user : List ℕ) : Type 0 where
  pub gone : List (List ℕ)
  pub acts : ActsAfter gone user_of_run user
  pub whole : tells ≡ true → lines_of all ≡ gone ++ lines_of left

whole_more : (ended : Bool) (all line left later : List ℕ) (gone : List (List ℕ)) → lines_of all ≡ gone ++ lines_of left → IsNext ended line left later → lines_of all ≡ gone ++ line ∷ lines_of later
whole_more ended all line left later gone whole next = whole ∙ ap (λ (ls : List (List ℕ)). gone ++ ls) (next_lines ended line left later next)

-- a line more
pub acting_more : (tells ended : Bool) (all left later x kept user next : List ℕ) (what : Served) → Acting tells all left user → x ≡ kept
    → (tells ≡ true → (line : List ℕ) × IsNext ended line left later × (kept ≡ take 65537 line)) → next ≡ user_after (line_asked user x) what user → Acting tells all later next
acting_more true ended all left later x kept user next what acting value given is =
    let line = given refl
    in record {
      gone = acting.gone ++ line.0 ∷ [];
      acts = acts_more acting.gone line.0 user_of_run user next what acting.acts (is ∙ ap (λ (l : Line). user_after l what user) (line_kept user x kept line.0 value line.2));
      whole = λ told.
          whole_more ended all line.0 left later acting.gone (acting.whole refl) line.1 ∙ sym (append_assoc acting.gone (line.0 ∷ []) (lines_of later));
    }
acting_more false ended all left later x kept user next what acting value given is = record {
  gone = acting.gone ++ x ∷ [];
  acts = acts_more acting.gone x user_of_run user next what acting.acts is;
  whole = λ told. absurd cc;
}

-- ---- what is fetched

-- after lines that change no store, and before those that are left, of which this user asks the next one
pub record Fetches (before now : Held) (all left : List (List ℕ)) (user : List ℕ) (old new : State) : Type 0 where
  pub same : now ≡ before
  pub reading : AreReading user left
  pub bound : new.fetched + reads before.numbers user left ≤ old.fetched + reads before.numbers user_of_run all

pub fetches_start : (held : Held) (lines : List (List ℕ)) (user : List ℕ) (s : State) → user ≡ user_of_run → AreReading user_of_run lines → Fetches held held lines lines user s s
fetches_start held lines user s first are =
    let start : Fetches held held lines lines user_of_run s s = record { same = refl; reading = are; bound = omega arith }
    in subst (λ (u : List ℕ). Fetches held held lines lines u s s) (sym first) start

-- a line that changes no store begins no plan
quiet_command : (n : Numbers Extent Extent) (command : Command) → IsReadingCommand command → begins_plan n command ≡ false
quiet_command n (asks.Optimize cvd p q) reads = absurd reads
quiet_command n (asks.OptimizeWithin cvd budget) reads = absurd reads
quiet_command n (asks.Checkout cvd vids file None) reads = refl
quiet_command n (asks.Checkout cvd vids file (Some table)) reads = refl
quiet_command n command reads = refl

quiet_line : (n : Numbers Extent Extent) (l : Line) → IsReading l → line_begins n l ≡ false
quiet_line n Comment reads = refl
quiet_line n (Asks command) reads = quiet_command n command reads
quiet_line n (Refused refusal) reads = refl

none_behind : (steps : ℕ) (n : Numbers Extent Extent) (l : Line) → IsReading l → TakesNoStep steps n → NoneBehind steps n l
none_behind steps n l reads (inl zero_is) = inl zero_is
none_behind steps n l reads (inr none) = inr (none, quiet_line n l reads)

-- so no step comes behind the next one
pub none_then : (steps : ℕ) (before now : Held) (all left later : List (List ℕ)) (user x line : List ℕ) (old mid : State) → Fetches before now all left user old mid → left ≡ line ∷ later
    → line_asked user x ≡ line_asked user line → TakesNoStep steps before.numbers → NoneBehind steps now.numbers (line_asked user x)
none_then steps before now all left later user x line old mid so next kept none =
    let reads : AreReading user (line ∷ later) = subst (AreReading user) next so.reading
    in none_behind steps now.numbers (line_asked user x) (subst IsReading (sym kept) reads.0) (subst (λ (h : Held). TakesNoStep steps h.numbers) (sym so.same) none)

pub fetches_all : (before now : Held) (all left : List (List ℕ)) (user : List ℕ) (old new : State) → Fetches before now all left user old new
    → new.fetched ≤ old.fetched + reads before.numbers user_of_run all
fetches_all before now all left user old new is = omega (arith, is.bound)

-- what is left to be read is no more than what was counted for either user
most_read : (n : Numbers Extent Extent) (l : Line) (what : Served) (user : List ℕ) (later : List (List ℕ))
    → reads n (user_after l what user) later ≤ max (reads n user later) (reads n (user_after l served.Done user) later)
most_read n l what user later = by (user_either l what user)
  where
    by : (user_after l what user ≡ user) ⊎ (user_after l what user ≡ user_after l served.Done user)
        → reads n (user_after l what user) later ≤ max (reads n user later) (reads n (user_after l served.Done user) later)
    by (inl stays) = let same : reads n (user_after l what user) later ≡ reads n user later = ap (λ (u : List ℕ). reads n u later) stays in omega (arith, same)
    by (inr done) =
        let same : reads n (user_after l what user) later ≡ reads n (user_after l served.Done user) later = ap (λ (u : List ℕ). reads n u later) done in omega (arith, same)

module _ (before now : Held) (all left later : List (List ℕ)) (user x line : List ℕ) (old mid new : State) (so : Fetches before now all left user old mid)
    (next : left ≡ line ∷ later) (kept : line_asked user x ≡ line_asked user line)
    (later_held : Held) (fault : Type 0) (read : IsFetchedBy user (line_asked user x) now later_held fault mid new) where
  there : Fetches before now all (line ∷ later) user old mid
  there = subst (λ (ls : List (List ℕ)). Fetches before now all ls user old mid) next so

  fetched : new.fetched ≤ mid.fetched + may_fetch now.numbers user (line_asked user x)
  fetched = reading_fetched user (line_asked user x) now later_held fault mid new (subst IsReading (sym kept) there.reading.0) read

  same_bound : may_fetch now.numbers user (line_asked user x) ≡ may_fetch before.numbers user (line_asked user line)
  same_bound = ap (λ (h : Held). may_fetch h.numbers user (line_asked user x)) so.same ∙ ap (may_fetch before.numbers user) kept

  still_bound : (r : ℕ) → r ≤ max (reads before.numbers user later) (reads before.numbers (user_after (line_asked user line) served.Done user) later)
      → new.fetched + r ≤ old.fetched + reads before.numbers user_of_run all
  still_bound r below =
      let split : reads before.numbers user (line ∷ later) ≡ may_fetch before.numbers user (line_asked user line)
      + max (reads before.numbers user later) (reads before.numbers (user_after (line_asked user line) served.Done user) later) = refl
      in omega (arith, fetched, same_bound, split, there.bound, below)

  pub fetches_more : (what : Served) (then : List ℕ) → then ≡ user_after (line_asked user x) what user → (IsReading (line_asked user x) → later_held ≡ now)
      → Fetches before later_held all later then old new
  fetches_more what then is still =
      let acts : then ≡ user_after (line_asked user line) what user = is ∙ ap (λ (l : Line). user_after l what user) kept
      in let more : Fetches before later_held all later (user_after (line_asked user line) what user) old new = record {
        same = still (subst IsReading (sym kept) there.reading.0) ∙ so.same;
        reading = there.reading.1 what;
        bound = still_bound (reads before.numbers (user_after (line_asked user line) what user) later) (most_read before.numbers (line_asked user line) what user later);
      }
      in subst (λ (u : List ℕ). Fetches before later_held all later u old new) (sym acts) more

  pub fetches_ends : new.fetched ≤ old.fetched + reads before.numbers user_of_run all
  fetches_ends = omega (arith, still_bound 0 (omega arith))

-- ---- damage

module _ (stage staged : Staged) (files : staged.files ≡ stage.files) (told : staged.tells ≡ stage.tells) (held : Held) (s : State) (page : ℕ) where
  rows_as : (schema : Shape) (file : List ℕ) (rows : List Row) → AreRowsOf schema file stage rows → AreRowsOf schema file staged rows
  rows_as schema file rows are = λ tells. subst (λ (m : Map). file_rows schema file (get m file) ≡ Ok rows) (sym files) (are (sym told ∙ tells))

  set_as : (added : List Column) (file : List ℕ) (rows : List Row) (P : Set → Type 0) (o : Option Set) → IfSet (λ set. AreRowsOf (schema_for set.schema added) file stage rows × P set) o
      → IfSet (λ set. AreRowsOf (schema_for set.schema added) file staged rows × P set) o
  set_as added file rows P None is = absurd is
  set_as added file rows P (Some set) is = (rows_as (schema_for set.schema added) file rows is.0, is.1)

  parents_as : (wanted : Wanted) → IsParentsDamaged wanted stage held s page → IsParentsDamaged wanted staged held s page
  parents_as wanted is = (is.0, is.1, set_as wanted.added wanted.file is.0 _ _ is.2)

  bad_as : (source : Source) → IsBad source stage held s page → IsBad source staged held s page
  bad_as (RowsOf set vids) is = is
  bad_as (ParentsOf set wanted) is = parents_as wanted is
  bad_as (PlanOf set) is = is
  bad_as (ListsOf set) is = is
  bad_as (SegmentsOf set) is = is
  bad_as (LastOf set) is = is
  bad_as (ChangeOf which set rows) is = is

module _ (stage staged : Staged) (files : staged.files ≡ stage.files) (told : staged.tells ≡ stage.tells) (held : Held) (s : State) (page : ℕ) where
  all_as : (sources : List Source) → AreBad sources stage held s page → AreBad sources staged held s page
  all_as [] is = absurd is
  all_as (x ∷ []) is = bad_as stage staged files told held s page x is
  all_as (x ∷ y ∷ sources) (inl first) = inl (bad_as stage staged files told held s page x first)
  all_as (x ∷ y ∷ sources) (inr later) =
      inr (λ other bad. later.0 other (bad_as staged stage (sym files) (sym told) held s other x bad), all_as (y ∷ sources) later.1)

  any_as : (later : Option Later) (sources : List Source) → AreAnyBad later sources stage held s page → AreAnyBad later sources staged held s page
  any_as None sources is = all_as sources is
  any_as (Some later) sources (inl first) = inl (all_as sources first)
  any_as (Some later) sources (inr rows) = inr (rows.0, rows.1, all_as (later.sources rows.0) rows.2)

  row_as : (own : Own) (row : Reads) → DamagedBy own row stage held held s page → DamagedBy own row staged held held s page
  row_as Nought row is = (is.0, any_as row.later (row.always ++ row.if_done) is.1)
  row_as (Versions cvd seed rows versions) row is = is
  row_as (Steps count) row is = is

  -- what is read of the stage is the same
  damaged_as : (user : List ℕ) (command : Command) → IsDamaged user command stage held held s page → IsDamaged user command staged held held s page
  damaged_as user command is = row_as (reads_of held.numbers user command).own (reads_of held.numbers user command) is

kept_now : (changes : Changes) (held : Held) → IsKeptBefore changes held held
kept_now Nothing held = refl
kept_now Once held = refl
kept_now Several held = tt

-- what a command but a `generate` and a `migrate` met, it met before it changed anything
module _ (before now : Kept) (stage staged : Staged) (old new : State) (told : staged.tells ≡ stage.tells) (area : Area) (page : ℕ) where
  still_damaged : (user : List ℕ) (command : Command) → IsIdle (ending.Damaged area page) before now stage staged old new
      → IsDamaged user command stage before.held now.held new page → IsDamaged user command staged now.held now.held new page
  still_damaged user command idle is =
      damaged_as stage staged idle.1 told now.held new page user command
      (subst (λ (k : Kept). IsDamaged user command stage k.held now.held new page) (sym idle.0.store) is)

  idle_file : (file : File) → IsIdleFor file (ending.Damaged area page) before now stage staged old new → IsIdle (ending.Damaged area page) before now stage staged old new
  idle_file Unused idle = idle
  idle_file Taken idle = idle
  idle_file Given idle = idle
  idle_file GivenBehind idle = idle

  record IsDamagedSince (user : List ℕ) (command : Command) : Type 0 where
    pub entry : Held
    pub kept : IsKeptBefore (changes_of command) entry now.held
    pub damaged : IsDamaged user command staged entry now.held new page

  since_now : (user : List ℕ) (command : Command) → IsIdle (ending.Damaged area page) before now stage staged old new
      → IsDamaged user command stage before.held now.held new page → IsDamagedSince user command
  since_now user command idle is = record { entry = now.held; kept = kept_now (changes_of command) now.held; damaged = still_damaged user command idle is }

  now_damaged : (user : List ℕ) (command : Command) → IsIdleBy command (ending.Damaged area page) before now stage staged old new
      → IsDamaged user command stage before.held now.held new page → IsDamagedSince user command
  now_damaged user (asks.Generate cvd seed rows versions) idle is = record { entry = before.held; kept = tt; damaged = is }
  now_damaged user (asks.Migrate count) idle is = record { entry = before.held; kept = tt; damaged = is }
  now_damaged user (asks.Checkout cvd vids file None) idle is =
      since_now user (asks.Checkout cvd vids file None) (idle_file (file_of (asks.Checkout cvd vids file None)) idle) is
  now_damaged user (asks.Checkout cvd vids file (Some table)) idle is = since_now user (asks.Checkout cvd vids file (Some table)) idle is
  now_damaged user command idle is = since_now user command idle is

-- what has a reply is no comment
reply_some : (l : Line) (reply : Reply) → IsReplyTo l reply → is_comment_in l ≡ false
reply_some Comment reply is = absurd is
reply_some (Asks command) reply is = refl
reply_some (Refused refusal) reply is = refl

replied_some : (steps : ℕ) (l : Line) (what : Served) (held : Held) (stage staged : Staged) (old new : State) → is_comment_of what ≡ false
    → IsReplied steps l what held stage staged old new → is_comment_in l ≡ false
replied_some steps l served.Comment held stage staged old new some is = cc
replied_some steps l served.Done held stage staged old new some is = reply_some l is.0 is.3.to_line
replied_some steps l served.Refused held stage staged old new some is = reply_some l is.0 is.3.to_line

module _ (user x : List ℕ) (before now : Kept) (script : Script) (stage staged : Staged) (old new : State) (told : staged.tells ≡ stage.tells)
    (gone : List (List ℕ)) (acts : ActsAfter gone user_of_run user)
    (among : (command : Command) → line_asked user x ≡ Asks command → script.tells ≡ true → (after : List (List ℕ)) × (lines_of script.left ≡ gone ++ x ∷ after))
    (behind : is_comment_in (line_asked user x) ≡ false → script.tells ≡ true → HasReply script.left) where
  -- the command's damage
  command_damage : (page : ℕ) → (new.tells ≡ true → IsByJournal now.held new) → IsCommandMet user (line_asked user x) before now stage staged old new page
      → ReadsDamage script staged new page
  command_damage page by is =
      let met = is.damaged
      in let since = now_damaged before now stage staged old new told Pages page user met.0
      (subst (λ (l : Line). IsIdleOn l (ending.Damaged Pages page) before now stage staged old new) met.1 is.idle) met.2
      in record {
        before = gone;
        line = x;
        among = among met.0 met.1;
        user = user;
        acts = acts;
        command = met.0;
        asks = met.1;
        held = now.held;
        numbers = by;
        entry = since.entry;
        kept = since.kept;
        damaged = since.damaged;
      }

  -- a step's
  step_damage : (steps page : ℕ) → (new.tells ≡ true → IsByJournal now.held new) → IsStepMet steps (line_asked user x) before now stage staged old new page
      → StepsOnDamage steps script new page
  step_damage steps page by is = record {
    behind = behind (replied_some steps (line_asked user x) is.served before.held stage staged old new is.some is.replied);
    held = now.held;
    numbers = by;
    damaged = is.damaged;
  }

  pub run_damage : (steps : ℕ) (e : EndErr) → ((e ≡ ending.Host → ⊥) → new.tells ≡ true → IsByJournal now.held new)
      → IsDamageOf (IsMetBy steps user (line_asked user x) before now stage staged old new) e → IsRunDamage steps script staged new (by_serving e)
  run_damage steps ending.Host by is = tt
  run_damage steps ending.Stage by is = tt
  run_damage steps ending.Memory by is = tt
  run_damage steps (ending.Damaged area at) by is = (is.0, met is.1)
    where
      met : IsMetBy steps user (line_asked user x) before now stage staged old new at → MeetsDamage steps script staged new at
      met (inl command) = inl (command_damage at (by (λ e. cc)) command)
      met (inr step) = inr (step_damage steps at (by (λ e. cc)) step)

pub err_end : {A : Type 0} → (e f : EndErr) → (let one : Result A EndErr = Err e in one) ≡ Err f → e ≡ f
err_end e f is = cc

-- a line of the script, where it asks for something
pub asked_among : (ended : Bool) (user x kept line all left later : List ℕ) (gone : List (List ℕ)) → x ≡ kept → kept ≡ take 65537 line
    → lines_of all ≡ gone ++ lines_of left → IsNext ended line left later
    → (command : Command) → line_asked user x ≡ Asks command → (after : List (List ℕ)) × (lines_of all ≡ gone ++ x ∷ after)
asked_among ended user x kept line all left later gone value keeps whole next command is = (
  lines_of later,
  whole_more ended all line left later gone whole next
      ∙ ap (λ (l : List ℕ). gone ++ l ∷ lines_of later) (sym (asked_whole user x line command (value ∙ keeps) is)),
)

not_denied : (found : Option Refusal) (command : Command) → is_comment_in (unless_denied found command) ≡ false
not_denied None command = refl
not_denied (Some refusal) command = refl

-- whether a line is a comment is the same for all users
comment_by : (user : List ℕ) (l : Line) → is_comment_in (line_by user l) ≡ is_comment_in l
comment_by user Comment = refl
comment_by user (Asks command) = not_denied (permit user command) command
comment_by user (Refused refusal) = refl

-- a line that has a reply
pub reply_among : (ended : Bool) (user x kept line all left later : List ℕ) (gone : List (List ℕ)) → x ≡ kept → kept ≡ take 65537 line
    → lines_of all ≡ gone ++ lines_of left → IsNext ended line left later → is_comment_in (line_asked user x) ≡ false → HasReply all
reply_among ended user x kept line all left later gone value keeps whole next some = (
  line,
  (gone, lines_of later, whole_more ended all line left later gone whole next),
  ap is_comment_in (sym (same_line x kept line value keeps)) ∙ sym (comment_by user (line_of all_forms x)) ∙ some,
)

pub reading_harmless : (steps : ℕ) (e : ReadErr) (script : Script) (stage : Staged) (s : State) → IsRunDamage steps script stage s (by_reading e)
reading_harmless steps reading.Input script stage s = tt
reading_harmless steps reading.Memory script stage s = tt
reading_harmless steps reading.TooLong script stage s = tt

pub unharmed_reading : (e : ReadErr) → IsUnharmed (by_reading e)
unharmed_reading reading.Input = tt
unharmed_reading reading.Memory = tt
unharmed_reading reading.TooLong = tt

pub unharmed : (e : EndErr) → IsNoDamage e → IsUnharmed (by_serving e)
unharmed ending.Host is = tt
unharmed ending.Stage is = tt
unharmed ending.Memory is = tt
unharmed (ending.Damaged area at) is = absurd is
