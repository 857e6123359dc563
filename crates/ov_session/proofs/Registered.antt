-- What the commands on users and staged tables keep to, by what `ov_staging` says of them.
use Rattle.std.proofs.Common.{◌≡◌, ◌≤◌, ◌+◌, ◌∙◌, inl, inr, ℕ, Bool, true, false, List, refl, sym, ap, subst, arith}
use Rattle.std.specs.Prelude.{◌-◌, ◌^◌, min, Some, None, Option, Ok, Err, Result, IfErr, IfOk, IsErrOf, MatchResult, OnOk, is_some}
use Rattle.std.specs.Option.{option_or}
use Rattle.std.proofs.lemmas.Option.{same_Some}
use Rattle.ov_core.specs.AtWorld.{IsAtWorld}
use Rattle.ov_core.specs.Held.{IsByJournal}
use Rattle.ov_fetch.specs.Extents.{Looked}
use Rattle.ov_host.specs.Host.{Rose, State}
use Rattle.ov_host.specs.Stage.{Staged}
use Rattle.ov_model.specs.Act.{Deed, Files, Session, if_so, tells, unless}
use Rattle.ov_model.specs.Book.{Row}
use Rattle.ov_model.specs.Deed.{config_deed, config_refusal, permitted, tables_deed}
use Rattle.ov_model.specs.Registry.{is_foreign, last_rows, stage_name, stage_schema, users_name}
use Rattle.ov_model.specs.World.{World, set_named}
use Rattle.ov_model.specs.declared.command.Command.{Command}
use Rattle.ov_model.specs.declared.command.Command.TheVariants as asks
use Rattle.ov_model.specs.declared.refusal.Refusal.{Refusal}
use Rattle.ov_model.specs.declared.refusal.Refusal.TheVariants as no
use Rattle.ov_model.specs.declared.reply.Reply.{Reply}
use Rattle.ov_model.specs.declared.reply.Reply.TheVariants as says
use Rattle.ov_registry.specs.Changing.{IsMade}
use Rattle.ov_registry.specs.Last.{IsLastDamaged, bytes_in, last_vid, name_of, schema_of}
use Rattle.ov_registry.specs.declared.registry.Registry.{Registry}
use Rattle.ov_registry.specs.declared.registry.Registry.TheVariants as registry
use Rattle.ov_staging.specs.Changing.{Change, IsAnswered, IsChangedAs, IsDamagedBy, IsRefusedBy}
use Rattle.ov_staging.specs.Errors as staging
use Rattle.ov_staging.specs.Reading.{answer_or, foreign_off}
use Rattle.ov_staging.specs.Tables.{AreShown, table_change, table_rows, tables_reply}
use Rattle.ov_staging.specs.Users.{IsConfigured, IsCreated, config_off, config_reply, create_off, user_change, user_rows}
use Rattle.ov_staging.specs.declared.errors.StagingErr.{StagingErr}
use Rattle.ov_staging.specs.declared.errors.StagingErr.TheVariants as gone
use Rattle.ov_store.specs.Committing.{Set}
use Rattle.ov_store.specs.Kept.{Kept, MayCall}
use Rattle.ov_store.specs.Scanning.{set_in}
use Rattle.ov_store.proofs.Finishing.{may_call_later}
use Rattle.law_runs.proofs.Doing.{breaks_looked, does_told}
use Rattle.law_runs.specs.Serving.{Does}
use Rattle.law_steps.specs.Turns.{running}
use Rattle.ov_session.proofs.Bounds.{fetched_allowed, off_there}
use Rattle.ov_session.proofs.Idling.{committed_none, done_none}
use Rattle.ov_session.proofs.Numbering.{journal_looked}
use Rattle.ov_session.proofs.Replying.{stored_seen}
use Rattle.ov_session.proofs.Standing.{at_looked, at_still, on_any}
use Rattle.ov_session.specs.Acting.{kind_of, user_by}
use Rattle.ov_session.specs.Bounds.{IsFetched, IsReadingCommand, if_allowed, is_command_off}
use Rattle.ov_session.specs.Commands.{Acts, IfDamaged, IfNoFile, IsDamageOf, IsDamaged, IsNoDamage, MeetsDamage}
use Rattle.ov_session.specs.Errors.{by_staging}
use Rattle.ov_session.specs.Registering.{IsRegistered, next_by}
use Rattle.ov_session.specs.Standing.{Idle, IsAtSilently}
use Rattle.ov_session.specs.declared.errors.EndErr.{EndErr}
use Rattle.ov_session.specs.declared.errors.EndErr.TheVariants as ending
use Rattle.ov_session.specs.declared.serving.Served.{Served}
use Rattle.ov_session.specs.declared.serving.Served.TheVariants as served
use Rattle.ov_value.specs.Naming.{is_name}
use Rattle.std.specs.Prelude.{IsTrue, not}

-- ---- ends

alone_of : (r : Result Reply StagingErr) → IsErrOf (by_staging r) ending.Stage → ⊥
alone_of (Ok reply) is = cc
alone_of (Err gone.Host) is = cc
alone_of (Err gone.Memory) is = cc
alone_of (Err (gone.Damaged area at)) is = cc

ok_of : (P : Type 0) (r : Result Reply StagingErr) → OnOk r P → OnOk (by_staging r) P
ok_of P (Ok reply) is = is
ok_of P (Err gone.Host) is = tt
ok_of P (Err gone.Memory) is = tt
ok_of P (Err (gone.Damaged area at)) is = tt

pub if_of : (P : Reply → Type 0) (r : Result Reply StagingErr) → IfOk r P → IfOk (by_staging r) P
if_of P (Ok reply) is = is
if_of P (Err gone.Host) is = tt
if_of P (Err gone.Memory) is = tt
if_of P (Err (gone.Damaged area at)) is = tt

fine_of : (r : Result Reply StagingErr) → IfErr r staging.IsNoDamage → IfErr (by_staging r) IsNoDamage
fine_of (Ok reply) is = tt
fine_of (Err gone.Host) is = tt
fine_of (Err gone.Memory) is = tt
fine_of (Err (gone.Damaged area at)) is = is

map_on : (P Q : Type 0) (r : Result Reply StagingErr) → (P → Q) → OnOk r P → OnOk r Q
map_on P Q (Ok reply) to is = to is
map_on P Q (Err e) to is = tt

pub when_ok : (P Q : Reply → Type 0) (r : Result Reply StagingErr) → ((reply : Reply) → P reply → Q reply) → IfOk r P → IfOk r Q
when_ok P Q (Ok reply) to is = to reply is
when_ok P Q (Err e) to is = tt

module _ (P : ℕ → Type 0) (old new : State) where
  cause_of : (r : Result Reply StagingErr) → IfErr r (staging.IsEnd P old new) → IsErrOf (by_staging r) ending.Host → Rose old.faults new.faults
  cause_of (Ok reply) is host = absurd cc
  cause_of (Err gone.Host) is host = is
  cause_of (Err gone.Memory) is host = absurd cc
  cause_of (Err (gone.Damaged area at)) is host = absurd cc

  damaged_of : (Q : ℕ → Type 0) (r : Result Reply StagingErr) → ((page : ℕ) → P page → Q page) → IfErr r (staging.IsEnd P old new) → IfErr (by_staging r) (IsDamageOf Q)
  damaged_of Q (Ok reply) to is = tt
  damaged_of Q (Err gone.Host) to is = tt
  damaged_of Q (Err gone.Memory) to is = tt
  damaged_of Q (Err (gone.Damaged area at)) to is = (is.0, to at is.1)

module _ (before now : Kept) (old new : State) where
  idle_of : (r : Result Reply StagingErr) → IfErr r (λ e. staging.Stays e before now old new) → IfErr (by_staging r) (IfDamaged (Idle before now old new))
  idle_of (Ok reply) is = tt
  idle_of (Err gone.Host) is = tt
  idle_of (Err gone.Memory) is = tt
  idle_of (Err (gone.Damaged area at)) is = record { store = is.0; looked = is.1 }

  still_by : (now ≡ before) × Looked old new → IsByJournal before.held old → IsByJournal now.held new
  still_by still by = subst (λ (k : Kept). IsByJournal k.held new) (sym still.0) (journal_looked before.held old new still.1 by)

  journal_of : (r : Result Reply StagingErr) → IfErr r (λ e. staging.Stays e before now old new) → (IsByJournal before.held old → OnOk r (IsByJournal now.held new))
      → IsByJournal before.held old → (IsErrOf (by_staging r) ending.Host → ⊥) → IsByJournal now.held new
  journal_of (Ok reply) stays kept by fine = kept by
  journal_of (Err gone.Host) stays kept by fine = absurd (fine refl)
  journal_of (Err gone.Memory) stays kept by fine = still_by stays by
  journal_of (Err (gone.Damaged area at)) stays kept by fine = still_by stays by

  module _ (d : Deed) (s : Session) (w : World) where
    acts_of : (r : Result Reply StagingErr) → staging.Acts d s w r before.held now.held old new → Acts d s s w (by_staging r) before.held now.held old new
    acts_of (Ok reply) is = is
    acts_of (Err gone.Host) is = is
    acts_of (Err gone.Memory) is = is
    acts_of (Err (gone.Damaged area at)) is = is

    at_of : (r : Result Reply StagingErr) → staging.Acts d s w r before.held now.held old new → OnOk r (IsAtSilently now.held old new)
    at_of (Ok reply) is = record { at = (is.world, is.at); printed = is.printed }
    at_of (Err e) is = tt

-- ---- replies that speak of no file

no_file : (refusal : Refusal) → ((name : List ℕ) → refusal ≡ no.NoFile name → ⊥) → IfNoFile ⊥ (says.Refused refusal)
no_file refusal other = λ name is. other name cc

seen_so : (t : Bool) (x refusal : Refusal) → ((name : List ℕ) → x ≡ no.NoFile name → ⊥) → if_so t x ≡ Some refusal → IfNoFile ⊥ (says.Refused refusal)
seen_so true x refusal other is = no_file refusal (λ name e. other name (same_Some x refusal is ∙ e))
seen_so false x refusal other is = absurd cc

seen_as : (a b : Reply) → b ≡ a → IfNoFile ⊥ a → IfNoFile ⊥ b
seen_as a b is seen = λ name e. seen name (sym is ∙ e)

module _ (which : Registry) (set : Option Set) (change : Change) (said reply : Reply) (before now : Kept) (old new : State)
    (fine : IfNoFile ⊥ said) (refuses : (rows : List Row) (refusal : Refusal) → change.off rows ≡ Some refusal → IfNoFile ⊥ (says.Refused refusal)) where
  refused_seen : (refusal : Refusal) → IsRefusedBy (schema_of which) change set old refusal → IfNoFile ⊥ (says.Refused refusal)
  refused_seen refusal (inl foreign) = seen_so _ no.ForeignRegistry refusal (λ name e. cc) foreign
  refused_seen refusal (inr by) = refuses by.1 refusal by.3

  changed_seen : (rows : List Row) (mid : State) → IsChangedAs which set rows said reply before now mid new → IfNoFile ⊥ reply
  changed_seen rows mid (inl made) = seen_as said reply made.0 fine
  changed_seen rows mid (inr unmade) = stored_seen (name_of which) unmade.0 reply unmade.1

  pub answered_seen : IsAnswered which set change said reply before now old new → IfNoFile ⊥ reply
  answered_seen (inl no_) = seen_as (says.Refused no_.refusal) reply no_.reply_is (refused_seen no_.refusal no_.by)
  answered_seen (inr is) = changed_seen is.rows is.mid is.changed

  -- ---- no plan begins
  made_none : (set_ : Option Set) (rows : List Row) (mid : State) → IsMade set_ (name_of which) (schema_of which) rows mid before.held now.held
      → running before.held.numbers ≡ None → running now.held.numbers ≡ None
  made_none None rows mid is none = done_none _ before.held now.held tt is.1 none
  made_none (Some d) rows mid is none = committed_none d _ mid before.held now.held is.1.0 is.1.1 none

  same_none : now ≡ before → running before.held.numbers ≡ None → running now.held.numbers ≡ None
  same_none same none = subst (λ (k : Kept). running k.held.numbers ≡ None) (sym same) none

  changed_none : (rows : List Row) (mid : State) → IsChangedAs which set rows said reply before now mid new → running before.held.numbers ≡ None
      → running now.held.numbers ≡ None
  changed_none rows mid (inl made) none = made_none set made.1.made mid made.1.is none
  changed_none rows mid (inr unmade) none = same_none unmade.3 none

  pub answered_none : IsAnswered which set change said reply before now old new → running before.held.numbers ≡ None → running now.held.numbers ≡ None
  answered_none (inl no_) none = same_none no_.same none
  answered_none (inr is) none = changed_none is.rows is.mid is.changed none

-- ---- a change

module _ (user : List ℕ) (command : Command) (which : Registry) (off : Option Refusal) (rows : List Row → List Row) (r : Result Reply StagingErr)
    (before now : Kept) (old new : State) where
  abbrev its_set : Option Set
  its_set = set_in before.held.numbers (name_of which)

  abbrev its_bytes : ℕ
  its_bytes = bytes_in its_set (last_vid its_set)

  abbrev its_damage : ℕ → Type 0
  its_damage page = (off ≡ None) × IsDamagedBy which its_set rows before.held new page

  -- what the command's row says
  pub record IsRow : Type 0 where
    pub fetched : new.fetched ≤ old.fetched + if_allowed off (its_bytes + its_bytes)
        → IsFetched user command before.held now.held (IsErrOf (by_staging r) ending.Host) old new
    pub refused : is_command_off before.held.numbers user command ≡ true → is_some off ≡ true
    pub damaged : (stage : Staged) (page : ℕ) → its_damage page → IsDamaged user command stage before.held now.held new page
    pub met : (stage : Staged) (page : ℕ) → MeetsDamage user command stage before.held old page → (off ≡ None) × IsLastDamaged its_set old page
    pub changes : IsReadingCommand command → ⊥

  pub changed_registered : IsRow → new.tells ≡ old.tells → new.keeps ≡ old.keeps → old.faults ≤ new.faults → min old.fetched (2 ^ 64 - 1) ≤ new.fetched
      → new.fetched ≤ old.fetched + (its_bytes + its_bytes)
      → ((refusal : Refusal) → off ≡ Some refusal → (new ≡ old) × IfOk r (λ reply. reply ≡ says.Refused refusal))
      → IfOk r (λ reply. IfNoFile ⊥ reply × (running before.held.numbers ≡ None → running now.held.numbers ≡ None))
      → IfErr r (staging.IsEnd its_damage old new)
      → ((page : ℕ) → old.tells ≡ true → OnOk r (off ≡ None → IsLastDamaged its_set old page → ⊥))
      → IfErr r (λ e. staging.Stays e before now old new) → OnOk r (MayCall now new)
      → (IsByJournal before.held old → OnOk r (IsByJournal now.held new))
      → ((w : World) → IsAtWorld w before.held old → IfErr r staging.IsNoDamage)
      → ((w : World) (s : Session) → IsAtWorld w before.held old → staging.Acts (permitted w s command) s w r before.held now.held old new)
      → IsRegistered user user command (by_staging r) before now old new
  changed_registered row told kept faults counted fetched unread seen why whole stays usable by_journal undamaged acts = record {
    goes = record { told = told; kept = kept; faults = faults; fetched = counted };
    still = λ reads. absurd (row.changes reads);
    fetched = row.fetched (fetched_allowed off (its_bytes + its_bytes) old.fetched new.fetched fetched (λ refusal is. ap (λ (s : State). s.fetched) (unread refusal is).0));
    unread = λ is. let there = off_there off (row.refused is) in ap (λ (s : State). s.fetched) (unread there.0 there.1).0;
    cause = cause_of its_damage old new r why;
    host_alone = alone_of r;
    damaged = λ stage. damaged_of its_damage old new (λ page. IsDamaged user command stage before.held now.held new page) r (row.damaged stage) why;
    begins_none = λ none. ok_of _ r (on_seen r seen none);
    whole = λ stage page tells_. ok_of _ r
        (map_on _ _ r (λ clear met. let both = row.met stage page met in clear both.0 both.1) (whole page tells_));
    usable = ok_of _ r usable;
    by_journal = journal_of before now old new r stays by_journal;
    idle = idle_of before now old new r stays;
    undamaged = λ w at. fine_of r (undamaged w at);
    at = λ w at. ok_of _ r (at_of before now old new (permitted w (nobody user) command) (nobody user) w r (acts w (nobody user) at));
    seen = if_of (IfNoFile ⊥) r (when_ok _ (IfNoFile ⊥) r (λ reply both. both.0) seen);
    acts = λ w files at.
        let s : Session = record { files = files; user = user }
        in acts_of before now old new (permitted w s command) s w r (acts w s at);
  }
    where
      nobody : List ℕ → Session
      nobody name = record { files = λ file. None; user = name }

      on_seen : (q : Result Reply StagingErr) → IfOk q (λ reply. IfNoFile ⊥ reply × (running before.held.numbers ≡ None → running now.held.numbers ≡ None))
          → running before.held.numbers ≡ None → OnOk q (running now.held.numbers ≡ None)
      on_seen (Ok reply) both none = both.1 none
      on_seen (Err e) both none = tt

-- the rows of the two changes say so by themselves
user_refuses : (name : List ℕ) (rows : List Row) (refusal : Refusal) → (user_change name).off rows ≡ Some refusal → IfNoFile ⊥ (says.Refused refusal)
user_refuses name rows refusal is = seen_so _ (no.UserExists name) refusal (λ file e. cc) is

table_refuses : (owner table : List ℕ) (rows : List Row) (refusal : Refusal) → (table_change owner table).off rows ≡ Some refusal → IfNoFile ⊥ (says.Refused refusal)
table_refuses owner table rows refusal is = seen_so _ (no.NoTable _) refusal (λ file e. cc) is

pub created_seen : (name : List ℕ) (set : Option Set) (reply : Reply) (before now : Kept) (old new : State) → IsCreated name set reply before now old new
    → IfNoFile ⊥ reply × (running before.held.numbers ≡ None → running now.held.numbers ≡ None)
created_seen name set reply before now old new (inl bad) = (
  seen_as (says.Refused (no.BadName name)) reply bad.1 (no_file (no.BadName name) (λ file e. cc)),
  (λ none. subst (λ (k : Kept). running k.held.numbers ≡ None) (sym bad.2) none),
)
created_seen name set reply before now old new (inr is) = (
  answered_seen registry.Users set (user_change name) (says.User name) reply before now old new (λ file e. cc) (user_refuses name) is.1,
  answered_none registry.Users set (user_change name) (says.User name) reply before now old new (λ file e. cc) (user_refuses name) is.1,
)

pub unstaged_seen : (owner table : List ℕ) (set : Option Set) (reply : Reply) (before now : Kept) (old new : State)
    → IsAnswered registry.Stage set (table_change owner table) (says.Unstaged owner table) reply before now old new
    → IfNoFile ⊥ reply × (running before.held.numbers ≡ None → running now.held.numbers ≡ None)
unstaged_seen owner table set reply before now old new is = (
  answered_seen registry.Stage set (table_change owner table) (says.Unstaged owner table) reply before now old new (λ file e. cc) (table_refuses owner table) is,
  answered_none registry.Stage set (table_change owner table) (says.Unstaged owner table) reply before now old new (λ file e. cc) (table_refuses owner table) is,
)

pub create_row : (user name : List ℕ) (r : Result Reply StagingErr) (before now : Kept) (old new : State)
    → IsRow user (asks.CreateUser name) registry.Users (create_off name (set_in before.held.numbers users_name)) (user_rows name) r before now old new
create_row user name r before now old new =
    record { fetched = λ f. f; refused = λ is. is; damaged = λ stage page is. is; met = λ stage page is. is; changes = λ is. is }

pub unstage_row : (user owner table : List ℕ) (r : Result Reply StagingErr) (before now : Kept) (old new : State)
    → IsRow user (asks.Unstage owner table) registry.Stage (foreign_off stage_schema (set_in before.held.numbers stage_name)) (table_rows owner table) r before now old new
unstage_row user owner table r before now old new =
    record { fetched = λ f. f; refused = λ is. is; damaged = λ stage page is. is; met = λ stage page is. is; changes = λ is. is }

-- ---- a read

told_or : (s : Session) (t : Bool) (x : Refusal) (said : Reply) → unless s (if_so t x) (tells s said) ≡ tells s (answer_or (if_so t x) said)
told_or s true x said = refl
told_or s false x said = refl

module _ (user : List ℕ) (k : Kept) (old new : State) (looked : Looked old new) where
  abbrev staged_set : Option Set
  staged_set = set_in k.held.numbers stage_name

  abbrev staged_off : Option Refusal
  staged_off = foreign_off stage_schema staged_set

  abbrev staged_bytes : ℕ
  staged_bytes = bytes_in staged_set (last_vid staged_set)

  abbrev staged_damage : ℕ → Type 0
  staged_damage page = (staged_off ≡ None) × IsLastDamaged staged_set new page

  abbrev IsTold : World → Reply → Type 0
  IsTold w reply =
      reply ≡ answer_or (if_so (is_foreign stage_schema (set_named w stage_name)) no.ForeignRegistry) (tables_reply user (last_rows (set_named w stage_name)))

  deed_is : (w : World) (s : Session) (reply : Reply) → s.user ≡ user → IsTold w reply → tables_deed s (set_named w stage_name) ≡ tells s reply
  deed_is w s reply named is =
      told_or s (is_foreign stage_schema (set_named w stage_name)) no.ForeignRegistry (tables_reply s.user (last_rows (set_named w stage_name)))
      ∙ ap (λ (u : List ℕ). tells s (answer_or (if_so (is_foreign stage_schema (set_named w stage_name)) no.ForeignRegistry) (tables_reply u (last_rows (set_named w stage_name))))) named
      ∙ ap (tells s) (sym is)

  shown_seen : (reply : Reply) → AreShown user staged_set old reply → IfNoFile ⊥ reply
  shown_seen reply (inl foreign) = seen_as (says.Refused foreign.0) reply foreign.2 (seen_so _ no.ForeignRegistry foreign.0 (λ name e. cc) foreign.1)
  shown_seen reply (inr rows) = seen_as (tables_reply user rows.1) reply rows.3 (λ name e. cc)

  tables_act : (w : World) (s : Session) → s.user ≡ user → IsAtWorld w k.held old → (r : Result Reply StagingErr) → MatchResult r (IsTold w) staging.IsNoDamage
      → Acts (tables_deed s (set_named w stage_name)) s s w (by_staging r) k.held k.held old new
  tables_act w s named at (Ok reply) is =
      does_told (tables_deed s (set_named w stage_name)) s s w reply k.held old new (deed_is w s reply named is) at looked.told (looked.tape at.at.told)
  tables_act w s named at (Err gone.Host) is = breaks_looked (tables_deed s (set_named w stage_name)) s w k.held old new at (looked.tape at.at.told)
  tables_act w s named at (Err gone.Memory) is = breaks_looked (tables_deed s (set_named w stage_name)) s w k.held old new at (looked.tape at.at.told)
  tables_act w s named at (Err (gone.Damaged area place)) is = breaks_looked (tables_deed s (set_named w stage_name)) s w k.held old new at (looked.tape at.at.told)

  fine_in : (w : World) (r : Result Reply StagingErr) → MatchResult r (IsTold w) staging.IsNoDamage → IfErr r staging.IsNoDamage
  fine_in w (Ok reply) is = tt
  fine_in w (Err e) is = is

  stays_in : (r : Result Reply StagingErr) → IfErr r (λ e. staging.Stays e k k old new)
  stays_in (Ok reply) = tt
  stays_in (Err gone.Host) = tt
  stays_in (Err gone.Memory) = (refl, looked)
  stays_in (Err (gone.Damaged area at)) = (refl, looked)

  pub tables_registered : (r : Result Reply StagingErr) → MayCall k old → new.fetched ≤ old.fetched + staged_bytes
      → ((refusal : Refusal) → staged_off ≡ Some refusal → new ≡ old) → IfOk r (AreShown user staged_set old) → IfErr r (staging.IsEnd staged_damage old new)
      → ((page : ℕ) → old.tells ≡ true → OnOk r (staged_off ≡ None → IsLastDamaged staged_set old page → ⊥))
      → ((w : World) → IsAtWorld w k.held old → MatchResult r (IsTold w) staging.IsNoDamage)
      → IsRegistered user user asks.Tables (by_staging r) k k old new
  tables_registered r may fetched unread shown why whole world = record {
    goes = record { told = looked.told; kept = looked.kept; faults = looked.faults; fetched = looked.fetched };
    still = λ reads. refl;
    fetched = fetched_allowed staged_off staged_bytes old.fetched new.fetched fetched (λ refusal is. ap (λ (s : State). s.fetched) (unread refusal is));
    unread = λ is. let there = off_there staged_off is in ap (λ (s : State). s.fetched) (unread there.0 there.1);
    cause = cause_of staged_damage old new r why;
    host_alone = alone_of r;
    damaged = λ stage. damaged_of staged_damage old new (λ page. IsDamaged user asks.Tables stage k.held k.held new page) r (λ page is. is) why;
    begins_none = λ none. on_any _ (by_staging r) none;
    whole = λ stage page tells_. ok_of _ r (map_on _ _ r (λ clear met. clear met.0 met.1) (whole page tells_));
    usable = on_any _ (by_staging r) (may_call_later k old new looked may);
    by_journal = λ by fine. journal_looked k.held old new looked by;
    idle = idle_of k k old new r (stays_in r);
    undamaged = λ w at. fine_of r (fine_in w r (world w at));
    at = λ w at. on_any _ (by_staging r) (at_looked w k.held old new at looked);
    seen = if_of (IfNoFile ⊥) r (when_ok (AreShown user staged_set old) (IfNoFile ⊥) r shown_seen shown);
    acts = λ w files at. tables_act w (record { files = files; user = user }) refl at r (world w at);
  }

-- ---- the user

module _ (user : List ℕ) (k : Kept) (s : State) where
  whoami_act : (w : World) (t : Session) → t.user ≡ user → IsAtWorld w k.held s → (r : Result Reply EndErr) → IfOk r (λ reply. reply ≡ says.Whoami user)
      → Acts (tells t (says.Whoami t.user)) t t w r k.held k.held s s
  whoami_act w t named at (Ok reply) is =
      does_told (tells t (says.Whoami t.user)) t t w reply k.held s s (ap (λ (u : List ℕ). tells t (says.Whoami u)) named ∙ ap (tells t) (sym is)) at refl refl
  whoami_act w t named at (Err e) is = breaks_looked (tells t (says.Whoami t.user)) t w k.held s s at refl

  of_memory : (P : EndErr → Type 0) (r : Result Reply EndErr) → P ending.Memory → IfErr r (λ e. e ≡ ending.Memory) → IfErr r P
  of_memory P (Ok reply) p is = tt
  of_memory P (Err e) p is = subst P (sym is) p

  no_end : (e : EndErr) (r : Result Reply EndErr) → (ending.Memory ≡ e → ⊥) → IfErr r (λ x. x ≡ ending.Memory) → IsErrOf r e → ⊥
  no_end e (Ok reply) other is end = cc
  no_end e (Err x) other is end = other (sym is ∙ err_is x e end)
    where
      err_is : (a b : EndErr) → (let one : Result Reply EndErr = Err a in one) ≡ Err b → a ≡ b
      err_is a b e = cc

  seen_who : (r : Result Reply EndErr) → IfOk r (λ reply. reply ≡ says.Whoami user) → IfOk r (IfNoFile ⊥)
  seen_who (Ok reply) is = seen_as (says.Whoami user) reply is (λ name e. cc)
  seen_who (Err e) is = tt

  pub whoami_registered : (r : Result Reply EndErr) → MayCall k s → IfOk r (λ reply. reply ≡ says.Whoami user) → IfErr r (λ e. e ≡ ending.Memory)
      → IsRegistered user user asks.Whoami r k k s s
  whoami_registered r may said memory = record {
    goes = record { told = refl; kept = refl; faults = omega arith; fetched = omega arith };
    still = λ reads. refl;
    fetched = omega arith;
    unread = λ is. refl;
    cause = λ host. absurd (no_end ending.Host r (λ e. cc) memory host);
    host_alone = no_end ending.Stage r (λ e. cc) memory;
    damaged = λ stage. of_memory (IsDamageOf (IsDamaged user asks.Whoami stage k.held k.held s)) r tt memory;
    begins_none = λ none. on_any _ r none;
    whole = λ stage page told. on_any _ r (λ met. met.1);
    usable = on_any _ r may;
    by_journal = λ by fine. by;
    idle = of_memory (IfDamaged (Idle k k s s)) r tt memory;
    undamaged = λ w at. of_memory IsNoDamage r tt memory;
    at = λ w at. on_any _ r (at_still w k.held s at);
    seen = seen_who r said;
    acts = λ w files at. whoami_act w (record { files = files; user = user }) refl at r said;
  }

-- ---- who acts from here on

-- there was no memory for the name
pub no_memory : (user name : List ℕ) (k : Kept) (s : State) → IsRegistered user user (asks.Config name) (Err ending.Memory) k k s s
no_memory user name k s = record {
  goes = record { told = refl; kept = refl; faults = omega arith; fetched = omega arith };
  still = λ reads. refl;
  fetched = omega arith;
  unread = λ is. refl;
  cause = λ host. absurd cc;
  host_alone = λ stage. cc;
  damaged = λ stage. tt;
  begins_none = λ none. tt;
  whole = λ stage page told. tt;
  usable = tt;
  by_journal = λ by fine. by;
  idle = tt;
  undamaged = λ w at. tt;
  at = λ w at. tt;
  seen = tt;
  acts = λ w files at. breaks_looked (permitted w (record { files = files; user = user }) (asks.Config name)) (record { files = files; user = user }) w k.held s s at refl;
}

module _ (user name : List ℕ) (k : Kept) (old new : State) (looked : Looked old new) where
  abbrev users_set : Option Set
  users_set = set_in k.held.numbers users_name

  abbrev users_off : Option Refusal
  users_off = config_off name users_set

  abbrev users_bytes : ℕ
  users_bytes = bytes_in users_set (last_vid users_set)

  abbrev users_damage : ℕ → Type 0
  users_damage page = (users_off ≡ None) × IsLastDamaged users_set new page

  abbrev IsNamed : World → Reply → Type 0
  IsNamed w reply = reply ≡ answer_or (config_refusal name (set_named w users_name)) (says.User name)

  answered : (w : World) (files : Files) → IsAtWorld w k.held old → (o : Option Refusal) (reply : Reply) → reply ≡ answer_or o (says.User name)
      → Does (unless (record { files = files; user = user }) o (tells (record { files = files; user = name }) (says.User name))) (record { files = files; user = user })
      (record { files = files; user = user_by (Some name) (kind_of reply) user }) w reply k.held k.held old new
  answered w files at None reply is =
      let s : Session = record { files = files; user = user }
      in let d : Deed = tells (record { files = files; user = name }) (says.User name)
      in subst (λ (r : Reply). Does d s (record { files = files; user = user_by (Some name) (kind_of r) user }) w r k.held k.held old new) (sym is)
      (does_told d s (record { files = files; user = name }) w (says.User name) k.held old new refl at looked.told (looked.tape at.at.told))
  answered w files at (Some refusal) reply is =
      let s : Session = record { files = files; user = user }
      in let d : Deed = tells s (says.Refused refusal)
      in subst (λ (r : Reply). Does d s (record { files = files; user = user_by (Some name) (kind_of r) user }) w r k.held k.held old new) (sym is)
      (does_told d s s w (says.Refused refusal) k.held old new refl at looked.told (looked.tape at.at.told))

  config_act : (w : World) (files : Files) → IsAtWorld w k.held old → (r : Result Reply StagingErr) → MatchResult r (IsNamed w) staging.IsNoDamage
      → Acts (config_deed (record { files = files; user = user }) name (set_named w users_name)) (record { files = files; user = user })
      (record { files = files; user = next_by user name (by_staging r) }) w (by_staging r) k.held k.held old new
  config_act w files at (Ok reply) is = answered w files at (config_refusal name (set_named w users_name)) reply is
  config_act w files at (Err gone.Host) is =
      breaks_looked (config_deed (record { files = files; user = user }) name (set_named w users_name)) (record { files = files; user = user }) w k.held old new at (looked.tape at.at.told)
  config_act w files at (Err gone.Memory) is =
      breaks_looked (config_deed (record { files = files; user = user }) name (set_named w users_name)) (record { files = files; user = user }) w k.held old new at (looked.tape at.at.told)
  config_act w files at (Err (gone.Damaged area place)) is =
      breaks_looked (config_deed (record { files = files; user = user }) name (set_named w users_name)) (record { files = files; user = user }) w k.held old new at (looked.tape at.at.told)

  off_seen : (a b : Bool) (refusal : Refusal) → option_or (if_so a no.ForeignRegistry) (if_so b (no.NoUser name)) ≡ Some refusal → IfNoFile ⊥ (says.Refused refusal)
  off_seen true b refusal is = seen_so true no.ForeignRegistry refusal (λ file e. cc) is
  off_seen false b refusal is = seen_so b (no.NoUser name) refusal (λ file e. cc) is

  said_seen : (b : Bool) → IfNoFile ⊥ (answer_or (if_so b (no.NoUser name)) (says.User name))
  said_seen true = no_file (no.NoUser name) (λ file e. cc)
  said_seen false = λ file e. cc

  configured_seen : (reply : Reply) → IsConfigured name users_set old reply → IfNoFile ⊥ reply
  configured_seen reply (inl off) = seen_as (says.Refused off.0) reply off.2 (off_seen _ _ off.0 off.1)
  configured_seen reply (inr rows) = seen_as (config_reply name rows.1) reply rows.3 (said_seen _)

  fine_config : (w : World) (r : Result Reply StagingErr) → MatchResult r (IsNamed w) staging.IsNoDamage → IfErr r staging.IsNoDamage
  fine_config w (Ok reply) is = tt
  fine_config w (Err e) is = is

  pub config_registered : (r : Result Reply StagingErr) → MayCall k old → new.fetched ≤ old.fetched + users_bytes
      → ((refusal : Refusal) → users_off ≡ Some refusal → new ≡ old) → IfOk r (IsConfigured name users_set old) → IfErr r (staging.IsEnd users_damage old new)
      → ((page : ℕ) → old.tells ≡ true → OnOk r (users_off ≡ None → IsLastDamaged users_set old page → ⊥))
      → ((w : World) → IsAtWorld w k.held old → MatchResult r (IsNamed w) staging.IsNoDamage)
      → IsRegistered user (next_by user name (by_staging r)) (asks.Config name) (by_staging r) k k old new
  config_registered r may fetched unread said why whole world = record {
    goes = record { told = looked.told; kept = looked.kept; faults = looked.faults; fetched = looked.fetched };
    still = λ reads. refl;
    fetched = fetched_allowed users_off users_bytes old.fetched new.fetched fetched (λ refusal is. ap (λ (s : State). s.fetched) (unread refusal is));
    unread = λ is. let there = off_there users_off is in ap (λ (s : State). s.fetched) (unread there.0 there.1);
    cause = cause_of users_damage old new r why;
    host_alone = alone_of r;
    damaged = λ stage. damaged_of users_damage old new (λ page. IsDamaged user (asks.Config name) stage k.held k.held new page) r (λ page is. is) why;
    begins_none = λ none. on_any _ (by_staging r) none;
    whole = λ stage page tells_. ok_of _ r (map_on _ _ r (λ clear met. clear met.0 met.1) (whole page tells_));
    usable = on_any _ (by_staging r) (may_call_later k old new looked may);
    by_journal = λ by fine. journal_looked k.held old new looked by;
    idle = idle_of k k old new r (stays_in user k old new looked r);
    undamaged = λ w at. fine_of r (fine_config w r (world w at));
    at = λ w at. on_any _ (by_staging r) (at_looked w k.held old new at looked);
    seen = if_of (IfNoFile ⊥) r (when_ok (IsConfigured name users_set old) (IfNoFile ⊥) r configured_seen said);
    acts = λ w files at. config_act w files at r (world w at);
  }

-- who is done with a `config` has a name
module _ (name : List ℕ) (set : Option Set) (s : State) where
  refused_kind : (refusal : Refusal) (reply : Reply) → reply ≡ says.Refused refusal → kind_of reply ≡ served.Done → ⊥
  refused_kind refusal reply is done = let two : kind_of (says.Refused refusal) ≡ served.Done = sym (ap kind_of is) ∙ done in cc

  named_so : (a b : Bool) → option_or (if_so a no.ForeignRegistry) (if_so (not b) (no.NoUser name)) ≡ None → b ≡ true
  named_so true b is = absurd cc
  named_so false true is = refl
  named_so false false is = absurd cc

  pub done_named : (reply : Reply) → IsConfigured name set s reply → kind_of reply ≡ served.Done → IsTrue (is_name name)
  done_named reply (inl off) done = absurd (refused_kind off.0 reply off.2 done)
  done_named reply (inr rows) done = named_so _ (is_name name) rows.0

pub next_named : (next name user now : List ℕ) (what : Served) → next ≡ name → (what ≡ served.Done → IsTrue (is_name name)) → IsTrue (is_name user)
    → now ≡ user_by (Some next) what user → IsTrue (is_name now)
next_named next name user now served.Comment same done named is = subst (λ (n : List ℕ). IsTrue (is_name n)) (sym is) named
next_named next name user now served.Refused same done named is = subst (λ (n : List ℕ). IsTrue (is_name n)) (sym is) named
next_named next name user now served.Done same done named is = subst (λ (n : List ℕ). IsTrue (is_name n)) (sym (is ∙ same)) (done refl)
