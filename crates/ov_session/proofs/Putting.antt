-- A checkout as a staged table and the commit of one: a look at the registry, and what comes behind it.
use Rattle.std.proofs.Common.{◌≡◌, ◌≤◌, ◌∙◌, ◌⊎◌, inl, inr, ℕ, Bool, true, false, List, [], refl, sym, ap, subst, arith}
use Rattle.std.specs.Prelude.{◌+◌, IfErr, IfOk, IsErrOf, OnOk, Some, None, Option, Ok, Err, Result, is_some, length, nat_lt, not, option_map}
use Rattle.std.specs.Option.{option_and_then, option_or}
use Rattle.std.proofs.lemmas.Option.{same_Some}
use Rattle.ov_catalog.specs.Numbers.{Numbers}
use Rattle.ov_core.specs.AtWorld.{IsAtWorld}
use Rattle.ov_core.specs.Held.{Held}
use Rattle.ov_fetch.proofs.Looks.{looked_again}
use Rattle.ov_fetch.specs.Extents.{Looked}
use Rattle.ov_host.specs.declared.area.Extent.{Extent}
use Rattle.ov_host.specs.Host.{Rose, State}
use Rattle.ov_host.specs.Stage.{Staged}
use Rattle.ov_host.specs.Tape.{Tape}
use Rattle.law_runs.proofs.Doing.{breaks_looked, does_told}
use Rattle.law_runs.specs.Serving.{session_of}
use Rattle.ov_model.specs.Act.{Deed, Session, if_so, refuses}
use Rattle.ov_model.specs.Book.{Row}
use Rattle.ov_model.specs.Deed.{file_of_table, permitted, table_named}
use Rattle.ov_model.specs.Registry.{stage_name, stage_schema, table_in}
use Rattle.ov_model.specs.World.{World}
use Rattle.ov_model.specs.declared.command.Command.{Command}
use Rattle.ov_model.specs.declared.command.Command.TheVariants as asks
use Rattle.ov_model.specs.declared.refusal.Refusal.{Refusal}
use Rattle.ov_model.specs.declared.refusal.Refusal.TheVariants as no
use Rattle.ov_model.specs.declared.reply.Reply.{Reply}
use Rattle.ov_model.specs.declared.reply.Reply.TheVariants as says
use Rattle.ov_read.specs.Damages.{IsDamage}
use Rattle.ov_registry.specs.Last.{AreLast, IsLastDamaged, last_vid}
use Rattle.ov_registry.specs.declared.registry.Registry.TheVariants as registry
use Rattle.ov_staging.proofs.Looks.{alike, alike_back, damaged_again, last_again}
use Rattle.ov_staging.specs.Changing.{AreRowsDamaged, IsChangeDamaged}
use Rattle.ov_staging.specs.Errors as staging
use Rattle.ov_staging.specs.Errors.{IsEnd}
use Rattle.ov_staging.specs.Origins.{IsOriginBy, staged_in}
use Rattle.ov_staging.specs.Reading.{foreign_off}
use Rattle.ov_staging.specs.Taking.{IsTakenBy, stage_change, stage_off, unfit_off}
use Rattle.ov_staging.specs.declared.changing.Next.TheVariants as next
use Rattle.ov_staging.specs.declared.errors.StagingErr.{StagingErr}
use Rattle.ov_staging.specs.declared.errors.StagingErr.TheVariants as gone
use Rattle.ov_staging.specs.declared.origins.Origin.TheVariants as origin
use Rattle.ov_store.specs.Committing.{Set}
use Rattle.ov_store.specs.Kept.{Kept, MayCall}
use Rattle.ov_store.specs.Refusals.{refusal_of, refused}
use Rattle.ov_store.specs.Scanning.{IsDamagedIn, IsUnscanned, scan_off, set_in, versions_off}
use Rattle.ov_value.specs.Naming.{is_name}
use Rattle.ov_store.specs.declared.errors.StoreErr.{StoreErr}
use Rattle.ov_store.proofs.Finishing.{may_call_later}
use Rattle.ov_session.proofs.Answered.{same_stage}
use Rattle.ov_session.proofs.Bounds.{fetched_allowed, off_there}
use Rattle.ov_session.proofs.Lookups.{unscanned_off}
use Rattle.ov_session.proofs.Numbering.{journal_looked}
use Rattle.ov_session.proofs.Replying.{seen_missed, stored_seen}
use Rattle.ov_session.proofs.Standing.{at_looked, on_any}
use Rattle.ov_session.specs.Bounds.{IsFetched, IsReadingCommand, bytes_in, bytes_of_all, if_allowed, is_command_off}
use Rattle.ov_session.specs.Commands.{Acts, AreBad, IfNoFile, IsCommitDamaged, IsDamageOf, IsDamaged, IsNoDamage, MeetsDamage}
use Rattle.ov_session.specs.Errors.{by_staging, reply_of}
use Rattle.ov_session.specs.Reads.{staged_parents, staged_rows}
use Rattle.ov_session.specs.Serving.{IsServed}
use Rattle.ov_session.specs.Staging.{IsPutDamaged}
use Rattle.ov_session.specs.Standing.{IsAtSilently, IsIdle, IsIdleBehind, IsIdleBy}
use Rattle.ov_session.specs.declared.errors.EndErr.{EndErr}
use Rattle.ov_session.specs.declared.errors.EndErr.TheVariants as ending

true_false : true ≡ false → ⊥
true_false e = cc

-- ---- the merge was read

scan_back : (set : Option Set) (vids : List ℕ) (page : ℕ) (old new : State) → Looked old new → IsDamagedIn set vids new page → IsDamagedIn set vids old page
scan_back None vids page old new looked is = absurd is
scan_back (Some d) vids page old new looked is = λ told.
    subst (λ (b : List ℕ). IsDamage b d vids page) (ap (λ (t : Tape). t.disk.pages.bytes) (looked.tape told)) (is (looked.told ∙ told))

module _ (set stage : Option Set) (vids cvd : List ℕ) (rows : List Row) (before now : Kept) (off : refused cvd (versions_off set vids) ≡ None) where
  put_page : (old new : State) (page : ℕ) → Looked old new → ((other : ℕ) → old.tells ≡ true → IsDamagedIn set vids old other → ⊥)
      → AreRowsDamaged registry.Stage stage rows before.held new page → IsPutDamaged set vids stage rows before.held new page
  put_page old new page looked whole bad = by set off refl new.tells refl
    where
      by : (o : Option Set) → refused cvd (versions_off o vids) ≡ None → set ≡ o → (t : Bool) → new.tells ≡ t → IsPutDamaged set vids stage rows before.held new page
      by None off same t tells = absurd cc
      by (Some d) off same true tells = inr (λ other is. whole other (sym looked.told ∙ tells) (scan_back set vids other old new looked is), bad)
      by (Some d) off same false tells =
          inl (subst (λ (o : Option Set). IsDamagedIn o vids new page) (sym same) (λ told. absurd (true_false (sym told ∙ tells))))

  pub put_damaged : (a b : Staged) (old mid new : State) (r : Result Reply EndErr) → Looked old mid
      → ((other : ℕ) → old.tells ≡ true → IsDamagedIn set vids old other → ⊥) → IfErr r (λ e. IsIdleBehind e before now a b mid new)
      → IfErr r (IsDamageOf (AreRowsDamaged registry.Stage stage rows before.held new)) → IfErr r (IsDamageOf (IsPutDamaged set vids stage rows before.held new))
  put_damaged a b old mid new (Ok reply) looked whole idle bad = tt
  put_damaged a b old mid new (Err ending.Host) looked whole idle bad = tt
  put_damaged a b old mid new (Err ending.Stage) looked whole idle bad = tt
  put_damaged a b old mid new (Err ending.Memory) looked whole idle bad = tt
  put_damaged a b old mid new (Err (ending.Damaged area at)) looked whole idle bad =
      (bad.0, put_page old new at (looked_again old mid new looked idle.0.looked) whole bad.1)

  -- it wasn't; the numbers refuse nothing of it
  pub unmerged_acts : (d : Deed) (s : Session) (w : World) (held : Held) (old new : State) → IsAtWorld w held old → Looked old new → (e : StoreErr)
      → IsUnscanned (versions_off set vids) set vids old new e → (r : Result Reply EndErr) → IfOk r (λ reply. reply_of cvd e ≡ Some reply) → Acts d s s w r held held old new
  unmerged_acts d s w held old new at looked e is (Ok reply) said =
      let met = unscanned_off cvd vids (versions_off set vids) set old new e reply is said
      in let none : refusal_of cvd e ≡ None = ap (refused cvd) (sym met.0) ∙ off
      in let two : None ≡ Some reply = ap (option_map says.Refused) (sym none) ∙ said in absurd cc
  unmerged_acts d s w held old new at looked e is (Err why) said = breaks_looked d s w held old new at (looked.tape at.at.told)

-- ---- behind a look

pub rose_then : (a b c : ℕ) → a ≤ b → Rose b c → Rose a c
rose_then a b c less rose = omega (arith, less, rose)

pub behind_then : (before now : Kept) (stage staged : Staged) (old mid new : State) (r : Result Reply EndErr) → Looked old mid
    → IfErr r (λ e. IsIdleBehind e before now stage staged mid new) → IfErr r (λ e. IsIdleBehind e before now stage staged old new)
behind_then before now stage staged old mid new (Ok reply) looked idle = tt
behind_then before now stage staged old mid new (Err ending.Host) looked idle = tt
behind_then before now stage staged old mid new (Err ending.Stage) looked idle = idle
behind_then before now stage staged old mid new (Err ending.Memory) looked idle = tt
behind_then before now stage staged old mid new (Err (ending.Damaged area at)) looked idle =
    (record { store = idle.0.store; looked = looked_again old mid new looked idle.0.looked }, idle.1)

-- the store stays, and the stage isn't called
pub looked_behind : (k : Kept) (stage : Staged) (old new : State) (r : Result Reply EndErr) → Looked old new → (IsErrOf r ending.Stage → ⊥)
    → IfErr r (λ e. IsIdleBehind e k k stage stage old new)
looked_behind k stage old new (Ok reply) looked alone = tt
looked_behind k stage old new (Err ending.Host) looked alone = tt
looked_behind k stage old new (Err ending.Stage) looked alone = absurd (alone refl)
looked_behind k stage old new (Err ending.Memory) looked alone = tt
looked_behind k stage old new (Err (ending.Damaged area at)) looked alone = (record { store = refl; looked = looked }, refl)

pub looked_idle : (k : Kept) (stage : Staged) (old new : State) (r : Result Reply EndErr) → Looked old new → (IsErrOf r ending.Stage → ⊥)
    → IfErr r (λ e. IsIdle e k k stage stage old new)
looked_idle k stage old new (Ok reply) looked alone = tt
looked_idle k stage old new (Err ending.Host) looked alone = tt
looked_idle k stage old new (Err ending.Stage) looked alone = absurd (alone refl)
looked_idle k stage old new (Err ending.Memory) looked alone = tt
looked_idle k stage old new (Err (ending.Damaged area at)) looked alone = (record { store = refl; looked = looked }, refl)

pub idle_then : (before now : Kept) (stage staged : Staged) (old mid new : State) (r : Result Reply EndErr) → Looked old mid
    → IfErr r (λ e. IsIdle e before now stage staged mid new) → IfErr r (λ e. IsIdle e before now stage staged old new)
idle_then before now stage staged old mid new (Ok reply) looked idle = tt
idle_then before now stage staged old mid new (Err ending.Host) looked idle = tt
idle_then before now stage staged old mid new (Err ending.Stage) looked idle = record { store = idle.store; looked = looked_again old mid new looked idle.looked }
idle_then before now stage staged old mid new (Err ending.Memory) looked idle = tt
idle_then before now stage staged old mid new (Err (ending.Damaged area at)) looked idle =
    (record { store = idle.0.store; looked = looked_again old mid new looked idle.0.looked }, idle.1)

pub at_then : (now : Held) (old mid new : State) (r : Result Reply EndErr) → mid.tape ≡ old.tape → OnOk r (IsAtSilently now mid new) → OnOk r (IsAtSilently now old new)
at_then now old mid new (Ok reply) tape is = record { at = is.at; printed = is.printed ∙ ap (λ (t : Tape). t.disk.printed) tape }
at_then now old mid new (Err e) tape is = tt

-- ---- by the rows of a command

module _ (cvd vids table : List ℕ) (file : Option (List ℕ)) (user : List ℕ) (stage : Staged) (held now : Held) where
  abbrev stage_set : Option Set
  stage_set = set_in held.numbers stage_name

  abbrev command : Command
  command = asks.Checkout cvd vids file (Some table)

  change_met : (set : Option Set) (rows last : List Row) (old new : State) (page : ℕ) → Looked old new → AreLast set old last → rows ≡ staged_rows held.numbers user cvd vids table last
      → AreRowsDamaged registry.Stage set rows held new page → IsChangeDamaged registry.Stage set (staged_rows held.numbers user cvd vids table) held new page
  change_met None rows last old new page looked are is bad = absurd bad
  change_met (Some d) rows last old new page looked are is bad = λ told. (
    last,
    last_again old new (alike old new looked) d last told (are (sym looked.told ∙ told)),
    subst (λ (l : List Row). AreRowsDamaged registry.Stage (Some d) l held new page) is bad,
  )

  taken_page : (rows last : List Row) (old new : State) (page : ℕ) → stage_off held.numbers cvd vids table ≡ None → Looked old new
      → ((other : ℕ) → old.tells ≡ true → IsLastDamaged stage_set old other → ⊥) → AreLast stage_set old last
      → rows ≡ staged_rows held.numbers user cvd vids table last
      → IsPutDamaged (set_in held.numbers cvd) vids stage_set rows held new page → IsDamaged user command stage held now new page
  taken_page rows last old new page none looked whole are is put = (none, by stage_set refl new.tells refl)
    where
      Rest : Type 0
      Rest = IsDamagedIn (set_in held.numbers cvd) vids new page
          ⊎ (((other : ℕ) → IsDamagedIn (set_in held.numbers cvd) vids new other → ⊥)
          × IsChangeDamaged registry.Stage stage_set (staged_rows held.numbers user cvd vids table) held new page)

      rest : IsPutDamaged (set_in held.numbers cvd) vids stage_set rows held new page → Rest
      rest (inl merge) = inl merge
      rest (inr change) = inr (change.0, change_met stage_set rows last old new page looked are is change.1)

      by : (o : Option Set) → stage_set ≡ o → (t : Bool) → new.tells ≡ t
          → IsLastDamaged stage_set new page ⊎ (((other : ℕ) → IsLastDamaged stage_set new other → ⊥) × Rest)
      by o same true tells =
          inr (λ other bad. whole other (sym looked.told ∙ tells) (damaged_again new old (alike_back old new (alike old new looked)) stage_set other bad), rest put)
      by None same false tells = inr (λ other bad. never (subst (λ (o : Option Set). IsLastDamaged o new other) same bad), rest put)
        where
          never : ⊥ ⊎ ⊥ → ⊥
          never (inl a) = a
          never (inr b) = b
      by (Some d) same false tells =
          inl (subst (λ (o : Option Set). IsLastDamaged o new page) (sym same) (inl (λ told. absurd (true_false (sym told ∙ tells)))))

  pub taken_damaged : (rows last : List Row) (before after : Kept) (a b : Staged) (old mid new : State) (r : Result Reply EndErr) → stage_off held.numbers cvd vids table ≡ None
      → Looked old mid → ((other : ℕ) → old.tells ≡ true → IsLastDamaged stage_set old other → ⊥) → AreLast stage_set old last
      → rows ≡ staged_rows held.numbers user cvd vids table last → IfErr r (λ e. IsIdleBehind e before after a b mid new)
      → IfErr r (IsDamageOf (IsPutDamaged (set_in held.numbers cvd) vids stage_set rows held new)) → IfErr r (IsDamageOf (IsDamaged user command stage held now new))
  taken_damaged rows last before after a b old mid new (Ok reply) none looked whole are is idle bad = tt
  taken_damaged rows last before after a b old mid new (Err ending.Host) none looked whole are is idle bad = tt
  taken_damaged rows last before after a b old mid new (Err ending.Stage) none looked whole are is idle bad = tt
  taken_damaged rows last before after a b old mid new (Err ending.Memory) none looked whole are is idle bad = tt
  taken_damaged rows last before after a b old mid new (Err (ending.Damaged area at)) none looked whole are is idle bad =
      (bad.0, taken_page rows last old new at none (looked_again old mid new looked idle.0.looked) whole are is bad.1)

-- ---- only looked at

module _ (user : List ℕ) (command : Command) (k : Kept) (old new : State) (looked : Looked old new) (stage : Staged) where
  pub looked_served : (r : Result Reply EndErr) → MayCall k old → (IsReadingCommand command → ⊥) → IsFetched user command k.held k.held (IsErrOf r ending.Host) old new
      → (is_command_off k.held.numbers user command ≡ true → new.fetched ≡ old.fetched) → (IsErrOf r ending.Host → Rose old.faults new.faults)
      → (IsErrOf r ending.Stage → ⊥) → IfErr r (IsDamageOf (IsDamaged user command stage k.held k.held new))
      → ((w : World) → IsAtWorld w k.held old → IfErr r IsNoDamage) → ((page : ℕ) → old.tells ≡ true → OnOk r (MeetsDamage user command stage k.held old page → ⊥))
      → IfOk r (IfNoFile ⊥) → IfErr r (λ e. IsIdleBy command e k k stage stage old new)
      → ((w : World) → IsAtWorld w k.held old
      → Acts (permitted w (session_of stage.files user) command) (session_of stage.files user) (session_of stage.files user) w r k.held k.held old new)
      → IsServed user user command r k k stage stage old new
  looked_served r may changes fetched unread cause alone damaged undamaged whole seen idle acts = record {
    goes = record { told = looked.told; kept = looked.kept; faults = looked.faults; fetched = looked.fetched };
    attended = same_stage stage;
    still = λ reads. absurd (changes reads);
    fetched = fetched;
    unread = unread;
    cause = cause;
    stage_cause = λ is. absurd (alone is);
    damaged = damaged;
    undamaged = undamaged;
    whole = whole;
    missed = seen_missed _ r seen;
    idle = idle;
    begins_none = λ quiet none. on_any _ r none;
    usable = on_any _ r (may_call_later k old new looked may);
    by_journal = λ by fine. journal_looked k.held old new looked by;
    at = λ w at. on_any _ r (at_looked w k.held old new at looked);
    acts = λ w told at. acts w at;
  }

  pub refused_acts : (d : Deed) (s : Session) (w : World) (refusal : Refusal) → IsAtWorld w k.held old → d ≡ refuses s refusal
      → Acts d s s w (Ok (says.Refused refusal)) k.held k.held old new
  refused_acts d s w refusal at is = does_told d s s w (says.Refused refusal) k.held old new is at looked.told (looked.tape at.at.told)

  pub broken_acts : (d : Deed) (s : Session) (w : World) (e : EndErr) → IsAtWorld w k.held old → Acts d s s w (Err e) k.held k.held old new
  broken_acts d s w e at = breaks_looked d s w k.held old new at (looked.tape at.at.told)

-- ---- a commit of a staged table

last_looked : (set : Option Set) (old new : State) (rows : List Row) → Looked old new → AreLast set old rows → AreLast set new rows
last_looked None old new rows looked are = are
last_looked (Some d) old new rows looked are = λ told. last_again old new (alike old new looked) d rows told (are (sym looked.told ∙ told))

module _ (owner table message user : List ℕ) (stage : Staged) (held now : Held) where
  abbrev owned_set : Option Set
  owned_set = set_in held.numbers stage_name

  abbrev owned : Command
  owned = asks.CommitStaged owner table message

  module _ (last : List Row) (set : Set) (vids cvd : List ℕ) (own : foreign_off stage_schema owned_set ≡ None)
      (is : option_and_then (staged_in held.numbers) (table_in last owner table) ≡ Some (set, vids)) (named : cvd ≡ set.name) where
    pub came_fetched : (fault : Type 0) (old mid new : State) → AreLast owned_set old last
        → mid.fetched ≤ old.fetched + bytes_in owned_set (last_vid owned_set)
        → new.fetched ≤ mid.fetched + bytes_in (set_in held.numbers cvd) vids → IsFetched user owned held now fault old new
    came_fetched fault old mid new are looked read =
        let there : new.fetched ≤ mid.fetched + bytes_in (set_in held.numbers set.name) vids
        = subst (λ (name : List ℕ). new.fetched ≤ mid.fetched + bytes_in (set_in held.numbers name) vids) named read
        in inr (
          last,
          are,
          subst (λ (o : Option Refusal). new.fetched ≤ old.fetched + (if_allowed o (bytes_in owned_set (last_vid owned_set))
              + bytes_of_all (staged_parents held.numbers (file_of_table owner table) message (option_and_then (staged_in held.numbers) (table_in last owner table))))) (sym own)
              (subst (λ (o : Option (Set × List ℕ)). new.fetched ≤ old.fetched + (bytes_in owned_set (last_vid owned_set)
              + bytes_of_all (staged_parents held.numbers (file_of_table owner table) message o))) (sym is) (omega (arith, looked, there))),
        )

    came_page : (old new : State) (page : ℕ) → Looked old new → AreLast owned_set old last
        → IsCommitDamaged cvd vids [] (file_of_table owner table) message stage held new page → IsDamaged user owned stage held now new page
    came_page old new page looked are bad = (
      own,
      inr (
        last,
        last_looked owned_set old new last looked are,
        subst (λ (o : Option (Set × List ℕ)). AreBad (staged_parents held.numbers (file_of_table owner table) message o) stage held new page) (sym is)
            (subst (λ (name : List ℕ). IsCommitDamaged name vids [] (file_of_table owner table) message stage held new page) named bad),
      ),
    )

    pub came_damaged : (off : Option Refusal) (before after : Kept) (a b : Staged) (old mid new : State) (r : Result Reply EndErr) → Looked old mid → AreLast owned_set old last
        → IfErr r (λ e. IsIdle e before after a b mid new)
        → IfErr r (IsDamageOf (λ page. (off ≡ None) × IsCommitDamaged cvd vids [] (file_of_table owner table) message stage held new page))
        → IfErr r (IsDamageOf (IsDamaged user owned stage held now new))
    came_damaged off before after a b old mid new (Ok reply) looked are idle bad = tt
    came_damaged off before after a b old mid new (Err ending.Host) looked are idle bad = tt
    came_damaged off before after a b old mid new (Err ending.Stage) looked are idle bad = tt
    came_damaged off before after a b old mid new (Err ending.Memory) looked are idle bad = tt
    came_damaged off before after a b old mid new (Err (ending.Damaged area at)) looked are idle bad =
        (bad.0, came_page old new at (looked_again old mid new looked idle.0.looked) are bad.1.1)

-- ---- what the numbers refuse nothing of

pub listed_none : (n : Numbers Extent Extent) (cvd vids table : List ℕ) → stage_off n cvd vids table ≡ None → refused cvd (scan_off n cvd vids) ≡ None
listed_none n cvd vids table = by (unfit_off vids table (set_in n stage_name)) (refused cvd (scan_off n cvd vids))
  where
    by : (a b : Option Refusal) → option_or a b ≡ None → b ≡ None
    by None b is = is
    by (Some x) b is = absurd cc

-- ---- refusals that speak of no file

abbrev IsFileless : Option Refusal → Type 0
IsFileless o = (refusal : Refusal) → o ≡ Some refusal → IfNoFile ⊥ (says.Refused refusal)

none_fileless : IsFileless None
none_fileless refusal is = absurd cc

some_fileless : (x : Refusal) → ((name : List ℕ) → x ≡ no.NoFile name → ⊥) → IsFileless (Some x)
some_fileless x other refusal is = λ name e. other name (same_Some x refusal is ∙ same_refusal refusal (no.NoFile name) e)
  where
    same_refusal : (a b : Refusal) → says.Refused a ≡ says.Refused b → a ≡ b
    same_refusal a b e = cc

if_fileless : (t : Bool) (x : Refusal) → ((name : List ℕ) → x ≡ no.NoFile name → ⊥) → IsFileless (if_so t x)
if_fileless true x other = some_fileless x other
if_fileless false x other = none_fileless

or_fileless : (a b : Option Refusal) → IsFileless a → IsFileless b → IsFileless (option_or a b)
or_fileless None b first second = second
or_fileless (Some x) b first second = first

refused_fileless : (cvd : List ℕ) (o : Option StoreErr) → IsFileless (refused cvd o)
refused_fileless cvd None refusal is = absurd cc
refused_fileless cvd (Some off) refusal is = stored_seen cvd off (says.Refused refusal) (ap (option_map says.Refused) is)

pub taken_fileless : (n : Numbers Extent Extent) (cvd vids table owner : List ℕ) (row : Row) (set : Option Set) (s : State) (refusal : Refusal)
    → IsTakenBy (stage_off n cvd vids table) (stage_change owner table row) set s (next.Refused refusal) → IfNoFile ⊥ (says.Refused refusal)
taken_fileless n cvd vids table owner row set s refusal (inl off) =
    or_fileless (unfit_off vids table (set_in n stage_name)) (refused cvd (scan_off n cvd vids))
    (or_fileless (if_so (not (is_name table)) (no.BadName table)) (option_or (foreign_off stage_schema (set_in n stage_name)) (if_so (nat_lt 1000 (length vids)) no.TooManyListed))
    (if_fileless _ (no.BadName table) (λ name e. cc))
    (or_fileless (foreign_off stage_schema (set_in n stage_name)) (if_so (nat_lt 1000 (length vids)) no.TooManyListed)
    (if_fileless _ no.ForeignRegistry (λ name e. cc)) (if_fileless _ no.TooManyListed (λ name e. cc))))
    (refused_fileless cvd (scan_off n cvd vids)) refusal off
taken_fileless n cvd vids table owner row set s refusal (inr by) =
    if_fileless (is_some (table_in by.1 owner table)) (no.TableStaged (table_named owner table)) (λ name e. cc) refusal by.3

pub came_fileless : (n : Numbers Extent Extent) (owner table : List ℕ) (s : State) (refusal : Refusal) → IsOriginBy n owner table s (origin.Refused refusal)
    → IfNoFile ⊥ (says.Refused refusal)
came_fileless n owner table s refusal (inl foreign) =
    let same : refusal ≡ foreign.0 = same_origin refusal foreign.0 foreign.2
    in if_fileless _ no.ForeignRegistry (λ name e. cc) refusal (foreign.1 ∙ ap Some (sym same))
  where
    same_origin : (a b : Refusal) → origin.Refused a ≡ origin.Refused b → a ≡ b
    same_origin a b e = cc
came_fileless n owner table s refusal (inr by) =
    some_fileless (no.NoTable (table_named owner table)) (λ name e. cc) refusal (ap Some (sym by.3.1))

-- the row that a commit of a staged table goes on with
pub record IsCome (n : Numbers Extent Extent) (owner table cvd vids : List ℕ) (s : State) : Type 0 where
  pub last : List Row
  pub set : Set
  pub own : foreign_off stage_schema (set_in n stage_name) ≡ None
  pub are : AreLast (set_in n stage_name) s last
  pub is : option_and_then (staged_in n) (table_in last owner table) ≡ Some (set, vids)
  pub named : cvd ≡ set.name

pub came_rows : (n : Numbers Extent Extent) (owner table cvd vids : List ℕ) (s : State) → IsOriginBy n owner table s (origin.From cvd vids) → IsCome n owner table cvd vids s
came_rows n owner table cvd vids s (inl foreign) = absurd (other foreign.0 foreign.2)
  where
    other : (refusal : Refusal) → origin.From cvd vids ≡ origin.Refused refusal → ⊥
    other refusal e = cc
came_rows n owner table cvd vids s (inr by) = record { last = by.1; set = by.3.0; own = by.0; are = by.2; is = by.3.1; named = by.3.2 }

-- ---- where the registry's look was all

module _ (user : List ℕ) (command : Command) (k : Kept) (old new : State) (looked : Looked old new) (stage : Staged) (off : Option Refusal) where
  abbrev looked_set : Option Set
  looked_set = set_in k.held.numbers stage_name

  abbrev looked_bytes : ℕ
  looked_bytes = bytes_in looked_set (last_vid looked_set)

  abbrev looked_damage : ℕ → Type 0
  looked_damage page = (off ≡ None) × IsLastDamaged looked_set new page

  -- what the command's row says of it
  pub record IsLook : Type 1 where
    pub fetched : (fault : Type 0) → new.fetched ≤ old.fetched + if_allowed off looked_bytes → IsFetched user command k.held k.held fault old new
    pub refused : is_command_off k.held.numbers user command ≡ true → is_some off ≡ true
    pub damaged : (page : ℕ) → looked_damage page → IsDamaged user command stage k.held k.held new page
    pub met : (page : ℕ) → MeetsDamage user command stage k.held old page → (off ≡ None) × IsLastDamaged looked_set old page
    pub changes : IsReadingCommand command → ⊥
    pub idle : (r : Result Reply EndErr) → (IsErrOf r ending.Stage → ⊥) → IfErr r (λ e. IsIdleBy command e k k stage stage old new)

  module _ (row : IsLook) (may : MayCall k old) (fetched : new.fetched ≤ old.fetched + looked_bytes) (unread : (refusal : Refusal) → off ≡ Some refusal → new ≡ old) where
    its_fetched : (fault : Type 0) → IsFetched user command k.held k.held fault old new
    its_fetched fault =
        row.fetched fault (fetched_allowed off looked_bytes old.fetched new.fetched fetched (λ refusal is. ap (λ (s : State). s.fetched) (unread refusal is)))

    its_unread : is_command_off k.held.numbers user command ≡ true → new.fetched ≡ old.fetched
    its_unread is = let there = off_there off (row.refused is) in ap (λ (s : State). s.fetched) (unread there.0 there.1)

    pub look_ended : (e : StagingErr) → IsEnd looked_damage old new e → ((w : World) → IsAtWorld w k.held old → staging.IsNoDamage e)
        → IsServed user user command (by_staging (Err e)) k k stage stage old new
    look_ended gone.Host is fine =
        looked_served user command k old new looked stage (Err ending.Host) may row.changes (its_fetched _) its_unread (λ host. is) (λ end. cc) tt (λ w at. tt) (λ page told. tt) tt
        (row.idle (Err ending.Host) (λ end. cc)) (λ w at. broken_acts user command k old new looked stage _ _ w ending.Host at)
    look_ended gone.Memory is fine =
        looked_served user command k old new looked stage (Err ending.Memory) may row.changes (its_fetched _) its_unread (λ host. absurd cc) (λ end. cc) tt (λ w at. tt) (λ page told. tt) tt
        (row.idle (Err ending.Memory) (λ end. cc)) (λ w at. broken_acts user command k old new looked stage _ _ w ending.Memory at)
    look_ended (gone.Damaged area place) is fine =
        looked_served user command k old new looked stage (Err (ending.Damaged area place)) may row.changes (its_fetched _) its_unread (λ host. absurd cc) (λ end. cc)
        (is.0, row.damaged place is.1) (λ w at. fine w at) (λ page told. tt) tt
        (row.idle (Err (ending.Damaged area place)) (λ end. cc)) (λ w at. broken_acts user command k old new looked stage _ _ w (ending.Damaged area place) at)

    pub look_forgot : IsServed user user command (Err ending.Memory) k k stage stage old new
    look_forgot =
        looked_served user command k old new looked stage (Err ending.Memory) may row.changes (its_fetched _) its_unread (λ host. absurd cc) (λ end. cc) tt (λ w at. tt) (λ page told. tt) tt
        (row.idle (Err ending.Memory) (λ end. cc)) (λ w at. broken_acts user command k old new looked stage _ _ w ending.Memory at)

    pub look_refused : (refusal : Refusal) → ((page : ℕ) → old.tells ≡ true → off ≡ None → IsLastDamaged looked_set old page → ⊥) → IfNoFile ⊥ (says.Refused refusal)
        → ((w : World) → IsAtWorld w k.held old → permitted w (session_of stage.files user) command ≡ refuses (session_of stage.files user) refusal)
        → IsServed user user command (Ok (says.Refused refusal)) k k stage stage old new
    look_refused refusal whole seen is =
        looked_served user command k old new looked stage (Ok (says.Refused refusal)) may row.changes (its_fetched _) its_unread (λ host. absurd cc) (λ end. cc) tt (λ w at. tt)
        (λ page told met. let both = row.met page met in whole page told both.0 both.1) seen tt
        (λ w at. refused_acts user command k old new looked stage _ _ w refusal at (is w at))

-- ---- the two rows

pub taken_look : (user cvd vids table : List ℕ) (file : Option (List ℕ)) (k : Kept) (old new : State) (looked : Looked old new) (stage : Staged)
    → IsLook user (asks.Checkout cvd vids file (Some table)) k old new looked stage (stage_off k.held.numbers cvd vids table)
taken_look user cvd vids table file k old new looked stage = record {
  fetched = λ fault within. by (stage_off k.held.numbers cvd vids table) within;
  refused = λ is. is;
  damaged = λ page is. (is.0, inl is.1);
  met = λ page is. is;
  changes = λ is. is;
  idle = λ r alone. looked_behind k stage old new r looked alone;
}
  where
    by : (o : Option Refusal) → new.fetched ≤ old.fetched + if_allowed o (bytes_in (set_in k.held.numbers stage_name) (last_vid (set_in k.held.numbers stage_name)))
        → new.fetched ≤ old.fetched + if_allowed o (bytes_in (set_in k.held.numbers stage_name) (last_vid (set_in k.held.numbers stage_name))
        + (bytes_in (set_in k.held.numbers cvd) vids + bytes_in (set_in k.held.numbers stage_name) (last_vid (set_in k.held.numbers stage_name))))
    by None within = omega (arith, within)
    by (Some refusal) within = within

pub came_look : (user owner table message : List ℕ) (k : Kept) (old new : State) (looked : Looked old new) (stage : Staged)
    → IsLook user (asks.CommitStaged owner table message) k old new looked stage (foreign_off stage_schema (set_in k.held.numbers stage_name))
came_look user owner table message k old new looked stage = record {
  fetched = λ fault within. inl within;
  refused = λ is. is;
  damaged = λ page is. (is.0, inl is.1);
  met = λ page is. is;
  changes = λ is. is;
  idle = λ r alone. looked_idle k stage old new r looked alone;
}
