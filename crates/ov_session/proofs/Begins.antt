-- The commands that change the store, out of the store's answers.
use Rattle.std.proofs.Common.{◌≡◌, ◌∙◌, ◌+◌, ◌⊎◌, inl, inr, ℕ, Bool, List, [], ◌∷◌, length, Some, None, true, false, refl, sym, ap, subst}
use Rattle.std.specs.Prelude.{IfOk, Option, Ok, Result, if◌then◌else◌, is_some}
use Rattle.std.specs.Option.{option_or}
use Rattle.std.specs.Str.{bytes_eq}
use Rattle.std.proofs.lemmas.Slice.Eq.{bytes_eq-Decides}
use Rattle.ov_host.specs.Host.{State}
use Rattle.ov_host.specs.Disk.{Image}
use Rattle.ov_host.specs.Stops.{Only}
use Rattle.ov_host.proofs.Stops.{only_wider}
use Rattle.law_image.specs.Images.{StandsAs}
use Rattle.ov_core.specs.AtWorld.{IsAtNext, IsAtWorld, IsEither}
use Rattle.law_runs.specs.Serving.{Does}
use Rattle.law_runs.specs.Stops.{printed_of}
use Rattle.ov_model.specs.Act.{Deed, Session, commit_refusal, commit_rows, does, drop_deed, init_refusal, refuses, rows_refusal, with_rows}
use Rattle.ov_model.specs.Book.{Row}
use Rattle.ov_model.specs.Moves.{Drop, Move, moved, wide}
use Rattle.ov_model.specs.World.{Dataset, World, first_set, named, set_named}
use Rattle.ov_model.specs.declared.refusal.Refusal.{Refusal}
use Rattle.ov_model.specs.declared.refusal.Refusal.TheVariants as no
use Rattle.ov_model.specs.declared.reply.Reply.{Reply}
use Rattle.ov_model.specs.declared.reply.Reply.TheVariants as says
use Rattle.ov_open.specs.Opening.{IsWorld}
use Rattle.law_room.specs.Room.{Entry, IsWithin, Made}
use Rattle.ov_session.proofs.Calls.{acts_by, change_broken, change_done, change_refused_still, stays_still}
use Rattle.ov_session.proofs.Deeds.{begin_done, begin_refused, commit_done, commit_refused}
use Rattle.ov_session.specs.Commands.{Acts, begun}
use Rattle.ov_session.specs.Errors.{reply_of}
use Rattle.ov_session.specs.declared.errors.EndErr.{EndErr}
use Rattle.law_reads.specs.Sights.{HasNumbers}
use Rattle.ov_store.proofs.Deciding.{counts, set_found}
use Rattle.ov_store.specs.Beginning.{first_move}
use Rattle.ov_store.specs.Committing.{IsCommitted, Set, Wish, adds, commit_move, committed, fresh_in_world, with_commit}
use Rattle.ov_store.specs.Dropping.{dropped, without}
use Rattle.ov_store.specs.Scanning.{set_in}
use Rattle.ov_store.specs.Kept.{Kept, Stays}
use Rattle.ov_store.specs.Worlds.{IsLack, IsRefusedAs, and_made, begin_refusal, content_refusal, drop_of_set, drop_refusal, version_refusal}
use Rattle.ov_store.specs.declared.errors.StoreErr.{StoreErr}
use Rattle.ov_store.specs.declared.errors.StoreErr.TheVariants as why
use Rattle.ov_store.specs.declared.store.Committed.{Committed}
use Rattle.ov_value.specs.Shapes.{Shape}

some_refusal : (a b : Refusal) → Some a ≡ Some b → a ≡ b
some_refusal a b e = cc

-- room isn't wanting where the World refuses
lack_never : (name : List ℕ) (refusal : Refusal) (e : StoreErr) → IsRefusedAs name (Some refusal) e → (entry : Entry) (past : List Made) (m : Move) (w : World) → IsLack entry past m w e
lack_never name refusal (why.Full pages) is entry past m w = absurd cc
lack_never name refusal why.JournalFull is entry past m w = absurd cc
lack_never name refusal why.Host is entry past m w = tt
lack_never name refusal why.Memory is entry past m w = tt
lack_never name refusal (why.Damaged area at) is entry past m w = tt
lack_never name refusal why.NoCvd is entry past m w = tt
lack_never name refusal why.CvdExists is entry past m w = tt
lack_never name refusal (why.NoVersion vid) is entry past m w = tt
lack_never name refusal (why.RepeatedVersion vid) is entry past m w = tt
lack_never name refusal (why.DuplicateKey row) is entry past m w = tt
lack_never name refusal why.TooManyVersions is entry past m w = tt
lack_never name refusal why.TooManyRecords is entry past m w = tt
lack_never name refusal why.TooManyRows is entry past m w = tt
lack_never name refusal why.TooManyCvds is entry past m w = tt
lack_never name refusal why.NoNumbers is entry past m w = tt
lack_never name refusal (why.FormatOne row) is entry past m w = tt

either_same : (w v : World) (printed : List ℕ) → v ≡ w → (c : Image) → IsEither w v printed c → IsWorld w printed c
either_same w v printed same c is = record { stands = by is.stands; printed_is = is.printed_is }
  where
    by : StandsAs w c ⊎ StandsAs v c → StandsAs w c
    by (inl old) = old
    by (inr new) = subst (λ (x : World). StandsAs x c) same new

either_old : (w v u : World) (printed : List ℕ) → v ≡ w → (c : Image) → IsEither w v printed c → IsEither w u printed c
either_old w v u printed same c is = let on = either_same w v printed same c is in record { stands = inl on.stands; printed_is = on.printed_is }

-- what a change says where it isn't done, whichever it is
module _ (w : World) (s : Session) (d : Deed) (m : Move) (reply : Reply) (name : List ℕ) (off : Option Refusal)
    (refused_is : (refusal : Refusal) → off ≡ Some refusal → d ≡ refuses s refusal) (done_is : off ≡ None → d ≡ does s m reply)
    (before after : Kept) (old new : State) (at : IsAtWorld w before.held old) where
  pub change_off : (result : Result Reply EndErr) (e : StoreErr) → IfOk result (λ r. reply_of name e ≡ Some r) → IsRefusedAs name off e
      → ((entry : Entry) (past : List Made) → IsWithin entry past before.held → IsLack entry past m w e) → Stays e before after old new
      → Only old.tape new.tape (IsEither w (moved m w) (printed_of old))
      → ((refusal : Refusal) → off ≡ Some refusal → Only old.tape new.tape (IsWorld w (printed_of old)))
      → Acts d s s w result before.held after.held old new
  change_off result e said is lack stays stops still =
      acts_by d s s w result name e before.held after.held old new said
      (λ r reply_is.
      let same = stays_still name e r before after old new reply_is stays
      in subst (λ (k : Kept). Does d s s w r before.held k.held old new) (sym same.0)
      (change_refused_still w s d m reply name off refused_is done_is before.held old new at e r is lack reply_is same.1.told (same.1.tape at.at.told)))
      (change_broken w s d m reply name off refused_is done_is before.held old new at stops still)

-- ---- a dataset

module _ (w : World) (s : Session) (cvd : List ℕ) (schema : Shape) (rows : List Row) (before after : Kept) (old new : State)
    (at : IsAtWorld w before.held old) (none : init_refusal w cvd ≡ None) where
  abbrev deed_is : Deed
  deed_is = with_rows w s schema false (begun s cvd schema) (Ok rows)

  -- the name is free, so what refuses it is in the rows
  of_rows : (o : Option Refusal) → begin_refusal w cvd schema rows ≡ o → rows_refusal w schema false rows ≡ o
  of_rows o is = sym (ap (λ p. option_or p (rows_refusal w schema false rows)) none) ∙ is

  pub begun_done : (made : Committed) → made ≡ record { vid = 1; rows = length rows; fresh = length rows } → begin_refusal w cvd schema rows ≡ None
      → Only old.tape new.tape (IsEither w (moved (first_move cvd schema rows) w) (printed_of old)) → IsAtNext (moved (first_move cvd schema rows) w) after.held old new
      → ((entry : Entry) (past : List Made) → IsWithin entry past before.held → IsWithin entry (and_made past (first_move cvd schema rows) w) after.held)
      → Does deed_is s s w (says.Init cvd made.rows) before.held after.held old new
  begun_done made is allowed stops next within =
      subst (λ (n : ℕ). Does deed_is s s w (says.Init cvd n) before.held after.held old new) (sym (ap (λ (x : Committed). x.rows) is))
      (change_done w s deed_is (first_move cvd schema rows) (says.Init cvd (length rows)) cvd (rows_refusal w schema false rows)
      (begin_refused w s cvd schema rows) (begin_done w s cvd schema rows) before.held old new at after.held (of_rows None allowed) stops next within)

  pub begun_off : (result : Result Reply EndErr) (e : StoreErr) → IfOk result (λ r. reply_of cvd e ≡ Some r) → IsRefusedAs cvd (begin_refusal w cvd schema rows) e
      → ((entry : Entry) (past : List Made) → IsWithin entry past before.held → IsLack entry past (first_move cvd schema rows) w e) → Stays e before after old new
      → Only old.tape new.tape (IsEither w (moved (first_move cvd schema rows) w) (printed_of old))
      → ((refusal : Refusal) → begin_refusal w cvd schema rows ≡ Some refusal → Only old.tape new.tape (IsWorld w (printed_of old)))
      → Acts deed_is s s w result before.held after.held old new
  begun_off result e said is lack stays stops still =
      change_off w s deed_is (first_move cvd schema rows) (says.Init cvd (length rows)) cvd (rows_refusal w schema false rows)
      (begin_refused w s cvd schema rows) (begin_done w s cvd schema rows) before after old new at result e said
      (subst (λ o. IsRefusedAs cvd o e) (ap (λ p. option_or p (rows_refusal w schema false rows)) none) is) lack stays stops
      (λ refusal refused. still refusal (ap (λ p. option_or p (rows_refusal w schema false rows)) none ∙ refused))

-- ---- a version

module _ (w : World) (s : Session) (name : List ℕ) (d : Dataset) (wish : Wish) (before after : Kept) (old new : State)
    (at : IsAtWorld w before.held old) (named : set_named w name ≡ Some d) (none : commit_refusal d wish.vids ≡ None) where
  abbrev commit_is : Deed
  commit_is = with_rows w s (wide wish.added d).cvd.schema (adds wish.added) (commit_rows s d wish.vids wish.message wish.added) (Ok wish.rows)

  abbrev move_is : Move
  move_is = commit_move d wish.vids wish.message wish.added wish.rows

  abbrev reply_is : Reply
  reply_is = says.Commit d.cvd.name (length d.cvd.versions + 1) (length wish.rows) (fresh_in_world d wish)

  world_is : committed name wish w ≡ moved move_is w
  world_is = ap (λ o. with_commit o wish w) named

  either_is : Only old.tape new.tape (IsEither w (committed name wish w) (printed_of old)) → Only old.tape new.tape (IsEither w (moved move_is w) (printed_of old))
  either_is stops = subst (λ (v : World). Only old.tape new.tape (IsEither w v (printed_of old))) world_is stops

  of_version : (o : Option Refusal) → version_refusal w d wish ≡ o → content_refusal w d wish ≡ o
  of_version o is = sym (ap (λ p. option_or p (content_refusal w d wish)) none) ∙ is

  pub commit_done_by : version_refusal w d wish ≡ None → Only old.tape new.tape (IsEither w (committed name wish w) (printed_of old))
      → IsAtNext (committed name wish w) after.held old new
      → ((entry : Entry) (past : List Made) → IsWithin entry past before.held → IsWithin entry (and_made past move_is w) after.held)
      → Does commit_is s s w reply_is before.held after.held old new
  commit_done_by allowed stops next within =
      change_done w s commit_is move_is reply_is name (content_refusal w d wish) (commit_refused w s d wish) (commit_done w s d wish) before.held old new at after.held
      (of_version None allowed) (either_is stops) (subst (λ (v : World). IsAtNext v after.held old new) world_is next) within

  pub commit_off_by : (result : Result Reply EndErr) (e : StoreErr) → IfOk result (λ r. reply_of name e ≡ Some r) → IsRefusedAs name (version_refusal w d wish) e
      → ((entry : Entry) (past : List Made) → IsWithin entry past before.held → IsLack entry past move_is w e) → Stays e before after old new
      → Only old.tape new.tape (IsEither w (committed name wish w) (printed_of old))
      → ((refusal : Refusal) → version_refusal w d wish ≡ Some refusal → Only old.tape new.tape (IsWorld w (printed_of old)))
      → Acts commit_is s s w result before.held after.held old new
  commit_off_by result e said is lack stays stops still =
      change_off w s commit_is move_is reply_is name (content_refusal w d wish) (commit_refused w s d wish) (commit_done w s d wish) before after old new at result e said
      (subst (λ o. IsRefusedAs name o e) (ap (λ p. option_or p (content_refusal w d wish)) none) is) lack stays (either_is stops)
      (λ refusal refused. still refusal (ap (λ p. option_or p (content_refusal w d wish)) none ∙ refused))

-- ---- what a commit tells

-- the dataset that is found by a name has it
pub name_found : (name : List ℕ) (sets : List Dataset) (d : Dataset) → first_set (named name) sets ≡ Some d → d.cvd.name ≡ name
name_found name [] d e = absurd cc
name_found name (x ∷ sets) d e = by (bytes_eq x.cvd.name name) (λ same. (bytes_eq-Decides x.cvd.name name).0 same) e (name_found name sets d)
  where
    by : (b : Bool) → (b ≡ true → x.cvd.name ≡ name) → (if b then Some x else first_set (named name) sets) ≡ Some d → (first_set (named name) sets ≡ Some d → d.cvd.name ≡ name)
        → d.cvd.name ≡ name
    by true same is later = let one : x ≡ d = ap (λ o. elim o as (λ _. Dataset) [ None ↦ x | Some y ↦ y ]) is in ap (λ (y : Dataset). y.cvd.name) (sym one) ∙ same refl
    by false same is later = later is

module _ (w : World) (s : Session) (name cvd : List ℕ) (same : name ≡ cvd) (d : Dataset) (wish : Wish) (before after : Kept) (old new : State)
    (at : IsAtWorld w before.held old) (named_is : set_named w cvd ≡ Some d) (none : commit_refusal d wish.vids ≡ None) where
  named_so : set_named w name ≡ Some d
  named_so = ap (set_named w) same ∙ named_is

  told_as : (made : Committed) → ((set : Set) → set_in before.held.numbers name ≡ Some set → IsCommitted set wish old before.held after.held made)
      → made.fresh ≡ fresh_in_world d wish
      → says.Commit d.cvd.name (length d.cvd.versions + 1) (length wish.rows) (fresh_in_world d wish) ≡ says.Commit cvd made.vid made.rows made.fresh
  told_as made is fresh =
      let found = set_found w before.held old at name d named_so
      in let commit = is found.0 found.1
      in let numbers : HasNumbers found.0 d = counts w before.held old at name d named_so found.0 found.1
      in let vid : length d.cvd.versions + 1 ≡ made.vid = ap (λ n. n + 1) (sym numbers.versions) ∙ sym commit.vid_is
      in λ i. says.Commit (name_found cvd w.sets d named_is i) (vid i) (sym commit.rows_is i) (sym fresh i)

  pub version_done : (made : Committed) → ((set : Set) → set_in before.held.numbers name ≡ Some set → IsCommitted set wish old before.held after.held made)
      → ((e : Dataset) → set_named w name ≡ Some e → made.fresh ≡ fresh_in_world e wish)
      → ((e : Dataset) → set_named w name ≡ Some e → version_refusal w e wish ≡ None) → Only old.tape new.tape (IsEither w (committed name wish w) (printed_of old))
      → IsAtNext (committed name wish w) after.held old new
      → ((e : Dataset) (entry : Entry) (past : List Made) → set_named w name ≡ Some e → IsWithin entry past before.held
      → IsWithin entry (and_made past (commit_move e wish.vids wish.message wish.added wish.rows) w) after.held)
      → Does (with_rows w s (wide wish.added d).cvd.schema (adds wish.added) (commit_rows s d wish.vids wish.message wish.added) (Ok wish.rows)) s s w (says.Commit cvd made.vid made.rows made.fresh)
      before.held after.held old new
  version_done made is fresh allowed stops next within =
      subst (λ (r : Reply). Does (with_rows w s (wide wish.added d).cvd.schema (adds wish.added) (commit_rows s d wish.vids wish.message wish.added) (Ok wish.rows)) s s w r before.held after.held old new)
      (told_as made is (fresh d named_so))
      (commit_done_by w s name d wish before after old new at named_so none (allowed d named_so) stops next (λ entry past in_. within d entry past named_so in_))

  pub version_off : (result : Result Reply EndErr) (e : StoreErr) → IfOk result (λ r. reply_of cvd e ≡ Some r)
      → ((x : Dataset) → set_named w name ≡ Some x → IsRefusedAs name (version_refusal w x wish) e)
      → ((x : Dataset) (entry : Entry) (past : List Made) → set_named w name ≡ Some x → IsWithin entry past before.held
      → IsLack entry past (commit_move x wish.vids wish.message wish.added wish.rows) w e) → Stays e before after old new
      → Only old.tape new.tape (IsEither w (committed name wish w) (printed_of old))
      → ((x : Dataset) (refusal : Refusal) → set_named w name ≡ Some x → version_refusal w x wish ≡ Some refusal → Only old.tape new.tape (IsWorld w (printed_of old)))
      → Acts (with_rows w s (wide wish.added d).cvd.schema (adds wish.added) (commit_rows s d wish.vids wish.message wish.added) (Ok wish.rows)) s s w result before.held after.held old new
  version_off result e said is lack stays stops still =
      commit_off_by w s name d wish before after old new at named_so none result e
      (subst (λ (n : List ℕ). IfOk result (λ r. reply_of n e ≡ Some r)) (sym same) said) (is d named_so) (λ entry past in_. lack d entry past named_so in_) stays stops
      (λ refusal refused. still d refusal named_so refused)

-- ---- a drop

module _ (w : World) (s : Session) (name cvd : List ℕ) (same : name ≡ cvd) (before after : Kept) (old new : State) (at : IsAtWorld w before.held old) where
  -- where the dataset is there
  module _ (d : Dataset) (is : set_named w name ≡ Some d) where
    named_there : set_named w cvd ≡ Some d
    named_there = sym (ap (set_named w) same) ∙ is

    dropped_is : dropped name w ≡ moved (Drop d.cvd.number) w
    dropped_is = ap (λ o. without o w) is

    deed_there : drop_deed s cvd (set_named w cvd) ≡ does s (Drop d.cvd.number) (says.Dropped cvd)
    deed_there = ap (drop_deed s cvd) named_there

    pub drop_there : Only old.tape new.tape (IsEither w (dropped name w) (printed_of old)) → IsAtNext (dropped name w) after.held old new
        → ((entry : Entry) (past : List Made) → IsWithin entry past before.held → IsWithin entry (and_made past (Drop d.cvd.number) w) after.held)
        → Does (drop_deed s cvd (set_named w cvd)) s s w (says.Dropped cvd) before.held after.held old new
    drop_there stops next within =
        change_done w s (drop_deed s cvd (set_named w cvd)) (Drop d.cvd.number) (says.Dropped cvd) cvd None (λ refusal e. absurd cc) (λ none. deed_there)
        before.held old new at after.held refl (subst (λ (v : World). Only old.tape new.tape (IsEither w v (printed_of old))) dropped_is stops)
        (subst (λ (v : World). IsAtNext v after.held old new) dropped_is next) within

    pub drop_off_there : (result : Result Reply EndErr) (e : StoreErr) → IfOk result (λ r. reply_of cvd e ≡ Some r) → IsRefusedAs name (drop_refusal w name) e
        → ((entry : Entry) (past : List Made) → IsWithin entry past before.held → IsLack entry past (Drop d.cvd.number) w e) → Stays e before after old new
        → Only old.tape new.tape (IsEither w (dropped name w) (printed_of old))
        → Acts (drop_deed s cvd (set_named w cvd)) s s w result before.held after.held old new
    drop_off_there result e said refused lack stays stops =
        change_off w s (drop_deed s cvd (set_named w cvd)) (Drop d.cvd.number) (says.Dropped cvd) cvd None (λ refusal e. absurd cc) (λ none. deed_there)
        before after old new at result e said
        (subst (λ (n : List ℕ). IsRefusedAs n None e) same (subst (λ o. IsRefusedAs name o e) (ap (drop_of_set name) is) refused)) lack stays
        (subst (λ (v : World). Only old.tape new.tape (IsEither w v (printed_of old))) dropped_is stops) (λ refusal e. absurd cc)

  -- where it isn't
  pub drop_off_gone : set_named w name ≡ None → (result : Result Reply EndErr) (e : StoreErr) → IfOk result (λ r. reply_of cvd e ≡ Some r) → IsRefusedAs name (drop_refusal w name) e
      → Stays e before after old new → Only old.tape new.tape (IsEither w (dropped name w) (printed_of old))
      → Acts (drop_deed s cvd (set_named w cvd)) s s w result before.held after.held old new
  drop_off_gone none result e said refused stays stops =
      let gone : set_named w cvd ≡ None = sym (ap (set_named w) same) ∙ none
      in let world : dropped name w ≡ w = ap (λ o. without o w) none
      in change_off w s (drop_deed s cvd (set_named w cvd)) (Drop 0) (says.Dropped cvd) cvd (Some (no.NoCvd cvd))
      (λ refusal is. ap (drop_deed s cvd) gone ∙ ap (refuses s) (some_refusal (no.NoCvd cvd) refusal is)) (λ e. absurd cc)
      before after old new at result e said
      (subst (λ (n : List ℕ). IsRefusedAs n (Some (no.NoCvd n)) e) same (subst (λ o. IsRefusedAs name o e) (ap (drop_of_set name) none) refused))
      (λ entry past within. lack_never name (no.NoCvd name) e (subst (λ o. IsRefusedAs name o e) (ap (drop_of_set name) none) refused) entry past (Drop 0) w) stays
      (only_wider old.tape new.tape (IsEither w (dropped name w) (printed_of old)) (IsEither w (moved (Drop 0) w) (printed_of old)) (λ c on. either_old w (dropped name w) (moved (Drop 0) w) (printed_of old) world c on) stops)
      (λ refusal is. only_wider old.tape new.tape (IsEither w (dropped name w) (printed_of old)) (IsWorld w (printed_of old)) (λ c on. either_same w (dropped name w) (printed_of old) world c on) stops)

  pub drop_off : (result : Result Reply EndErr) (e : StoreErr) → IfOk result (λ r. reply_of cvd e ≡ Some r) → IsRefusedAs name (drop_refusal w name) e
      → ((d : Dataset) (entry : Entry) (past : List Made) → set_named w name ≡ Some d → IsWithin entry past before.held → IsLack entry past (Drop d.cvd.number) w e)
      → Stays e before after old new → Only old.tape new.tape (IsEither w (dropped name w) (printed_of old))
      → Acts (drop_deed s cvd (set_named w cvd)) s s w result before.held after.held old new
  drop_off result e said refused lack stays stops = by (set_named w name) refl
    where
      by : (o : Option Dataset) → set_named w name ≡ o → Acts (drop_deed s cvd (set_named w cvd)) s s w result before.held after.held old new
      by None none = drop_off_gone none result e said refused stays stops
      by (Some d) is = drop_off_there d is result e said refused (λ entry past within. lack d entry past is within) stays stops

pub some_there : (o : Option Dataset) → is_some o ≡ true → (d : Dataset) × (o ≡ Some d)
some_there None is = absurd cc
some_there (Some d) is = (d, refl)
