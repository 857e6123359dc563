-- What an answer of the store comes to.
use Rattle.std.proofs.Common.{◌≡◌, inl, inr, ℕ, Bool, true, false, List, length, refl, sym, subst}
use Rattle.std.specs.Prelude.{Some, None, Option, Ok, Err, Result, IfErr, IfOk, OnOk, is_some, option_map, nat_le, ◌==◌}
use Rattle.std.specs.List.{list_any}
use Rattle.std.specs.Option.{option_or}
use Rattle.std.proofs.lemmas.Option.{same_Some}
use Rattle.ov_catalog.specs.Applying.{is_named}
use Rattle.ov_core.specs.Held.{Held, IsByJournal}
use Rattle.ov_fetch.specs.Extents.{Looked}
use Rattle.ov_host.specs.declared.area.Area.{Area}
use Rattle.ov_host.specs.Host.{Rose, State}
use Rattle.ov_model.specs.Act.{Deed, Session}
use Rattle.ov_model.specs.Book.{Row}
use Rattle.ov_model.specs.World.{World}
use Rattle.ov_model.specs.declared.refusal.Refusal.{Refusal}
use Rattle.ov_model.specs.declared.reply.Reply.{Reply}
use Rattle.ov_model.specs.declared.reply.Reply.TheVariants as says
use Rattle.ov_registry.specs.Changing.{Ends, EndsBy, IsUnchanged, wish_of}
use Rattle.ov_registry.specs.Last.{IsUnread, IsLastDamaged, name_of, schema_of}
use Rattle.ov_registry.specs.declared.registry.Registry.{Registry}
use Rattle.ov_rows.specs.Refusing.{rows_off}
use Rattle.ov_rows.specs.declared.rows_err.RowsErr.{RowsErr}
use Rattle.ov_rows.specs.declared.rows_err.RowsErr.TheVariants as rows
use Rattle.ov_store.specs.Beginning.{init_off}
use Rattle.ov_store.specs.Committing.{IfSet, IsDamagedAt, Set}
use Rattle.ov_store.specs.Errors.{of_rows}
use Rattle.ov_store.specs.Kept as store
use Rattle.ov_store.specs.Kept.{Kept, MayCall}
use Rattle.ov_store.specs.Refusals.{off_if, refusal_of}
use Rattle.ov_store.specs.Scanning.{IsUndamaged, set_in}
use Rattle.ov_store.specs.declared.errors.StoreErr.{StoreErr}
use Rattle.ov_store.specs.declared.errors.StoreErr.TheVariants as why
use Rattle.ov_store.proofs.Finishing.{may_call_later}
use Rattle.ov_store.proofs.Journals.{looked_by}
use Rattle.law_runs.specs.Serving.{Does}
use Rattle.ov_staging.specs.Changing.{AreRowsDamaged, IsChangedAs}
use Rattle.ov_staging.specs.Errors.{Acts, IsEnd, IsNoDamage, Stays, end_of, reply_of}
use Rattle.ov_staging.specs.declared.errors.StagingErr.{StagingErr}
use Rattle.ov_staging.specs.declared.errors.StagingErr.TheVariants as ending
use Rattle.ov_staging.proofs.Looks.{alike, damaged_again}

the_end : (a b : StagingErr) → Some a ≡ Some b → a ≡ b
the_end a b is = same_Some a b is

-- ---- the last rows weren't read

pub unread_ends : (set : Option Set) (old new : State) (off : StoreErr) → IsUnread set old new off → is_some (end_of off) ≡ true
unread_ends set old new why.Host is = refl
unread_ends set old new why.Memory is = refl
unread_ends set old new (why.Damaged area at) is = refl
unread_ends set old new (why.Full pages) is = absurd is
unread_ends set old new why.JournalFull is = absurd is
unread_ends set old new why.NoCvd is = absurd is
unread_ends set old new why.CvdExists is = absurd is
unread_ends set old new (why.NoVersion vid) is = absurd is
unread_ends set old new (why.RepeatedVersion vid) is = absurd is
unread_ends set old new (why.DuplicateKey row) is = absurd is
unread_ends set old new why.TooManyVersions is = absurd is
unread_ends set old new why.TooManyRecords is = absurd is
unread_ends set old new why.TooManyRows is = absurd is
unread_ends set old new why.TooManyCvds is = absurd is
unread_ends set old new why.NoNumbers is = absurd is
unread_ends set old new (why.FormatOne row) is = absurd is

module _ (set : Option Set) (old new : State) (looked : Looked old new) where
  abbrev P : ℕ → Type 0
  P page = IsLastDamaged set new page

  pub unread_end : (off : StoreErr) (e : StagingErr) → end_of off ≡ Some e → IsUnread set old new off → IsEnd P old new e
  unread_end why.Host e is un = subst (IsEnd P old new) (the_end ending.Host e is) un
  unread_end why.Memory e is un = subst (IsEnd P old new) (the_end ending.Memory e is) tt
  unread_end (why.Damaged area at) e is un =
      subst (IsEnd P old new) (the_end (ending.Damaged area at) e is) (un.0, damaged_again old new (alike old new looked) set at un.1)
  unread_end (why.Full pages) e is un = absurd un
  unread_end why.JournalFull e is un = absurd un
  unread_end why.NoCvd e is un = absurd un
  unread_end why.CvdExists e is un = absurd un
  unread_end (why.NoVersion vid) e is un = absurd un
  unread_end (why.RepeatedVersion vid) e is un = absurd un
  unread_end (why.DuplicateKey row) e is un = absurd un
  unread_end why.TooManyVersions e is un = absurd un
  unread_end why.TooManyRecords e is un = absurd un
  unread_end why.TooManyRows e is un = absurd un
  unread_end why.TooManyCvds e is un = absurd un
  unread_end why.NoNumbers e is un = absurd un
  unread_end (why.FormatOne row) e is un = absurd un

pub undamaged_end : (off : StoreErr) (e : StagingErr) → end_of off ≡ Some e → IsUndamaged off → IsNoDamage e
undamaged_end why.Host e is fine = subst IsNoDamage (the_end ending.Host e is) tt
undamaged_end why.Memory e is fine = subst IsNoDamage (the_end ending.Memory e is) tt
undamaged_end (why.Damaged area at) e is fine = absurd fine
undamaged_end (why.Full pages) e is fine = absurd cc
undamaged_end why.JournalFull e is fine = absurd cc
undamaged_end why.NoCvd e is fine = absurd cc
undamaged_end why.CvdExists e is fine = absurd cc
undamaged_end (why.NoVersion vid) e is fine = absurd cc
undamaged_end (why.RepeatedVersion vid) e is fine = absurd cc
undamaged_end (why.DuplicateKey row) e is fine = absurd cc
undamaged_end why.TooManyVersions e is fine = absurd cc
undamaged_end why.TooManyRecords e is fine = absurd cc
undamaged_end why.TooManyRows e is fine = absurd cc
undamaged_end why.TooManyCvds e is fine = absurd cc
undamaged_end why.NoNumbers e is fine = absurd cc
undamaged_end (why.FormatOne row) e is fine = absurd cc

pub result_undamaged : (off : StoreErr) (r : Result Reply StagingErr) → IfErr r (λ e. end_of off ≡ Some e) → IsUndamaged off → IfErr r IsNoDamage
result_undamaged off (Ok reply) is fine = tt
result_undamaged off (Err e) is fine = undamaged_end off e is fine

-- ---- the change wasn't made

-- no refusal by the numbers is damage
rows_fine : (o : Option RowsErr) (area : Area) (at : ℕ) → option_map of_rows o ≡ Some (why.Damaged area at) → ⊥
rows_fine None area at is = cc
rows_fine (Some rows.TooManyRows) area at is = cc
rows_fine (Some (rows.DuplicateKey row)) area at is = cc
rows_fine (Some (rows.FormatOne row)) area at is = cc
rows_fine (Some rows.Memory) area at is = cc

off_fine : (a b c : Bool) (o : Option RowsErr) (area : Area) (at : ℕ)
    → option_or (option_or (off_if a why.CvdExists) (option_or (off_if b why.TooManyCvds) (off_if c why.NoNumbers))) (option_map of_rows o) ≡ Some (why.Damaged area at) → ⊥
off_fine true b c o area at is = cc
off_fine false true c o area at is = cc
off_fine false false true o area at is = cc
off_fine false false false o area at is = rows_fine o area at is

init_fine : (held : Held) (which : Registry) (made : List Row) (area : Area) (at : ℕ) → init_off held (name_of which) (schema_of which) made ≡ Some (why.Damaged area at) → ⊥
init_fine held which made area at is =
    off_fine (list_any (is_named (name_of which)) held.numbers.sets) (nat_le 1024 (length held.numbers.sets)) (held.numbers.next == 4294967295)
    (rows_off held.journal.format (schema_of which) _ made) area at is

module _ (which : Registry) (made : List Row) (held : Held) (old new : State) where
  abbrev its_set : Option Set
  its_set = set_in held.numbers (name_of which)

  abbrev Q : ℕ → Type 0
  Q page = AreRowsDamaged which its_set made held old page

  damaged_of : (set : Option Set) (area : Area) (at : ℕ) → set ≡ its_set → IsUnchanged set (name_of which) (schema_of which) made old new held (why.Damaged area at)
      → IsEnd (λ page. AreRowsDamaged which set made held old page) old new (ending.Damaged area at)
  damaged_of set area at same (inl memory) = absurd cc
  damaged_of None area at same (inr is) = absurd (init_fine held which is.made area at is.is)
  damaged_of (Some d) area at same (inr is) = (
    is.is.0,
    (is.made, is.ordered, is.is.1, subst (λ (o : Option Set). IfSet (λ x. IsDamagedAt x (wish_of d is.made) old at) o) (sym same) is.is.2),
  )

  host_of : (set : Option Set) → IsUnchanged set (name_of which) (schema_of which) made old new held why.Host → Rose old.faults new.faults
  host_of set (inl memory) = absurd cc
  host_of None (inr is) = is.is
  host_of (Some d) (inr is) = is.is

  pub unchanged_end : (off : StoreErr) (e : StagingErr) → end_of off ≡ Some e → IsUnchanged its_set (name_of which) (schema_of which) made old new held off → IsEnd Q old new e
  unchanged_end why.Host e is un = subst (IsEnd Q old new) (the_end ending.Host e is) (host_of its_set un)
  unchanged_end why.Memory e is un = subst (IsEnd Q old new) (the_end ending.Memory e is) tt
  unchanged_end (why.Damaged area at) e is un = subst (IsEnd Q old new) (the_end (ending.Damaged area at) e is) (damaged_of its_set area at refl un)
  unchanged_end (why.Full pages) e is un = absurd cc
  unchanged_end why.JournalFull e is un = absurd cc
  unchanged_end why.NoCvd e is un = absurd cc
  unchanged_end why.CvdExists e is un = absurd cc
  unchanged_end (why.NoVersion vid) e is un = absurd cc
  unchanged_end (why.RepeatedVersion vid) e is un = absurd cc
  unchanged_end (why.DuplicateKey row) e is un = absurd cc
  unchanged_end why.TooManyVersions e is un = absurd cc
  unchanged_end why.TooManyRecords e is un = absurd cc
  unchanged_end why.TooManyRows e is un = absurd cc
  unchanged_end why.TooManyCvds e is un = absurd cc
  unchanged_end why.NoNumbers e is un = absurd cc
  unchanged_end (why.FormatOne row) e is un = absurd cc

  pub result_end : (off : StoreErr) (r : Result Reply StagingErr) → IfErr r (λ e. end_of off ≡ Some e) → IsUnchanged its_set (name_of which) (schema_of which) made old new held off
      → IfErr r (IsEnd Q old new)
  result_end off (Ok reply) is un = tt
  result_end off (Err e) is un = unchanged_end off e is un

module _ (before now : Kept) (old new : State) where
  -- a refusal leaves all as it was
  pub still_of : (name : List ℕ) (off : StoreErr) (reply : Reply) → reply_of name off ≡ Some reply → store.Stays off before now old new → (now ≡ before) × Looked old new
  still_of name why.Host reply is stays = absurd cc
  still_of name why.Memory reply is stays = stays
  still_of name (why.Damaged area at) reply is stays = stays
  still_of name (why.Full pages) reply is stays = stays
  still_of name why.JournalFull reply is stays = stays
  still_of name why.NoCvd reply is stays = stays
  still_of name why.CvdExists reply is stays = stays
  still_of name (why.NoVersion vid) reply is stays = stays
  still_of name (why.RepeatedVersion vid) reply is stays = stays
  still_of name (why.DuplicateKey row) reply is stays = stays
  still_of name why.TooManyVersions reply is stays = stays
  still_of name why.TooManyRecords reply is stays = stays
  still_of name why.TooManyRows reply is stays = stays
  still_of name why.TooManyCvds reply is stays = stays
  still_of name why.NoNumbers reply is stays = stays
  still_of name (why.FormatOne row) reply is stays = stays

  stays_end : (off : StoreErr) (e : StagingErr) → end_of off ≡ Some e → store.Stays off before now old new → Stays e before now old new
  stays_end why.Host e is stays = subst (λ x. Stays x before now old new) (the_end ending.Host e is) tt
  stays_end why.Memory e is stays = subst (λ x. Stays x before now old new) (the_end ending.Memory e is) stays
  stays_end (why.Damaged area at) e is stays = subst (λ x. Stays x before now old new) (the_end (ending.Damaged area at) e is) stays
  stays_end (why.Full pages) e is stays = absurd cc
  stays_end why.JournalFull e is stays = absurd cc
  stays_end why.NoCvd e is stays = absurd cc
  stays_end why.CvdExists e is stays = absurd cc
  stays_end (why.NoVersion vid) e is stays = absurd cc
  stays_end (why.RepeatedVersion vid) e is stays = absurd cc
  stays_end (why.DuplicateKey row) e is stays = absurd cc
  stays_end why.TooManyVersions e is stays = absurd cc
  stays_end why.TooManyRecords e is stays = absurd cc
  stays_end why.TooManyRows e is stays = absurd cc
  stays_end why.TooManyCvds e is stays = absurd cc
  stays_end why.NoNumbers e is stays = absurd cc
  stays_end (why.FormatOne row) e is stays = absurd cc

  pub result_stays : (off : StoreErr) (r : Result Reply StagingErr) → IfErr r (λ e. end_of off ≡ Some e) → store.Stays off before now old new
      → IfErr r (λ e. Stays e before now old new)
  result_stays off (Ok reply) is stays = tt
  result_stays off (Err e) is stays = stays_end off e is stays

  pub result_usable : (name : List ℕ) (off : StoreErr) (r : Result Reply StagingErr) → IfOk r (λ reply. reply_of name off ≡ Some reply) → store.Stays off before now old new
      → MayCall before old → OnOk r (MayCall now new)
  result_usable name off (Err e) said stays may = tt
  result_usable name off (Ok reply) said stays may =
      let still = still_of name off reply said stays in subst (λ (k : Kept). MayCall k new) (sym still.0) (may_call_later before old new still.1 may)

  pub result_journal : (name : List ℕ) (off : StoreErr) (r : Result Reply StagingErr) → IfOk r (λ reply. reply_of name off ≡ Some reply) → store.Stays off before now old new
      → IsByJournal before.held old → OnOk r (IsByJournal now.held new)
  result_journal name off (Err e) said stays by = tt
  result_journal name off (Ok reply) said stays by =
      let still = still_of name off reply said stays in subst (λ (k : Kept). IsByJournal k.held new) (sym still.0) (looked_by before.held old new still.1 by)

-- the store refused it
module _ (which : Registry) (set : Option Set) (made : List Row) (said : Reply) (before now : Kept) (old new : State) (name : List ℕ) (named : name ≡ name_of which) where
  pub refused_as : (off : StoreErr) (r : Result Reply StagingErr) → IfOk r (λ reply. reply_of name off ≡ Some reply)
      → IsUnchanged set (name_of which) (schema_of which) made old new before.held off → store.Stays off before now old new
      → IfOk r (λ reply. IsChangedAs which set made said reply before now old new)
  refused_as off (Err e) is un stays = tt
  refused_as off (Ok reply) is un stays =
      let still = still_of before now old new name off reply is stays
      in inr (off, subst (λ (n : List ℕ). reply_of n off ≡ Some reply) named is, un, still.0, still.1)

-- ---- what that means

no_refusal : (name : List ℕ) (off : StoreErr) (e : StagingErr) → end_of off ≡ Some e → refusal_of name off ≡ None
no_refusal name why.Host e is = refl
no_refusal name why.Memory e is = refl
no_refusal name (why.Damaged area at) e is = refl
no_refusal name (why.Full pages) e is = absurd cc
no_refusal name why.JournalFull e is = absurd cc
no_refusal name why.NoCvd e is = absurd cc
no_refusal name why.CvdExists e is = absurd cc
no_refusal name (why.NoVersion vid) e is = absurd cc
no_refusal name (why.RepeatedVersion vid) e is = absurd cc
no_refusal name (why.DuplicateKey row) e is = absurd cc
no_refusal name why.TooManyVersions e is = absurd cc
no_refusal name why.TooManyRecords e is = absurd cc
no_refusal name why.TooManyRows e is = absurd cc
no_refusal name why.TooManyCvds e is = absurd cc
no_refusal name why.NoNumbers e is = absurd cc
no_refusal name (why.FormatOne row) e is = absurd cc

module _ (name : List ℕ) (d : Deed) (s : Session) (w : World) (before now : Held) (old new : State) where
  refused_does : (o : Option Refusal) (reply : Reply) → option_map says.Refused o ≡ Some reply → EndsBy o d s w before now old new → Does d s s w reply before now old new
  refused_does None reply is ends = absurd cc
  refused_does (Some refusal) reply is ends = subst (λ (r : Reply). Does d s s w r before now old new) (same_Some (says.Refused refusal) reply is) ends

  pub ends_act : (off : StoreErr) (r : Result Reply StagingErr) → IfOk r (λ reply. reply_of name off ≡ Some reply) → IfErr r (λ e. end_of off ≡ Some e)
      → Ends name d s w before now old new off → Acts d s w r before now old new
  ends_act off (Ok reply) said ended ends = refused_does (refusal_of name off) reply said ends
  ends_act off (Err e) said ended ends = subst (λ (o : Option Refusal). EndsBy o d s w before now old new) (no_refusal name off e ended) ends
