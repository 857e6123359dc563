-- Why a query has no reply, and what it does at a World.
use Rattle.std.proofs.Common.{◌≡◌, ◌∙◌, ◌⊎◌, inl, inr, ℕ, true, List, [], ◌∷◌, Some, None, refl, sym, subst}
use Rattle.std.specs.Prelude.{IfOk, Option, Ok, Err, Result, is_some}
use Rattle.ov_host.specs.declared.area.Area.{Area}
use Rattle.ov_host.specs.declared.area.Area.TheVariants.{Pages}
use Rattle.ov_host.specs.Host.{Rose, State}
use Rattle.ov_core.specs.AtWorld.{IsAtWorld}
use Rattle.ov_core.specs.Held.{Held}
use Rattle.law_runs.proofs.Doing.{breaks_looked, does_told}
use Rattle.ov_fetch.proofs.Looks.{same_pages}
use Rattle.ov_fetch.specs.Extents.{Looked}
use Rattle.ov_model.specs.Act.{Session, tells}
use Rattle.ov_model.specs.Asking.{run_deed}
use Rattle.ov_model.specs.Deed.{permitted}
use Rattle.ov_model.specs.QueryTexts.{asked_of}
use Rattle.ov_model.specs.World.{World}
use Rattle.ov_model.specs.declared.command.Command.TheVariants as asks
use Rattle.ov_model.specs.declared.refusal.Refusal.{Refusal}
use Rattle.ov_model.specs.declared.reply.Reply.{Reply}
use Rattle.ov_query.specs.Queries.{AreDamaged, IsDamagedRead, IsUnread, Reading, Set}
use Rattle.ov_read.specs.Damages.{IsDamage as IsDamageRead}
use Rattle.ov_session.proofs.Dealing.{scanned_in}
use Rattle.ov_session.specs.Commands.{Acts, IsDamageOf}
use Rattle.ov_session.specs.Errors.{end_of}
use Rattle.ov_session.specs.declared.errors.EndErr.{EndErr}
use Rattle.ov_session.specs.declared.errors.EndErr.TheVariants as ending
use Rattle.ov_store.specs.Scanning.{IsDamagedIn}
use Rattle.ov_store.specs.declared.errors.StoreErr.{StoreErr}
use Rattle.ov_store.specs.declared.errors.StoreErr.TheVariants as why

the_end : (a b : EndErr) → Some a ≡ Some b → b ≡ a
the_end a b e = cc

-- ---- damage of what is read stays where a host is only looked at

scanned_before : (set : Option Set) (vids : List ℕ) (page : ℕ) (old new : State) → Looked old new → IsDamagedIn set vids new page → IsDamagedIn set vids old page
scanned_before None vids page old new looked is = absurd is
scanned_before (Some set) vids page old new looked is = λ told.
    subst (λ (area : List ℕ). IsDamageRead area set vids page) (same_pages old new looked told) (is (looked.told ∙ told))

damaged_since : (reads : List Reading) (page : ℕ) (old new : State) → Looked old new → AreDamaged reads old page → AreDamaged reads new page
damaged_since [] page old new looked is = absurd is
damaged_since (r ∷ []) page old new looked is = scanned_in r.set r.vids page old new looked is
damaged_since (r ∷ q ∷ reads) page old new looked (inl first) = inl (scanned_in r.set r.vids page old new looked first)
damaged_since (r ∷ q ∷ reads) page old new looked (inr later) =
    inr (λ other met. later.0 other (scanned_before r.set r.vids other old new looked met), damaged_since (q ∷ reads) page old new looked later.1)

-- ---- why there is no reply

module _ (o : Option Refusal) (reads : List Reading) (old new : State) where
  abbrev IsDamagedAt : Area → ℕ → Type 0
  IsDamagedAt area page = (area ≡ Pages) × IsDamagedRead o reads old page

  -- a fault of the host or damage, only where nothing is refused; or want of memory
  abbrev pub Cause : EndErr → Type 0
  Cause e = ((e ≡ ending.Host) × (o ≡ None) × Rose old.faults new.faults)
      ⊎ ((e ≡ ending.Memory) ⊎ ((area : Area) × (page : ℕ) × (e ≡ ending.Damaged area page) × IsDamagedAt area page))

  pub query_end : (e : StoreErr) → IsUnread o reads old new e → is_some (end_of e) ≡ true
  query_end why.Host is = refl
  query_end why.Memory is = refl
  query_end (why.Damaged area at) is = refl
  query_end (why.Full pages) is = absurd is
  query_end why.JournalFull is = absurd is
  query_end why.NoCvd is = absurd is
  query_end why.CvdExists is = absurd is
  query_end (why.NoVersion vid) is = absurd is
  query_end (why.RepeatedVersion vid) is = absurd is
  query_end (why.DuplicateKey row) is = absurd is
  query_end why.TooManyVersions is = absurd is
  query_end why.TooManyRecords is = absurd is
  query_end why.TooManyRows is = absurd is
  query_end why.TooManyCvds is = absurd is
  query_end why.NoNumbers is = absurd is
  query_end (why.FormatOne row) is = absurd is

  pub query_cause : (e : StoreErr) (end : EndErr) → IsUnread o reads old new e → end_of e ≡ Some end → Cause end
  query_cause why.Host end is ends = inl (the_end ending.Host end ends, is.0, is.1)
  query_cause why.Memory end is ends = inr (inl (the_end ending.Memory end ends))
  query_cause (why.Damaged area at) end is ends = inr (inr (area, at, the_end (ending.Damaged area at) end ends, is))
  query_cause (why.Full pages) end is ends = absurd is
  query_cause why.JournalFull end is ends = absurd is
  query_cause why.NoCvd end is ends = absurd is
  query_cause why.CvdExists end is ends = absurd is
  query_cause (why.NoVersion vid) end is ends = absurd is
  query_cause (why.RepeatedVersion vid) end is ends = absurd is
  query_cause (why.DuplicateKey row) end is ends = absurd is
  query_cause why.TooManyVersions end is ends = absurd is
  query_cause why.TooManyRecords end is ends = absurd is
  query_cause why.TooManyRows end is ends = absurd is
  query_cause why.TooManyCvds end is ends = absurd is
  query_cause why.NoNumbers end is ends = absurd is
  query_cause (why.FormatOne row) end is ends = absurd is

  abbrev IsDamage : EndErr → Type 0
  IsDamage e = IsDamageOf (IsDamagedRead o reads new) e

  pub damaged_by : (e : EndErr) → Looked old new → Cause e → IsDamage e
  damaged_by e looked (inl host) = subst IsDamage (sym host.0) tt
  damaged_by e looked (inr (inl memory)) = subst IsDamage (sym memory) tt
  damaged_by e looked (inr (inr damaged)) =
      subst IsDamage (sym damaged.2) (damaged.3.0, (damaged.3.1.0, damaged_since reads damaged.1 old new looked damaged.3.1.1))

-- ---- at a World

module _ (w : World) (s : Session) (text : List ℕ) (held : Held) (old new : State) (at : IsAtWorld w held old) (looked : Looked old new) where
  pub query_acts : (result : Result Reply EndErr) → IfOk result (λ reply. run_deed w s (asked_of text) ≡ tells s reply)
      → Acts (permitted w s (asks.Run text)) s s w result held held old new
  query_acts (Ok reply) told = does_told (permitted w s (asks.Run text)) s s w reply held old new told at looked.told (looked.tape at.at.told)
  query_acts (Err e) told = breaks_looked (permitted w s (asks.Run text)) s w held old new at (looked.tape at.at.told)
