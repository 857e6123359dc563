-- The store's numbers are those of its journal, whatever the stage tells, unless the host failed.
use Rattle.std.proofs.Common.{◌≡◌, ◌∙◌, ℕ, List, Some, true, take, refl, sym, ap, subst}
use Rattle.std.specs.Prelude.{IfErr, IfOk, IsErrOf, Ok, Err, Result}
use Rattle.ov_host.specs.Disk.{Stored, settled}
use Rattle.ov_host.specs.Host.{Calls, State}
use Rattle.ov_host.specs.Tape.{Prints}
use Rattle.ov_host.proofs.Stops.{done_disk}
use Rattle.ov_journal.specs.Bytes.{IsLive}
use Rattle.ov_journal.specs.Held.{kept_by}
use Rattle.ov_journal.specs.Journal.{IsJournal}
use Rattle.ov_core.specs.Held.{Held, IsByJournal}
use Rattle.ov_fetch.specs.Extents.{Looked}
use Rattle.ov_model.specs.Replies.{reply_text}
use Rattle.ov_model.specs.declared.reply.Reply.{Reply}
use Rattle.ov_session.proofs.Saying.{Says}
use Rattle.ov_session.proofs.Standing.{the_end}
use Rattle.ov_session.specs.Errors.{end_of, reply_of}
use Rattle.ov_session.specs.declared.errors.EndErr.{EndErr}
use Rattle.ov_session.specs.declared.errors.EndErr.TheVariants as ending
use Rattle.ov_session.specs.declared.serving.Served.{Served}
use Rattle.ov_store.specs.Kept.{Kept, Stays}
use Rattle.ov_store.specs.declared.errors.StoreErr.{StoreErr}
use Rattle.ov_store.specs.declared.errors.StoreErr.TheVariants as why

-- the journal's area stays
journal_same : (held : Held) (old new : State) → new.tells ≡ old.tells → new.tape.disk.journal ≡ old.tape.disk.journal → IsByJournal held old → IsByJournal held new
journal_same held old new told same by = record {
  payloads = by.payloads;
  at = record {
    told = told ∙ by.at.told;
    rest = subst (λ (a : Stored). a ≡ settled a.bytes) (sym same) by.at.rest;
    spells = subst (λ (a : Stored). IsJournal (kept_by held.journal by.payloads) a.bytes) (sym same) by.at.spells;
    place = by.at.place;
    slots = subst (λ (a : Stored). IsLive held.journal.side held.journal.spare_open (take 38 a.bytes)) (sym same) by.at.slots;
  };
  replays = by.replays;
}

pub journal_looked : (held : Held) (old new : State) → Looked old new → IsByJournal held old → IsByJournal held new
journal_looked held old new looked by = let tape = looked.tape by.at.told in journal_same held old new looked.told (λ i. (tape i).disk.journal) by

journal_printed : (held : Held) (mid new : State) (bytes : List ℕ) → Calls (Prints bytes) true mid new → IsByJournal held mid → IsByJournal held new
journal_printed held mid new bytes call by =
    let disk = done_disk (Prints bytes) mid.tape new.tape (call.plays by.at.told)
    in journal_same held mid new call.told (λ i. (disk i).journal) by

-- its reply was printed, or there was no memory for it
pub journal_said : (held : Held) (mid new : State) (reply : Reply) (result : Result Served EndErr) → Says reply result mid new → (IsErrOf result ending.Host → ⊥) → IsByJournal held mid
    → IsByJournal held new
journal_said held mid new reply (Ok what) says fine by = journal_printed held mid new (reply_text reply) (says.printed (λ e. cc)) by
journal_said held mid new reply (Err ending.Host) says fine by = absurd (fine refl)
journal_said held mid new reply (Err ending.Memory) says fine by = subst (IsByJournal held) (sym (says.silent refl)) by
journal_said held mid new reply (Err ending.Stage) says fine by = absurd says.why
journal_said held mid new reply (Err (ending.Damaged area at)) says fine by = absurd says.why

-- ---- a call of the store that wasn't done

module _ (before now : Kept) (old new : State) (by : IsByJournal before.held old) where
  stays_by : (now ≡ before) × Looked old new → IsByJournal now.held new
  stays_by still = subst (λ (k : Kept). IsByJournal k.held new) (sym still.0) (journal_looked before.held old new still.1 by)

  host_off : (name : List ℕ) (result : Result Reply EndErr) → IfOk result (λ r. reply_of name why.Host ≡ Some r) → IfErr result (λ e. end_of why.Host ≡ Some e)
      → (IsErrOf result ending.Host → ⊥) → ⊥
  host_off name (Ok r) said ends fine = absurd cc
  host_off name (Err e) said ends fine = fine (ap Err (sym (the_end ending.Host e ends)))

  pub journal_off : (name : List ℕ) (off : StoreErr) (result : Result Reply EndErr) → IfOk result (λ r. reply_of name off ≡ Some r) → IfErr result (λ e. end_of off ≡ Some e)
      → Stays off before now old new → (IsErrOf result ending.Host → ⊥) → IsByJournal now.held new
  journal_off name why.Host result said ends stays fine = absurd (host_off name result said ends fine)
  journal_off name why.Memory result said ends stays fine = stays_by stays
  journal_off name (why.Damaged area at) result said ends stays fine = stays_by stays
  journal_off name (why.Full pages) result said ends stays fine = stays_by stays
  journal_off name why.JournalFull result said ends stays fine = stays_by stays
  journal_off name why.NoCvd result said ends stays fine = stays_by stays
  journal_off name why.CvdExists result said ends stays fine = stays_by stays
  journal_off name (why.NoVersion vid) result said ends stays fine = stays_by stays
  journal_off name (why.RepeatedVersion vid) result said ends stays fine = stays_by stays
  journal_off name (why.DuplicateKey row) result said ends stays fine = stays_by stays
  journal_off name why.TooManyVersions result said ends stays fine = stays_by stays
  journal_off name why.TooManyRecords result said ends stays fine = stays_by stays
  journal_off name why.TooManyRows result said ends stays fine = stays_by stays
  journal_off name why.TooManyCvds result said ends stays fine = stays_by stays
  journal_off name why.NoNumbers result said ends stays fine = stays_by stays
  journal_off name (why.FormatOne row) result said ends stays fine = stays_by stays
