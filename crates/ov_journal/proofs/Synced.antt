-- A write to the journal and the sync behind it, where nothing is pending before.
use Rattle.std.proofs.Common.{◌≡◌, ◌≤◌, ℕ, Bool, true, false, List, length, sym, ◌∙◌, subst}
use Rattle.ov_host.specs.declared.area.Area.TheVariants.{Journal}
use Rattle.ov_host.specs.Disk.{Disk, Image, Stored, Leaves, MayLeave, settled}
use Rattle.ov_host.specs.Host.{State, Calls}
use Rattle.ov_host.specs.Stops.{Only}
use Rattle.ov_host.specs.Tape.{Writes, Syncs, Torn, During, marked, overwritten, done}
use Rattle.ov_host.proofs.Stops.{only_then, call_only, during_torn, done_disk}
use Rattle.ov_host.proofs.Writes.{settled_leaves, marked_leaves, torn_overwritten}
use Rattle.ov_journal.specs.Held.{InJournal, AtRest}

module _ (d : Disk) (at : ℕ) (x : List ℕ) (within : at ≤ length d.journal.bytes) (rest : d.journal ≡ settled d.journal.bytes) where
  -- while the write is on its way
  pub pending_leaves : (c : Image) → During (Writes Journal at x) d c → InJournal at (length x) d c
  pending_leaves c left =
      let Marked : Stored → Type 0 = λ a. Leaves (marked at (length x) d.journal.bytes a) c.journal
      in record {
        torn = marked_leaves d.journal.bytes c.journal at (length x) within (subst Marked rest left.journal);
        pages = left.pages;
        printed = left.printed;
      }

  -- once it is done
  pub written_leaves : (c : Image) → MayLeave (done (Writes Journal at x) d) c → InJournal at (length x) d c
  written_leaves c left =
      pending_leaves c
      (during_torn Journal at (length x) (overwritten d.journal.bytes at x) d c (torn_overwritten d.journal.bytes x at within) left)

  -- once it is settled
  pub settled_left : (c : Image) → MayLeave (done (Syncs Journal) (done (Writes Journal at x) d)) c → InJournal at (length x) d c
  settled_left c left =
      let same : c.journal ≡ overwritten d.journal.bytes at x = settled_leaves (overwritten d.journal.bytes at x) c.journal left.journal
      in let T : List ℕ → Type 0 = λ b. Torn at (length x) d.journal.bytes b
      in record {
        torn = subst T (sym same) (torn_overwritten d.journal.bytes x at within);
        pages = left.pages;
        printed = left.printed;
      }

write_only : (s0 s1 : State) (at : ℕ) (x : List ℕ) (ok : Bool) → at ≤ length s0.tape.disk.journal.bytes → AtRest s0 → Calls (Writes Journal at x) ok s0 s1 → Only s0.tape s1.tape (InJournal at (length x) s0.tape.disk)
write_only s0 s1 at x ok within rest calls =
    call_only (Writes Journal at x) ok s0.tape s1.tape (InJournal at (length x) s0.tape.disk) (calls.plays rest.told)
    (pending_leaves s0.tape.disk at x within rest.rest)
    (λ _ c left. written_leaves s0.tape.disk at x within rest.rest c left)

sync_only : (s0 s1 s2 : State) (at : ℕ) (x : List ℕ) (ok : Bool) → at ≤ length s0.tape.disk.journal.bytes → AtRest s0 → Calls (Writes Journal at x) true s0 s1 → Calls (Syncs Journal) ok s1 s2 → Only s1.tape s2.tape (InJournal at (length x) s0.tape.disk)
sync_only s0 s1 s2 at x ok within rest calls syncs =
    let was : s1.tape.disk ≡ done (Writes Journal at x) s0.tape.disk = done_disk (Writes Journal at x) s0.tape s1.tape (calls.plays rest.told)
    in let Before : Disk → Type 0 = λ e. (c : Image) → MayLeave e c → InJournal at (length x) s0.tape.disk c
    in let After : Disk → Type 0 = λ e. (c : Image) → MayLeave (done (Syncs Journal) e) c → InJournal at (length x) s0.tape.disk c
    in call_only (Syncs Journal) ok s1.tape s2.tape (InJournal at (length x) s0.tape.disk) (syncs.plays (calls.told ∙ rest.told))
    (subst Before (sym was) (written_leaves s0.tape.disk at x within rest.rest))
    (λ _. subst After (sym was) (settled_left s0.tape.disk at x within rest.rest))

-- a write that failed
pub first : (s0 s1 : State) (at : ℕ) (x : List ℕ) → (s0.tells ≡ true → at ≤ length s0.tape.disk.journal.bytes) → Calls (Writes Journal at x) false s0 s1 → AtRest s0 → Only s0.tape s1.tape (InJournal at (length x) s0.tape.disk)
first s0 s1 at x within calls rest = write_only s0 s1 at x false (within rest.told) rest calls

-- a write, and a sync, whatever that answered
pub both : (s0 s1 s2 : State) (at : ℕ) (x : List ℕ) (ok : Bool) → (s0.tells ≡ true → at ≤ length s0.tape.disk.journal.bytes) → Calls (Writes Journal at x) true s0 s1 → Calls (Syncs Journal) ok s1 s2 → AtRest s0 → Only s0.tape s2.tape (InJournal at (length x) s0.tape.disk)
both s0 s1 s2 at x ok within calls syncs rest =
    only_then s0.tape s1.tape s2.tape (InJournal at (length x) s0.tape.disk)
    (write_only s0 s1 at x true (within rest.told) rest calls)
    (sync_only s0 s1 s2 at x ok (within rest.told) rest calls syncs)
