-- What reads of an area is never shorter than its synced length, nor longer than its greatest length.
use Rattle.std.specs.Prelude.{◌≡◌, ◌≤◌, ℕ, ◌+◌, List, [], ◌∷◌, ◌++◌, length, take, drop}
use Rattle.std.proofs.Common.{arith, refl, length-append, length-take, length-drop}
use Rattle.ov_host.specs.declared.area.Area.TheVariants.{Pages, Journal}
use Rattle.ov_host.specs.Disk.{Stored, Disk, MayLeave, as_read, settled}
use Rattle.ov_host.specs.Tape.{Call, Looks, Writes, Syncs, Prints, Tape, onto, done, marked, overwritten}
use Rattle.ov_memhost.specs.Kept.{Kept, Contents, at_rest, replayed}

pub record IsSound (a : Stored) : Type 0 where
  pub low : a.synced ≤ length a.bytes
  pub high : length a.bytes ≤ a.greatest

pub record AreSound (d : Disk) : Type 0 where
  pub pages : IsSound d.pages
  pub journal : IsSound d.journal

pub sound_rest : (bytes : List ℕ) → IsSound (settled bytes)
sound_rest bytes = record { low = omega arith; high = omega arith }

pub sound_written : (a : Stored) (at : ℕ) (bytes : List ℕ) → IsSound a → IsSound (marked at (length bytes) (overwritten a.bytes at bytes) a)
sound_written a at bytes s =
    let front : length (take at a.bytes ++ bytes) ≡ length (take at a.bytes) + length bytes = length-append (take at a.bytes) bytes
    in let all : length (overwritten a.bytes at bytes) ≡ length (take at a.bytes ++ bytes) + length (drop (at + length bytes) a.bytes) =
    length-append (take at a.bytes ++ bytes) (drop (at + length bytes) a.bytes)
    in record {
      low = omega (arith, front, all, length-take at a.bytes, length-drop (at + length bytes) a.bytes);
      high = omega (arith, front, all, length-take at a.bytes, length-drop (at + length bytes) a.bytes);
    }

pub sound_done : (call : Call) (d : Disk) → AreSound d → AreSound (done call d)
sound_done Looks d s = s
sound_done (Writes Pages at bytes) d s = record { pages = sound_written d.pages at bytes s.pages; journal = s.journal }
sound_done (Writes Journal at bytes) d s = record { pages = s.pages; journal = sound_written d.journal at bytes s.journal }
sound_done (Syncs Pages) d s = record { pages = sound_rest d.pages.bytes; journal = s.journal }
sound_done (Syncs Journal) d s = record { pages = s.pages; journal = sound_rest d.journal.bytes }
sound_done (Prints bytes) d s = record { pages = s.pages; journal = s.journal }

pub sound_replayed : (ks : List Kept) (t : Tape) → AreSound t.disk → AreSound (replayed ks t).disk
sound_replayed [] t s = s
sound_replayed (k ∷ ks) t s = sound_replayed ks (onto k.call (done k.call t.disk) t) (sound_done k.call t.disk s)

pub sound_start : (c : Contents) (printed : List ℕ) → AreSound (at_rest c printed)
sound_start c printed = record { pages = sound_rest c.pages; journal = sound_rest c.journal }

-- what reads is what a stop may leave
pub sound_reads : (d : Disk) → AreSound d → MayLeave d (as_read d)
sound_reads d s =
    record {
      pages = record { no_shorter = s.pages.low; no_longer = s.pages.high; same = λ p below off. refl };
      journal = record { no_shorter = s.journal.low; no_longer = s.journal.high; same = λ p below off. refl };
      printed = refl;
    }
