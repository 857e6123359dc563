-- What contracts see of a host, and what each of its calls keeps to.
use Rattle.std.specs.Prelude.{◌≡◌, ◌≤◌, ℕ, ◌+◌, ◌-◌, ◌^◌, min, Bool, true, false, List, [], length, take, drop, Result, Ok, Err}
use Rattle.ov_host.specs.declared.area.Area.{Area}
use Rattle.ov_host.specs.declared.area.Area.TheVariants.{Pages, Journal}
use Rattle.ov_host.specs.Disk.{area_of, settled}
use Rattle.ov_host.specs.Tape.{Call, Tape, Plays, fresh}

-- A host: whether it tells its bytes, whether it keeps to the model, its disk with its past, how often it failed, and how
-- many bytes of pages were fetched. Where it tells no bytes, the tape means nothing.
pub record State : Type 0 where
  pub tells : Bool
  pub keeps : Bool
  pub tape : Tape
  pub faults : ℕ
  pub fetched : ℕ

-- a host that tells nothing
abbrev pub silent : ℕ → ℕ → State
silent faults fetched =
    record {
      tells = false;
      keeps = false;
      tape = fresh (record { pages = settled []; journal = settled []; printed = [] });
      faults = faults;
      fetched = fetched;
    }

-- A count that stays at 2^64 - 1 once it is there rose: it became greater, or stands there at the end.
abbrev pub Rose : ℕ → ℕ → Type 0
Rose before now = min (before + 1) (2 ^ 64 - 1) ≤ now

-- What every call keeps to. It fails only where the count of faults rose; no call changes whether the host tells its
-- bytes or keeps to the model.
pub record Calls (call : Call) (ok : Bool) (old new : State) : Type 0 where
  pub told : new.tells ≡ old.tells
  pub kept : new.keeps ≡ old.keeps
  pub plays : old.tells ≡ true → Plays call ok old.tape new.tape
  pub faults : old.faults ≤ new.faults
  pub cause : ok ≡ false → Rose old.faults new.faults

-- the count of fetched bytes after a read that gave n bytes: reads of pages that are Ok raise it by that number
abbrev pub fetched_by : Area → Bool → ℕ → ℕ → ℕ
fetched_by Pages true n before = min (before + n) (2 ^ 64 - 1)
fetched_by Pages false n before = before
fetched_by Journal ok n before = before

-- how many bytes a read answered
abbrev pub gave : {E : Type 0} → Result ℕ E → ℕ
gave (Ok n) = n
gave (Err e) = 0

abbrev pub bytes_of : Area → State → List ℕ
bytes_of area s = (area_of area s.tape.disk).bytes

-- how many bytes stand from a place on, up to the room of the buffer
abbrev pub given : List ℕ → ℕ → ℕ → ℕ
given bytes at room = min room (length bytes - at)

-- a read of n bytes into a buffer that held old and holds new
pub record Reads (area : Area) (at n : ℕ) (s : State) (old new : List ℕ) : Type 0 where
  pub count : n ≡ given (bytes_of area s) at (length old)
  pub bytes : take n new ≡ take n (drop at (bytes_of area s))
