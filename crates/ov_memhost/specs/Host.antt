-- What contracts see of a host in memory.
use Rattle.std.specs.Prelude.{◌≡◌, ℕ, true, List, [], ◌∷◌, ◌++◌, take}
use Rattle.ov_host.specs.Disk.{Disk, Image, MayLeave, as_read}
use Rattle.ov_host.specs.Host.{State}
use Rattle.ov_host.specs.Tape.{Call, Tape, fresh, onto, done}
use Rattle.ov_memhost.specs.declared.host.MemHost.{MemHost}
use Rattle.ov_memhost.specs.Kept.{Kept, Contents, at_start, tape_by, at_rest}
use Rattle.ov_memhost.specs.Done.{contents, kept_in}
use Rattle.ov_memhost.specs.Sound.{sound_reads, sound_replayed, sound_start}

-- the calls that changed something
abbrev pub kept_by : MemHost → List Kept
kept_by m = kept_in m.history.past.items

abbrev pub tape_of : MemHost → Tape
tape_of m = tape_by (kept_by m) (contents m.history.first) (contents m.areas) (take m.before m.printed.items)

-- it tells its bytes, and keeps to the model
abbrev pub state_of : MemHost → State
state_of m = record { tells = true; keeps = true; tape = tape_of m; faults = m.counts.faults; fetched = m.fetched }

-- what reads is what a stop may leave
pub reads_of : (m : MemHost) → MayLeave (tape_of m).disk (as_read (tape_of m).disk)
reads_of m =
    let first : Contents = at_start (kept_by m) (contents m.history.first) (contents m.areas)
    in let text : List ℕ = take m.before m.printed.items
    in sound_reads (tape_of m).disk (sound_replayed (kept_by m) (fresh (at_rest first text)) (sound_start first text))

-- the disk when the host was made
abbrev pub start_of : MemHost → Disk
start_of m = at_rest (at_start (kept_by m) (contents m.history.first) (contents m.areas)) (take m.before m.printed.items)

-- what it reads now, as an image
abbrev pub image_of : MemHost → Image
image_of m = as_read (tape_of m).disk

-- a new host of these contents and these printed bytes: nothing is pending, and nothing was counted
abbrev pub new_state : Contents → List ℕ → State
new_state c printed = record { tells = true; keeps = true; tape = fresh (at_rest c printed); faults = 0; fetched = 0 }

-- a call was done, and is kept under its number
pub record Does (call : Call) (number : ℕ) (old new : MemHost) : Type 0 where
  pub tape : tape_of new ≡ onto call (done call (tape_of old).disk) (tape_of old)
  pub kept : kept_by new ≡ kept_by old ++ record { number = number; call = call } ∷ []
  pub start : start_of new ≡ start_of old

-- a call changed no byte, and isn't kept
pub record Idle (old new : MemHost) : Type 0 where
  pub tape : tape_of new ≡ tape_of old
  pub kept : kept_by new ≡ kept_by old
  pub start : start_of new ≡ start_of old

-- A host that was just made of an image: nothing is pending, no call is listed, and none was made.
pub record IsNew (c : Image) (m : MemHost) : Type 0 where
  pub state : state_of m ≡ new_state (record { pages = c.pages; journal = c.journal }) c.printed
  pub kept : kept_by m ≡ []
  pub unlisted : m.counts.fail.items ≡ []
  pub calls : m.counts.calls ≡ 0
  pub starved : m.counts.starved ≡ 0
