-- What a call does to a disk, when it ends and while it goes on; and the moments that led to a disk.
use Rattle.std.specs.Prelude.{◌≡◌, ◌≤◌, ◌⊎◌, ℕ, ◌+◌, max, Bool, true, false, List, [], ◌∷◌, ◌++◌, length, take, drop}
use Rattle.ov_host.specs.declared.area.Area.{Area}
use Rattle.ov_host.specs.Disk.{Stored, Disk, Image, area_of, with_area, with_printed, MayLeave, MayPrint, settled}

-- a call of a host; looks are `len` and `read`, which change nothing
pub data Call : Type 0 where
  Looks : Call
  Writes : (area : Area) (at : ℕ) (bytes : List ℕ) → Call
  Syncs : (area : Area) → Call
  Prints : (bytes : List ℕ) → Call

-- old with these bytes from this place on
abbrev pub overwritten : List ℕ → ℕ → List ℕ → List ℕ
overwritten old at bytes = take at old ++ bytes ++ drop (at + length bytes) old

-- the range of n bytes counts as written, whatever it reads
abbrev pub marked : ℕ → ℕ → List ℕ → Stored → Stored
marked at n bytes a =
    record { bytes = bytes; synced = a.synced; greatest = max a.greatest (at + n); written = (at, at + n) ∷ a.written }

-- any bytes in the range, all others as before, and no longer than the whole write would make it
pub record Torn (at n : ℕ) (old new : List ℕ) : Type 0 where
  pub before : take at new ≡ take at old
  pub after : drop (at + n) new ≡ drop (at + n) old
  pub no_shorter : length old ≤ length new
  pub no_longer : length new ≤ max (length old) (at + n)

-- the disk after a call that answers Ok
abbrev pub done : Call → Disk → Disk
done Looks d = d
done (Writes area at bytes) d =
    with_area area (marked at (length bytes) (overwritten (area_of area d).bytes at bytes) (area_of area d)) d
done (Syncs area) d = with_area area (settled (area_of area d).bytes) d
done (Prints bytes) d = with_printed (d.printed ++ bytes) d

-- the disk after a call that answers Failed, where it did something: a write has left any bytes in its range, which
-- counts as written; a sync has settled nothing; a print has printed a prefix
abbrev pub PartlyDone : Call → Disk → Disk → Type 0
PartlyDone Looks d e = e ≡ d
PartlyDone (Writes area at bytes) d e =
    (torn : List ℕ)
    × Torn at (length bytes) (area_of area d).bytes torn
    × (e ≡ with_area area (marked at (length bytes) torn (area_of area d)) d)
PartlyDone (Syncs area) d e = e ≡ d
PartlyDone (Prints bytes) d e = (n : ℕ) × (e ≡ with_printed (d.printed ++ take n bytes) d)

-- A stop while the call is in progress: a write counts its whole range as written, a sync settles nothing yet, a print
-- has printed a prefix of its bytes.
abbrev pub During : Call → Disk → Image → Type 0
During Looks d c = MayLeave d c
During (Writes area at bytes) d c =
    MayLeave (with_area area (marked at (length bytes) (area_of area d).bytes (area_of area d)) d) c
During (Syncs area) d c = MayLeave d c
During (Prints bytes) d c = MayPrint d bytes c

-- a call that may have changed something, and the disk before it
pub record Moment : Type 0 where
  pub call : Call
  pub disk : Disk

-- a disk, and the moments that led to it
pub record Tape : Type 0 where
  pub disk : Disk
  pub past : List Moment

-- a disk with no past
abbrev pub fresh : Disk → Tape
fresh d = record { disk = d; past = [] }

-- the tape after a call that left this disk
abbrev pub onto : Call → Disk → Tape → Tape
onto call e t = record { disk = e; past = t.past ++ record { call = call; disk = t.disk } ∷ [] }

-- what one call makes of a tape; the flag says that it answered Ok
abbrev pub Plays : Call → Bool → Tape → Tape → Type 0
Plays Looks ok t u = u ≡ t
Plays (Writes area at bytes) true t u = u ≡ onto (Writes area at bytes) (done (Writes area at bytes) t.disk) t
Plays (Syncs area) true t u = u ≡ onto (Syncs area) (done (Syncs area) t.disk) t
Plays (Prints bytes) true t u = u ≡ onto (Prints bytes) (done (Prints bytes) t.disk) t
Plays call false t u = (u ≡ t) ⊎ ((e : Disk) × PartlyDone call t.disk e × (u ≡ onto call e t))

-- the clock: how many moments there were
abbrev pub clock : Tape → ℕ
clock t = length t.past

-- a stop in one of these calls may have left this
abbrev pub HadLeft : List Moment → Image → Type 0
HadLeft [] c = ⊥
HadLeft (m ∷ ms) c = During m.call m.disk c ⊎ HadLeft ms c

-- a stop at some moment since this one, that one included, may have left this
abbrev pub left_since : Tape → ℕ → Image → Type 0
left_since t moment c = MayLeave t.disk c ⊎ HadLeft (drop moment t.past) c
