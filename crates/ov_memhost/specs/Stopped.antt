-- A stop in the call of some number, among kept calls.
use Rattle.std.specs.Prelude.{ℕ, suc, ◌==◌, if◌then◌else◌, nat_lt, List, [], ◌∷◌, ◌++◌, length, take}
use Rattle.std.specs.Bool.{MatchBool}
use Rattle.ov_host.specs.Disk.{Disk, Image, MayLeave, area_of, with_area, with_printed}
use Rattle.ov_host.specs.Tape.{Call, Looks, Writes, Syncs, Prints, marked, done, During}
use Rattle.ov_memhost.specs.Kept.{Kept}

-- The disk at a stop within a call. A write counts its whole range as written, whatever it reads; a sync has settled
-- nothing; a print has printed so many of its bytes, or all where it has fewer.
abbrev pub begun : ℕ → Call → Disk → Disk
begun cut Looks d = d
begun cut (Writes area at bytes) d = with_area area (marked at (length bytes) (area_of area d).bytes (area_of area d)) d
begun cut (Syncs area) d = d
begun cut (Prints bytes) d = with_printed (d.printed ++ take cut bytes) d

-- The disk at a stop in the call of this number: the kept calls of lower numbers are done, and the one of this number,
-- where it is kept, has begun.
abbrev pub stopped : List Kept → ℕ → ℕ → Disk → Disk
stopped [] call cut d = d
stopped (k ∷ ks) call cut d =
    if nat_lt k.number call then stopped ks call cut (done k.call d) else if k.number == call then begun cut k.call d else d

-- what a stop in the call of this number may leave
abbrev pub StopIn : List Kept → ℕ → Disk → Image → Type 0
StopIn [] call d c = MayLeave d c
StopIn (k ∷ ks) call d c =
    MatchBool (nat_lt k.number call) (StopIn ks call (done k.call d) c)
    (MatchBool (k.number == call) (During k.call d c) (MayLeave d c))

-- how many of the kept calls stand before the call of this number: the clock as that call began
abbrev pub moments_before : List Kept → ℕ → ℕ
moments_before [] call = 0
moments_before (k ∷ ks) call = if nat_lt k.number call then suc (moments_before ks call) else 0
