-- What a host in memory keeps of its past: the calls that changed something, with their numbers.
use Rattle.std.specs.Prelude.{◌≡◌, ℕ, Bool, ◌&&◌, nat_le, List, [], ◌∷◌}
use Rattle.ov_host.specs.Disk.{Disk, settled}
use Rattle.ov_host.specs.Tape.{Call, Tape, fresh, onto, done}
use Rattle.ov_memhost.specs.Counts.{next}

-- a call that changed something, and its number, counted from 0 over all calls
pub record Kept : Type 0 where
  pub number : ℕ
  pub call : Call

-- the numbers ascend from `low` on, and are below the number of calls; at their last value they stand still
abbrev pub is_numbered : ℕ → List Kept → ℕ → Bool
is_numbered low [] calls = nat_le low calls
is_numbered low (k ∷ ks) calls = nat_le low k.number && is_numbered (next k.number) ks calls

-- these calls, one after another, onto a tape
abbrev pub replayed : List Kept → Tape → Tape
replayed [] t = t
replayed (k ∷ ks) t = replayed ks (onto k.call (done k.call t.disk) t)

-- the bytes of both areas
pub record Contents : Type 0 where
  pub pages : List ℕ
  pub journal : List ℕ

-- a disk on which nothing is pending
abbrev pub at_rest : Contents → List ℕ → Disk
at_rest c printed = record { pages = settled c.pages; journal = settled c.journal; printed = printed }

-- The contents at the start are copied before the first call that changes something. Until then they are what is there.
abbrev pub at_start : List Kept → Contents → Contents → Contents
at_start [] first now = now
at_start (k ∷ ks) first now = first

-- the tape that kept calls spell
abbrev pub tape_by : List Kept → Contents → Contents → List ℕ → Tape
tape_by kept first now printed = replayed kept (fresh (at_rest (at_start kept first now) printed))

-- what is there is what the tape says
pub record Agrees (t : Tape) (now : Contents) (printed : List ℕ) : Type 0 where
  pub pages : t.disk.pages.bytes ≡ now.pages
  pub journal : t.disk.journal.bytes ≡ now.journal
  pub printed_is : t.disk.printed ≡ printed
