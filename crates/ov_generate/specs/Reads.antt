-- The versions of a dataset while they are made: what is read of them and fetched, and what may be damaged.
--     state_behind seed count later      what is drawn from next, behind so many versions after the first one
--     Begun      a version that was begun: what the store kept then, and its parent
--     AreBegun name seed count before begun      versions behind the first one, the last one first, over what the store kept before
--     IsAfter, IsFound      what the store keeps once they were made, or once all but the last were
--     begun_fetch name begun      twice the pages that each one's parent has, by what the store kept then
--     HasFetched ..      no more than this was fetched
--     HasDamagedVersion name seed count versions before now s page      what the next of these versions meets
use Rattle.std.specs.Prelude.{◌≡◌, ◌⊎◌, ◌≤◌, ◌+◌, ◌-◌, ◌*◌, ℕ, zero, suc, List, [], ◌∷◌, length, Option, Some, None}
use Rattle.ov_host.specs.Host.{State}
use Rattle.ov_core.specs.Held.{Held}
use Rattle.ov_gen.specs.Versions.{IsGrown}
use Rattle.ov_model.specs.Generator.{child_of, fresh_rows, generated_schema, parent_drawn}
use Rattle.ov_read.specs.Sizes.{bytes_for}
use Rattle.ov_store.specs.Beginning.{first_of}
use Rattle.ov_store.specs.Changes.{IsDone}
use Rattle.ov_store.specs.Committing.{IsCommitted, Set, Wish}
use Rattle.ov_store.specs.Refusals.{new_off}
use Rattle.ov_store.specs.Scanning.{set_in}
use Rattle.ov_store.specs.declared.store.Committed.{Committed}
use Rattle.ov_generate.specs.Making.{HasDamage}

pub record Begun : Type 0 where
  pub held : Held
  pub parent : ℕ

-- ---- the versions

-- version 1 was made
abbrev pub IsFirstMade : List ℕ → ℕ → ℕ → Held → Held → Type 0
IsFirstMade name seed count before now = IsDone (first_of name generated_schema (fresh_rows count 1 seed).is) before now

-- and one behind it was, of this parent
pub record IsVersionMade (name : List ℕ) (count vid parent : ℕ) (before now : Held) : Type 0 where
  pub set : Set
  pub named : set_in before.numbers name ≡ Some set
  pub wish : Wish
  pub vids_are : wish.vids ≡ parent ∷ []
  pub none_added : wish.added ≡ []
  pub grown : IsGrown count (vid + 1) wish.rows
  pub read : State
  pub made : Committed
  pub committed : IsCommitted set wish read before now made

-- all of them were made, and the first one before them
abbrev pub IsAfter : List ℕ → ℕ → ℕ → Held → List Begun → Held → Type 0
IsAfter name seed count before [] now = IsFirstMade name seed count before now
IsAfter name seed count before (b ∷ begun) now = IsVersionMade name count (length begun + 2) b.parent b.held now

-- What is drawn hangs on no row: so no row is asked for here.
abbrev pub state_behind : ℕ → ℕ → ℕ → ℕ
state_behind seed count zero = (fresh_rows count 1 seed).state
state_behind seed count (suc later) = (child_of count (later + 2) (parent_drawn (later + 1) (state_behind seed count later)).state []).state

-- each was begun once those before it were made, and is of the one of these that is drawn
abbrev pub AreBegun : List ℕ → ℕ → ℕ → Held → List Begun → Type 0
AreBegun name seed count before [] = Unit {0}
AreBegun name seed count before (b ∷ begun) =
    (b.parent ≡ (parent_drawn (length begun + 1) (state_behind seed count (length begun))).is)
    × IsAfter name seed count before begun b.held
    × AreBegun name seed count before begun

-- the last of them wasn't made: the store keeps what that one found
abbrev pub IsFound : Held → List Begun → Held → Type 0
IsFound before [] now = now ≡ before
IsFound before (b ∷ begun) now = now ≡ b.held

-- ---- what they read

-- the pages of the version's list, and of the partitions that serve it
abbrev pub bytes_of : Option Set → ℕ → ℕ
bytes_of None vid = 0
bytes_of (Some set) vid = bytes_for set (vid ∷ [])

-- a parent is read for its rows, and once more for the commit
abbrev pub begun_fetch : List ℕ → List Begun → ℕ
begun_fetch name [] = 0
begun_fetch name (b ∷ begun) = 2 * bytes_of (set_in b.held.numbers name) b.parent + begun_fetch name begun

-- Where the call ended by no fault of the host, the store keeps what the last version that was begun made, or what it found.
pub record HasFetched (name : List ℕ) (seed count versions : ℕ) (before now : Held) (fault : Type 0) (old new : State) : Type 0 where
  pub begun : List Begun
  pub are : AreBegun name seed count before begun
  pub few : length begun ≤ versions - 1
  pub last : (fault → ⊥) → IsAfter name seed count before begun now ⊎ IsFound before begun now
  pub fetched : new.fetched ≤ old.fetched + begun_fetch name begun

-- ---- damage

-- So many versions were made, and the numbers refused none; the next one, of those that are asked for, meets damage.
pub record HasDamagedVersion (name : List ℕ) (seed count versions : ℕ) (before now : Held) (s : State) (page : ℕ) : Type 0 where
  pub allowed : new_off before.numbers name ≡ None
  pub begun : List Begun
  pub are : AreBegun name seed count before begun
  pub made : IsAfter name seed count before begun now
  pub few : length begun + 2 ≤ versions
  pub damage : HasDamage now name (state_behind seed count (length begun)) count (length begun + 2) s page
