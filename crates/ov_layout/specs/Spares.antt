-- Lists kept ready, so that a change takes no memory.
use Rattle.std.specs.Prelude.{◌≡◌, ℕ, ◌+◌, ◌≤◌, [], length, vec_capacity}
use Rattle.ov_layout.specs.declared.part.Part.{Part}
use Rattle.ov_layout.specs.declared.spares.Spares.{Spares}

pub record AreEmpty (spares : Spares) : Type 0 where
  pub versions : spares.versions.items ≡ []
  pub holds : spares.holds.items ≡ []
  pub segments : spares.segments.items ≡ []

-- the lists have room for so many items
pub record HaveRoom (versions holds segments : ℕ) (spares : Spares) : Type 0 where
  pub versions_fit : versions ≤ vec_capacity spares.versions
  pub holds_fit : holds ≤ vec_capacity spares.holds
  pub segments_fit : segments ≤ vec_capacity spares.segments

-- no list has less room than before
pub record AreGrown (old new : Spares) : Type 0 where
  pub versions : vec_capacity old.versions ≤ vec_capacity new.versions
  pub holds : vec_capacity old.holds ≤ vec_capacity new.holds
  pub segments : vec_capacity old.segments ≤ vec_capacity new.segments

-- they have room for one item more than the lists of a partition
abbrev pub FitsPart : Spares → Part → Type 0
FitsPart spares part = HaveRoom (length part.versions + 1) (length part.holds + 1) (length part.segments + 1) spares

-- they have room for one item more than the lists of the partition with a number
abbrev pub FitsNumbered : Spares → ℕ → Part → Type 0
FitsNumbered spares number part = part.id ≡ number → FitsPart spares part
