-- What is held of the partition that a version joins, out of what was read for its parents.
--     IsServed vids part      the partition, if there is one, serves one of these versions
--     IsOfHeld, RefusesRids, RefusesHeld      why its rids aren't given
use Rattle.std.specs.Prelude.{◌≡◌, ℕ, true, List, Option, Some, None}
use Rattle.ov_host.specs.declared.area.Extent.{Extent}
use Rattle.ov_value.specs.Shapes.{Shape}
use Rattle.ov_fetch.specs.declared.errors.FetchErr.TheVariants as fetch
use Rattle.ov_catalog.specs.Numbers.{PartNumbers}
use Rattle.ov_read.specs.Agreement.{Numbers}
use Rattle.ov_read.specs.Damages.{RefusesPart}
use Rattle.ov_read.specs.Sizes.{serves_one}
use Rattle.ov_new_version.specs.declared.errors.CommitErr.{CommitErr}
use Rattle.ov_new_version.specs.declared.errors.CommitErr.TheVariants.{Memory, Damaged}
use Rattle.ov_new_version.specs.Joined.{RefusesJoined}

abbrev pub IsServed : List ℕ → Option (PartNumbers Extent) → Type 0
IsServed vids None = Unit {0}
IsServed vids (Some part) = serves_one vids part ≡ true

-- on every host
abbrev pub IsOfHeld : CommitErr → Type 0
IsOfHeld Memory = Unit {0}
IsOfHeld (Damaged page) = Unit {0}
IsOfHeld _ = ⊥

-- want of memory says nothing of the bytes
abbrev pub RefusesRids : CommitErr → Shape → List ℕ → List Extent → ℕ → ℕ → Type 0
RefusesRids Memory schema area segments records last = Unit {0}
RefusesRids (Damaged page) schema area segments records last = RefusesPart (fetch.Damaged page) schema area segments records last
RefusesRids _ schema area segments records last = ⊥

abbrev pub RefusesHeld : CommitErr → Numbers → List ℕ → Option (PartNumbers Extent) → Type 0
RefusesHeld Memory s area part = Unit {0}
RefusesHeld (Damaged page) s area part = RefusesJoined (fetch.Damaged page) s area part
RefusesHeld _ s area part = ⊥
