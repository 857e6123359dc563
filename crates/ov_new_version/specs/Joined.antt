-- The partition that a version joins, and what is read of it.
--     part_at s place      the partition of the place; none where the version gets its own
--     joined_of a      it is the one that serves the tree parent
--     IsReadOf, RefusesJoined      what is read, and why it isn't
use Rattle.std.specs.Prelude.{◌≡◌, ◌≢◌, ℕ, List, [], Option, Some, None}
use Rattle.ov_graph.specs.Versions.{heaviest}
use Rattle.ov_host.specs.declared.area.Extent.{Extent}
use Rattle.ov_place.specs.declared.place_facts.Place.{Place}
use Rattle.ov_place.specs.declared.place_facts.Place.TheVariants.{Own, Join}
use Rattle.ov_fetch.specs.declared.errors.FetchErr.{FetchErr}
use Rattle.ov_fetch.specs.declared.errors.FetchErr.TheVariants.{Host, Memory, Damaged}
use Rattle.ov_catalog.specs.Applying.{part_numbered, part_serving}
use Rattle.ov_catalog.specs.Numbers.{PartNumbers}
use Rattle.ov_read.specs.Agreement.{IsBorneOut, Numbers}
use Rattle.ov_read.specs.Damages.{RefusesPart}
use Rattle.ov_read.specs.Partitions.{IsPartRead}
use Rattle.ov_new_version.specs.Asked.{Asked, edges_of, place_of}

abbrev pub part_at : Numbers → Place → Option (PartNumbers Extent)
part_at s Own = None
part_at s (Join id) = part_numbered s.parts id

abbrev pub if_joined : Place → Option (PartNumbers Extent) → Option (PartNumbers Extent)
if_joined Own part = None
if_joined (Join id) part = part

-- the parent of the heaviest edge is the tree parent, and one of the parents
abbrev pub joined_of : Asked → Option (PartNumbers Extent)
joined_of a = if_joined (place_of a) (part_serving a.set.parts (heaviest (edges_of a)).0)

-- these are the rids of its records, and they bear out its numbers
abbrev pub IsReadOf : Numbers → List ℕ → Option (PartNumbers Extent) → List ℕ → Type 0
IsReadOf s area None rids = rids ≡ []
IsReadOf s area (Some part) rids = IsPartRead s.schema area part.segments rids × IsBorneOut part.records s.records rids

-- want of memory and a fault of the host say nothing of the bytes
abbrev pub RefusesJoined : FetchErr → Numbers → List ℕ → Option (PartNumbers Extent) → Type 0
RefusesJoined Host s area part = Unit {0}
RefusesJoined Memory s area part = Unit {0}
RefusesJoined (Damaged page) s area None = ⊥
RefusesJoined (Damaged page) s area (Some part) = RefusesPart (Damaged page) s.schema area part.segments part.records s.records

-- the partition of the place is there
abbrev pub IsPlaceThere : Numbers → Place → Type 0
IsPlaceThere s Own = Unit {0}
IsPlaceThere s (Join id) = part_numbered s.parts id ≢ None
