-- What a finished plan leaves on the disk.
--     AreJust done vids rs      these are the records of these versions, all of them and no other, each once
--     SpellsJust r d part      a partition's segments, as read, spell just the records of its versions
--     IsSplitOnDisk events r d p q      by the journal's events and what is read of the pages the partitions are the split's parts, in
--         order; what they store and cost is as the World has it, and both bounds hold of these numbers
use Rattle.std.specs.Prelude.{◌≡◌, ◌≤◌, ℕ, ◌+◌, ◌*◌, ◌^◌, List, [], length, map, Some}
use Rattle.std.specs.List.{sum}
use Rattle.ov_graph.specs.Trees.{all_records, all_members}
use Rattle.ov_host.specs.declared.area.Extent.{Extent}
use Rattle.ov_event.specs.declared.event.Event.{Event}
use Rattle.ov_model.specs.Holding.{VersionsAreIn}
use Rattle.ov_model.specs.Lists.{IsIn, joined}
use Rattle.ov_model.specs.Plans.{depth_at, nodes_of_set, parts_at}
use Rattle.ov_model.specs.Records.{Rec, order_of, recs}
use Rattle.ov_model.specs.World.{Dataset, cost, stored}
use Rattle.ov_catalog.specs.Numbers.{PartNumbers, SetNumbers}
use Rattle.ov_catalog.specs.Raw.{numbers_in}
use Rattle.ov_catalog.specs.Shown.{segment_of}
use Rattle.ov_catalog.specs.Stands.{Readings}
use Rattle.law_partitions.specs.Pieces.{AreOf, NoTwice}

-- `done` are the records of the dataset's versions, in their order
pub record AreJust (done : List (List Rec)) (vids : List ℕ) (rs : List Rec) : Type 0 where
  pub once : NoTwice rs
  pub all : VersionsAreIn done vids rs
  pub only : AreOf done vids rs

-- each segment reads as the records of one piece with their rids, and the pieces together are just those of its versions
pub record SpellsJust (r : Readings) (d : Dataset) (part : PartNumbers Extent) : Type 0 where
  pub pieces : List (List Rec)
  pub read : map r.segment part.segments ≡ map (λ piece. Some (segment_of (order_of d.cvd.versions) piece)) pieces
  pub just : AreJust (recs d.cvd.versions []) part.versions (joined pieces)
  pub count : part.records ≡ length (joined pieces)

pub record IsSplitOnDisk (events : List Event) (r : Readings) (d : Dataset) (p q : ℕ) : Type 0 where
  pub set : SetNumbers Extent Extent
  pub there : IsIn (numbers_in events).sets set
  pub number : set.number ≡ d.cvd.number
  pub versions : map (λ part. part.versions) set.parts ≡ parts_at d p q
  pub spell : (part : PartNumbers Extent) → IsIn set.parts part → SpellsJust r d part
  pub stored_is : sum (map (λ part. part.records) set.parts) ≡ stored d
  pub cost_is : sum (map (λ part. length part.versions * part.records) set.parts) ≡ cost d
  pub stored_bound : q ^ depth_at d p q * sum (map (λ part. part.records) set.parts) ≤ (p + q) ^ depth_at d p q * all_records (nodes_of_set d)
  pub cost_bound : p * sum (map (λ part. length part.versions * part.records) set.parts) ≤ q * all_members (nodes_of_set d)
