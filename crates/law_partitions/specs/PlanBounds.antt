-- What is stored, and what checkouts read, once a plan is done.
--     AreExact d      each partition has the records of its versions, each of them once
--     IsBounded d p q      both bounds of the split
use Rattle.std.specs.Prelude.{◌≡◌, ◌≤◌, ℕ, ◌+◌, ◌*◌, ◌^◌, length}
use Rattle.ov_graph.specs.Splits as splits
use Rattle.ov_graph.specs.Trees.{all_records, all_members}
use Rattle.ov_model.specs.Lists.{IsIn}
use Rattle.ov_model.specs.Plans.{depth_at, nodes_of_set, parts_at, records_in, sizes_of}
use Rattle.ov_model.specs.World.{Part, Dataset, cost, held, stored}

abbrev pub AreExact : Dataset → Type 0
AreExact d = (part : Part) → IsIn d.parts part → length (held part) ≡ length (records_in d.cvd part.versions)

-- they are those of the split, as its optimize told, and T and E bound them
pub record IsBounded (d : Dataset) (p q : ℕ) : Type 0 where
  pub stored_is : stored d ≡ splits.stored (sizes_of d (parts_at d p q))
  pub cost_is : cost d ≡ splits.cost (sizes_of d (parts_at d p q))
  pub stored_bound : q ^ depth_at d p q * stored d ≤ (p + q) ^ depth_at d p q * all_records (nodes_of_set d)
  pub cost_bound : p * cost d ≤ q * all_members (nodes_of_set d)
