-- What a report counts, by the tree of the versions, the parts of its split, and what is said of their targets.
--     sizes_said parts targets      of each part its versions and its target's records
--     steps_said targets      the steps that the plan takes
--     IsCounted nodes p q parts targets r      the report has these numbers
use Rattle.std.specs.Prelude.{◌≡◌, ℕ, ◌+◌, ◌-◌, List, [], ◌∷◌, length}
use Rattle.ov_event.specs.declared.event.PlanTarget.{PlanTarget}
use Rattle.ov_graph.specs.declared.nodes.Node.{Node}
use Rattle.ov_graph.specs.Splits as splits
use Rattle.ov_graph.specs.Trees.{all_members, all_records}
use Rattle.ov_model.specs.Plans.{steps_for}
use Rattle.ov_optimize.specs.declared.report.Report.{Report}

abbrev pub sizes_said : List (List ℕ) → List PlanTarget → List (ℕ × ℕ)
sizes_said [] ts = []
sizes_said (part ∷ parts) [] = []
sizes_said (part ∷ parts) (t ∷ ts) = (length part, t.size) ∷ sizes_said parts ts

-- of each target a copy for each 256 records that it lacks, the last one for what is left, and the flip
abbrev pub steps_said : List PlanTarget → ℕ
steps_said [] = 0
steps_said (t ∷ ts) = steps_for (t.size - t.kept_records) + steps_said ts

pub record IsCounted (nodes : List Node) (p q : ℕ) (parts : List (List ℕ)) (targets : List PlanTarget) (r : Report) : Type 0 where
  pub depth : r.depth ≡ splits.depth_of nodes p q
  pub partitions : r.partitions ≡ length parts
  pub stored : r.stored ≡ splits.stored (sizes_said parts targets)
  pub records : r.records ≡ all_records nodes
  pub members : r.members ≡ all_members nodes
  pub cost : r.cost ≡ splits.cost (sizes_said parts targets)
  pub steps : r.steps ≡ steps_said targets
