-- A dataset as the storage budget sees it, and its table as a reply tells it.
--     lists_of d      the rids of each version
--     told line      a line as it is told
use Rattle.std.specs.Prelude.{ℕ, List, [], map}
use Rattle.ov_model.specs.Records.{order_of, recs}
use Rattle.ov_model.specs.World.{Dataset}
use Rattle.ov_model.specs.declared.reply.BudgetLine.{BudgetLine}
use Rattle.ov_catalog.specs.Shown.{list_of}
use Rattle.ov_budget.specs.declared.thresholds.Line.{Line}

abbrev pub lists_of : Dataset → List (List ℕ)
lists_of d = map (list_of (order_of d.cvd.versions)) (recs d.cvd.versions [])

abbrev pub told : Line → BudgetLine
told line = record { depth = line.depth; partitions = line.partitions; stored = line.stored; cost = line.cost }

-- with its number
abbrev pub told_best : ℕ × Line → ℕ × BudgetLine
told_best best = (best.0, told best.1)
