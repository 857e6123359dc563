-- A plan that may begin.
--     IsMade s p q made      the event is that of a plan of this dataset, and the report counts what the event says
--     Says lists partitions s p q e      the event says what these make of the parts of the split
--     IsPlanned area s p q e      the event says what the lists and segments on the pages make of the parts of the split
--     IsReport d p q r      the report is what the reply of an optimize tells
--     IsSplitFor s p q split      it is the split of the dataset's versions at p / q
use Rattle.std.specs.Prelude.{◌≡◌, ℕ, List}
use Rattle.std.specs.List.{AllZip}
use Rattle.ov_event.specs.declared.event.Event.{Event}
use Rattle.ov_event.specs.declared.event.Event.TheVariants as says
use Rattle.ov_event.specs.declared.event.PlanTarget.{PlanTarget}
use Rattle.ov_graph.specs.Splits.{depth_of}
use Rattle.ov_graph.specs.Versions.{reduced}
use Rattle.ov_lyre.specs.Parts.{lists_of}
use Rattle.ov_lyre.specs.declared.outcome.Split.{Split}
use Rattle.ov_model.specs.Act.{optimized}
use Rattle.ov_model.specs.Plans as plans
use Rattle.ov_model.specs.World.{Dataset}
use Rattle.ov_model.specs.declared.reply.Reply.TheVariants as reply
use Rattle.ov_catalog.specs.Events.{graph_of, parts_at}
use Rattle.ov_catalog.specs.Splitting.{IsSplitOf}
use Rattle.ov_read.specs.Agreement.{Numbers}
use Rattle.ov_targets.specs.declared.candidates.Partition.{Partition}
use Rattle.ov_targets.specs.Targets.{AreTargets}
use Rattle.ov_optimize.specs.declared.planning.Planned.{Planned}
use Rattle.ov_optimize.specs.declared.report.Report.{Report}
use Rattle.ov_optimize.specs.Counting.{IsCounted}
use Rattle.ov_optimize.specs.Reading.{IsListAt, IsPartitionAt, all_vids}

pub record IsMade (s : Numbers) (p q : ℕ) (made : Planned) : Type 0 where
  pub targets : List PlanTarget
  pub event : made.event ≡ says.Plan s.number p q targets
  pub report : IsCounted (reduced (graph_of s.versions)) p q (parts_at p q s) targets made.report

-- the event says what these lists and partitions make of the parts of the split
pub record Says (lists : List (List ℕ)) (partitions : List Partition) (s : Numbers) (p q : ℕ) (e : Event) : Type 0 where
  pub targets : List PlanTarget
  pub are : AreTargets lists partitions (parts_at p q s) targets
  pub event : e ≡ says.Plan s.number p q targets

pub record IsPlanned (area : List ℕ) (s : Numbers) (p q : ℕ) (e : Event) : Type 0 where
  pub lists : List (List ℕ)
  pub listed : AllZip (IsListAt area s) (all_vids s) lists
  pub partitions : List Partition
  pub parted : AllZip (IsPartitionAt area s) s.parts partitions
  pub says : Says lists partitions s p q e

abbrev pub IsReport : Dataset → ℕ → ℕ → Report → Type 0
IsReport d p q r = reply.Optimize r.depth r.partitions r.stored r.records r.members r.cost r.steps ≡ optimized d p q (plans.parts_at d p q)

-- its parts are those of the definition, each version in one, and its depth is theirs
pub record IsSplitFor (s : Numbers) (p q : ℕ) (split : Split) : Type 0 where
  pub parts : IsSplitOf s p q (lists_of split.parts.items)
  pub depth : split.depth ≡ depth_of (reduced (graph_of s.versions)) p q
