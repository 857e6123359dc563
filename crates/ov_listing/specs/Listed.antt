-- What `log`, `ls` and `layout` print of numbers.
--     shown_log s      the versions of a dataset, a line each
--     shown_cvds n      the datasets, a line each
--     shown_layout s      the partitions of a dataset, a line each, the plan that runs, and what is stored and what checkouts read
use Rattle.std.specs.Prelude.{ℕ, ◌+◌, ◌-◌, ◌*◌, List, [], ◌∷◌, length, map, Some}
use Rattle.std.specs.List.{sum_by}
use Rattle.std.specs.Option.{option_map}
use Rattle.ov_model.specs.declared.reply.CvdLine.{CvdLine}
use Rattle.ov_model.specs.declared.reply.LogLine.{LogLine}
use Rattle.ov_model.specs.declared.reply.PartLine.{PartLine}
use Rattle.ov_model.specs.declared.reply.PlanLine.{PlanLine}
use Rattle.ov_model.specs.declared.reply.Reply.{Reply}
use Rattle.ov_model.specs.declared.reply.Reply.TheVariants as says
use Rattle.ov_catalog.specs.Events.{current}
use Rattle.ov_catalog.specs.Numbers.{VersionNumbers, PartNumbers, PlanNumbers, SetNumbers, Numbers}
use Rattle.ov_catalog.specs.Steps.{plan_steps}
use Rattle.ov_catalog.specs.Testing.{stored}

-- the version with this number
abbrev pub version_line : {L : Type 0} → ℕ → VersionNumbers L → LogLine
version_line vid v =
    record { vid = vid; rows = v.rows; fresh = v.fresh; parents = map (λ p. p.0) v.parents; message = v.message }

-- versions that are counted from this number on
abbrev pub version_lines : {L : Type 0} → ℕ → List (VersionNumbers L) → List LogLine
version_lines vid [] = []
version_lines vid (v ∷ vs) = version_line vid v ∷ version_lines (vid + 1) vs

abbrev pub shown_log : {L S : Type 0} → SetNumbers L S → List LogLine
shown_log s = version_lines 1 s.versions

abbrev pub set_line : {L S : Type 0} → SetNumbers L S → CvdLine
set_line s = record { name = s.name; versions = length s.versions; records = s.records }

abbrev pub shown_cvds : {L S : Type 0} → Numbers L S → List CvdLine
shown_cvds n = map set_line n.sets

abbrev pub part_line : {S : Type 0} → PartNumbers S → PartLine
part_line part = record { id = part.id; records = part.records; versions = part.versions }

-- the current target is counted from 1; it has to copy the records that it doesn't keep of its source
abbrev pub plan_line : {S : Type 0} → PlanNumbers S → PlanLine
plan_line plan = record {
  p = plan.p;
  q = plan.q;
  target = plan.at + 1;
  targets = length plan.targets;
  copied = plan.copied;
  size = (current plan).size - (current plan).kept_records;
  steps = plan_steps (Some plan);
}

-- what checkouts of each version read: its partition's records
abbrev pub cost : {L S : Type 0} → SetNumbers L S → ℕ
cost s = sum_by (λ part. length part.versions * part.records) s.parts

abbrev pub shown_layout : {L S : Type 0} → SetNumbers L S → Reply
shown_layout s = says.Layout (map part_line s.parts) (option_map plan_line s.plan) (stored s) (cost s)
