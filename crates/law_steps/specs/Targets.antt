-- What stands of a plan's target in a store.
--     wanted_rids d vids      the rids of the records of these versions together
--     kept_rids d t      those of the pieces that a target keeps
--     missing_rids d plan      those of the records that the current target misses
--     kept_segments s t      the segments that a target keeps
--     kept_contents d t      the records of each of them
use Rattle.std.specs.Prelude.{ℕ, List, map}
use Rattle.ov_host.specs.declared.area.Extent.{Extent}
use Rattle.ov_segment.specs.declared.numbered.Record.{Record}
use Rattle.ov_model.specs.Lists.{joined}
use Rattle.ov_model.specs.Plans as plans
use Rattle.ov_model.specs.Plans.{kept_pieces, missing}
use Rattle.ov_model.specs.Records.{order_of}
use Rattle.ov_model.specs.World.{Target, Plan, Dataset}
use Rattle.ov_catalog.specs.Events.{chosen, segments_at}
use Rattle.ov_catalog.specs.Numbers.{TargetNumbers}
use Rattle.ov_catalog.specs.Shown.{Rids, list_of}
use Rattle.ov_read.specs.Agreement.{Numbers}
use Rattle.law_reads.specs.Sights.{records_in}

abbrev pub wanted_rids : Dataset → List ℕ → Rids
wanted_rids d vids = list_of (order_of d.cvd.versions) (plans.records_in d.cvd vids)

abbrev pub kept_rids : Dataset → Target → Rids
kept_rids d t = list_of (order_of d.cvd.versions) (joined (kept_pieces d t))

abbrev pub missing_rids : Dataset → Plan → Rids
missing_rids d plan = list_of (order_of d.cvd.versions) (missing d plan)

abbrev pub kept_segments : Numbers → TargetNumbers → List Extent
kept_segments s t = chosen t.kept (segments_at t.source s.parts)

abbrev pub kept_contents : Dataset → Target → List (List Record)
kept_contents d t = map (records_in (order_of d.cvd.versions)) (kept_pieces d t)
