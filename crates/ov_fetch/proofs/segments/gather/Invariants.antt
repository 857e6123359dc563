use Rattle.std.proofs.Common.{◌≡◌, vec_len, take}
use Rattle.ov_fetch.proofs.Gathered.{HasGathered}
use Rattle.ov_fetch.proofs.segments.gather.Given as goal

abbrev pub invariant-loop-segment : goal.invariant-loop-segment
invariant-loop-segment g l = record {
  gathered : HasGathered l.schema (g.H.Host.state l.fn.host) (g.H.Host.state l.host) (take l.segment-index l.segments) l.wanted l.kept.records l.rids.items;
  room : vec_len l.piece ≡ 61440;
  columns : l.kept.columns ≡ l.schema.columns;
}
