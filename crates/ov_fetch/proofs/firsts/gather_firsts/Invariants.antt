use Rattle.std.proofs.Common.{◌≡◌, vec_len}
use Rattle.ov_fetch.proofs.Needed.{HasFirst}
use Rattle.ov_fetch.proofs.firsts.gather_firsts.Given as goal

abbrev pub invariant-loop-segment : goal.invariant-loop-segment
invariant-loop-segment g l = record {
  first : HasFirst l.schema (g.H.Host.state l.fn.host) (g.H.Host.state l.host) l.segments l.segment-index l.wanted l.kept.records l.left;
  room : vec_len l.piece ≡ 61440;
  columns : l.kept.columns ≡ l.schema.columns;
}
