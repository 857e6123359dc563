use Rattle.std.proofs.Common.{◌≡◌, ◌+◌, ◌*◌, ◌≤◌, length, drop}
use Rattle.ov_member.specs.Rids.{shared, left_out}
use Rattle.ov_model.specs.Lists.{joined}
use Rattle.ov_match.proofs.costs.cost_of.Given as goal

-- what is shared with the segments ahead is still counted among the rids that have to come
abbrev pub invariant-loop-segment : goal.invariant-loop-segment
invariant-loop-segment l = record {
  coming : l.coming ≡ length (left_out l.target (joined l.segments)) + length (shared (joined (drop l.segment-index l.segments)) l.target);
  going : l.going + length (left_out (joined (drop l.segment-index l.segments)) l.target) ≡ length (left_out (joined l.segments) l.target);
  few : l.coming ≤ 2147483648;
  most : l.going ≤ l.segment-index * 2147483648;
}
