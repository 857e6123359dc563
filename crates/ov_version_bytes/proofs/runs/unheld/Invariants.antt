use Rattle.std.proofs.Common.{◌≡◌, ◌≤◌, ◌<◌, ℕ, length, take, get_or}
use Rattle.ov_member.specs.Edges.{status}
use Rattle.ov_member.specs.Rids.{has}
use Rattle.ov_version_bytes.specs.Positions.{left_of}
use Rattle.ov_version_bytes.proofs.Ordering.{none}
use Rattle.ov_version_bytes.proofs.runs.unheld.Given as goal

-- the walk says of the rids that come, and of those above them, whether they are held
abbrev pub invariant-loop-one : goal.invariant-loop-one
invariant-loop-one l = record {
  so_far : l.left.items ≡ left_of l.held (take l.one-index l.records);
  says : (k n : ℕ) → l.one-index ≤ k → k < length l.records → (get_or l.records k none).rid ≤ n → status l.ahead.inside l.ahead.edges n ≡ has l.held n;
}
