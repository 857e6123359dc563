use Rattle.std.proofs.Common.{◌≡◌, drop}
use Rattle.ov_model.specs.Joins.{on_counts}
use Rattle.ov_join.proofs.typing.on_counts.Given as goal

-- the comparisons that are left count on from here
abbrev pub invariant-loop-names : goal.invariant-loop-names
invariant-loop-names l = on_counts l.place l.next (drop l.names-index l.on) ≡ on_counts l.place 1 l.on
