use Rattle.std.specs.BTreeSet.{btree_set_len}
use Rattle.ov_lyre.specs.Peeling.{IsPeeling}
use Rattle.ov_lyre.proofs.peeling.peel.Given as goal

abbrev pub invariant-loop-peeling : goal.invariant-loop-peeling
invariant-loop-peeling l = IsPeeling l.summed l.threshold.p l.threshold.q l.peeling

abbrev pub decreases-loop-peeling : goal.decreases-loop-peeling
decreases-loop-peeling l = btree_set_len l.peeling.keys
