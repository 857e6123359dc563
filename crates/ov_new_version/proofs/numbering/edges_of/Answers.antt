use Rattle.std.proofs.Common.{arith}
use Rattle.std.specs.List.{zip}
use Rattle.ov_version_bytes.proofs.Edges.{pairs_done}
use Rattle.ov_new_version.proofs.numbering.edges_of.Goals as goal

pub returns : goal.returns
returns c =
    pairs_done c.loop-at.edges.items (zip c.args.vids.now c.args.weights.now) c.args.vids.now c.args.weights.now c.loop-at.at
    (omega (arith, c.loop-at-test.false, c.min-count.ensures)) c.loop-at.invariant
