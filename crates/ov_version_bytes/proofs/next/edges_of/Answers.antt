use Rattle.std.proofs.Common.{◌∙◌, arith}
use Rattle.std.specs.List.{zip}
use Rattle.ov_version_bytes.proofs.Edges.{all_low, pairs_done}
use Rattle.ov_version_bytes.proofs.next.edges_of.Goals as goal

pub returns-clause-edges : goal.returns-clause-edges
returns-clause-edges c =
    c.new.ensures
    ∙ pairs_done c.loop-at.edges.items (zip c.args.parents.now c.args.weights.now) c.args.parents.now c.args.weights.now c.loop-at.at
    (omega (arith, c.loop-at-test.false, c.min-count.ensures)) c.loop-at.invariant

pub returns-clause-vids : goal.returns-clause-vids
returns-clause-vids c = all_low c.args.parents.now (λ i. let fits = c.type_inv.parents i in omega (arith, fits))

pub returns-clause-weights : goal.returns-clause-weights
returns-clause-weights c = all_low c.args.weights.now (λ i. let fits = c.type_inv.weights i in omega (arith, fits))
