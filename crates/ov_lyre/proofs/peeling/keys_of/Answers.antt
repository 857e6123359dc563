use Rattle.std.proofs.Common.{◌≡◌, true, get_or, length, refl, sym, ◌∙◌, inl, arith}
use Rattle.ov_graph.specs.Trees.{tree_of}
use Rattle.ov_graph.specs.Splits.{may_cut}
use Rattle.ov_lyre.proofs.PartFacts.{part-at, edge-at}
use Rattle.ov_lyre.proofs.ChoiceFacts.{may-cut-is}
use Rattle.ov_lyre.proofs.KeysFacts.{keys-skip, keys-more, keys-all}
use Rattle.ov_lyre.proofs.peeling.keys_of.Goals.{then-may_cut+in-Some+in_ok-insert, then-may_cut+in_default, else-may_cut}
use Rattle.ov_lyre.proofs.peeling.keys_of.Goals as goal

pub node_of-weight-requires-clause-from_one : goal.node_of-weight-requires-clause-from_one
node_of-weight-requires-clause-from_one c = (part-at (tree_of c.args.summed.now.nodes.now) (length c.args.summed.now.nodes.now) c.args.summed.now.part.now c.requires.summed.is c.loop-at.at c.loop-at-test.true).above

pub node_of-weight-requires-clause-is_there : goal.node_of-weight-requires-clause-is_there
node_of-weight-requires-clause-is_there c = (part-at (tree_of c.args.summed.now.nodes.now) (length c.args.summed.now.nodes.now) c.args.summed.now.part.now c.requires.summed.is c.loop-at.at c.loop-at-test.true).within

pub key_of-requires-clause-child : goal.key_of-requires-clause-child
key_of-requires-clause-child c = let from = c.loop-at.invariant.1 in edge-at c.args.summed.now.part.now c.loop-at.at (omega arith) c.loop-at-test.true

pub key_of-requires-clause-few : goal.key_of-requires-clause-few
key_of-requires-clause-few c =
    let tree = tree_of c.args.summed.now.nodes.now in
    let part = c.args.summed.now.part.now in
    let vid = get_or part c.loop-at.at 0 in
    let from = c.loop-at.invariant.1 in
    let may : may_cut tree c.args.threshold.p c.args.threshold.q part vid ≡ true =
    may-cut-is tree part c.args.threshold.p c.args.threshold.q vid c.node_of-weight.result.weight c.args.summed.now.totals.records c.may_cut.result c.node_of-weight.ensures.weight c.requires.summed.records_is c.may_cut.ensures ∙ c.if-may_cut.true in
    c.requires.few vid (edge-at part c.loop-at.at (omega arith) c.loop-at-test.true) may

pub loop-at-preserved : goal.loop-at-preserved
loop-at-preserved c =
    let tree = tree_of c.args.summed.now.nodes.now in
    let part = c.args.summed.now.part.now in
    let p = c.args.threshold.p in
    let q = c.args.threshold.q in
    let few = c.args.few in
    let at = c.loop-at.at in
    let vid = get_or part at 0 in
    let from = c.loop-at.invariant.1 in
    let is = may-cut-is tree part p q vid c.node_of-weight.result.weight c.args.summed.now.totals.records c.may_cut.result c.node_of-weight.ensures.weight c.requires.summed.records_is c.may_cut.ensures in
    elim c.if-may_cut.branch [
      | then-may_cut+in-Some+in_ok-insert w ↦
          rw w.keys-is (keys-more tree p q few part c.loop-at.keys w.insert.new.self w.in-Some.key w.in_ok-insert.ensures.updates w.in-Some.ensures.keyed at c.loop-at.invariant.0 w.in-Some.ensures.vid, omega arith)
      | then-may_cut+in_default w ↦
          rw w.keys-is (keys-skip tree p q few part at c.loop-at.keys c.loop-at.invariant.0 (λ may. inl (w.in_default.ensures.none refl)), omega arith)
      | else-may_cut w ↦
          rw w.keys-is (keys-skip tree p q few part at c.loop-at.keys c.loop-at.invariant.0 (λ may. (let h = sym may ∙ is ∙ w.if-may_cut.false in cc)), omega arith)
    ]

pub returns : goal.returns
returns c =
    let past = c.loop-at-test.false in
    keys-all (tree_of c.args.summed.now.nodes.now) c.args.threshold.p c.args.threshold.q c.args.few c.args.summed.now.part.now c.loop-at.at c.loop-at.keys past c.loop-at.invariant.0
