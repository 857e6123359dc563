use Rattle.std.proofs.Common.{◌≡◌, ◌+◌, ◌-◌, Option, Some, length, drop, get_or, true, false, sym, ◌∙◌, subst, arith}
use Rattle.ov_graph.specs.Trees.{tree_of}
use Rattle.ov_graph.specs.Splits.{lower, may_cut, chosen, chosen_among}
use Rattle.ov_lyre.specs.declared.choice.Candidate.{Candidate}
use Rattle.ov_lyre.specs.Candidates.{IsBest}
use Rattle.ov_lyre.proofs.PartFacts.{part-at, edge-at, has-at, total-ones}
use Rattle.ov_lyre.proofs.ChoiceFacts.{best-skip, best-take, best-all, may-cut-is}
use Rattle.ov_lyre.proofs.choice.choose.Goals as goal

pub node_of-requires-clause-from_one : goal.node_of-requires-clause-from_one
node_of-requires-clause-from_one c = let w = c.loop-at.invariant.1 in (part-at (tree_of c.args.nodes.now) (length c.args.nodes.now) c.args.part.now c.requires.part (c.loop-at.at - 1) (omega arith)).above

pub node_of-requires-clause-is_there : goal.node_of-requires-clause-is_there
node_of-requires-clause-is_there c = let w = c.loop-at.invariant.1 in (part-at (tree_of c.args.nodes.now) (length c.args.nodes.now) c.args.part.now c.requires.part (c.loop-at.at - 1) (omega arith)).within

pub bounds-counts-vid : goal.bounds-counts-vid
bounds-counts-vid c = let w = c.loop-at.invariant.1 in let in_tree = (part-at (tree_of c.args.nodes.now) (length c.args.nodes.now) c.args.part.now c.requires.part (c.loop-at.at - 1) (omega arith)).within in let long = c.requires.counts_long in omega arith

pub bounds-sums-vid : goal.bounds-sums-vid
bounds-sums-vid c = let w = c.loop-at.invariant.1 in let in_tree = (part-at (tree_of c.args.nodes.now) (length c.args.nodes.now) c.args.part.now c.requires.part (c.loop-at.at - 1) (omega arith)).within in let long = c.requires.sums_long in omega arith

pub weigh-candidate-requires-clause-child : goal.weigh-candidate-requires-clause-child
weigh-candidate-requires-clause-child c = let w = c.loop-at.invariant.1 in edge-at c.args.part.now (c.loop-at.at - 1) (omega arith) (omega arith)

pub weigh-candidate-requires-clause-versions_under : goal.weigh-candidate-requires-clause-versions_under
weigh-candidate-requires-clause-versions_under c =
    let w = c.loop-at.invariant.1 in
    let vid = get_or c.args.part.now (c.loop-at.at - 1) 0 in
    c.requires.counts vid (has-at c.args.part.now (c.loop-at.at - 1) (omega arith)) ∙ total-ones (lower (tree_of c.args.nodes.now) vid c.args.part.now)

pub weigh-candidate-requires-clause-fresh_under : goal.weigh-candidate-requires-clause-fresh_under
weigh-candidate-requires-clause-fresh_under c =
    let w = c.loop-at.invariant.1 in
    c.requires.sums (get_or c.args.part.now (c.loop-at.at - 1) 0) (has-at c.args.part.now (c.loop-at.at - 1) (omega arith))

pub loop-at-preserved-then-may_cut : goal.loop-at-preserved-then-may_cut
loop-at-preserved-then-may_cut c =
    let tree = tree_of c.args.nodes.now in
    let part = c.args.part.now in
    let p = c.args.threshold.p in
    let q = c.args.threshold.q in
    let at = c.loop-at.at - 1 in
    let w = c.loop-at.invariant.1 in
    let vid = get_or part at 0 in
    let back : at + 1 ≡ c.loop-at.at = omega arith in
    let best : IsBest tree part c.loop-at.found (chosen_among tree p q part (drop (at + 1) part)) = rw back c.loop-at.invariant.0 in
    let light : may_cut tree p q part vid ≡ true = may-cut-is tree part p q vid c.node_of.result.weight c.args.part_records c.may_cut.result c.node_of.ensures.weight c.requires.records c.may_cut.ensures ∙ c.if-may_cut.true in
    let P : Candidate → Type 0 = λ best_so_far. IsBest tree part (Some best_so_far) (chosen_among tree p q part (drop at part)) in
    (subst P (sym c.better.ensures) (best-take tree part p q at (omega arith) c.weigh-candidate.result c.loop-at.found light c.weigh-candidate.ensures.child c.weigh-candidate.ensures.candidate best), omega arith, omega arith)

pub loop-at-preserved : goal.loop-at-preserved
loop-at-preserved c =
    let tree = tree_of c.args.nodes.now in
    let part = c.args.part.now in
    let p = c.args.threshold.p in
    let q = c.args.threshold.q in
    let at = c.loop-at.at - 1 in
    let w = c.loop-at.invariant.1 in
    let vid = get_or part at 0 in
    let back : at + 1 ≡ c.loop-at.at = omega arith in
    let best : IsBest tree part c.loop-at.found (chosen_among tree p q part (drop (at + 1) part)) = rw back c.loop-at.invariant.0 in
    let heavy : may_cut tree p q part vid ≡ false = may-cut-is tree part p q vid c.node_of.result.weight c.args.part_records c.may_cut.result c.node_of.ensures.weight c.requires.records c.may_cut.ensures ∙ c.if-may_cut.false in
    (best-skip tree part p q at (omega arith) c.loop-at.found heavy best, omega arith, omega arith)

pub returns-in-None : goal.returns-in-None
returns-in-None c =
    let one : c.loop-at.at ≡ 1 = omega arith in
    let best = best-all (tree_of c.args.nodes.now) c.args.part.now c.args.threshold.p c.args.threshold.q c.loop-at.at c.loop-at.found one c.requires.part.some c.loop-at.invariant.0 in
    let P : Option Candidate → Type 0 = λ found. IsBest (tree_of c.args.nodes.now) c.args.part.now found (chosen (tree_of c.args.nodes.now) c.args.threshold.p c.args.threshold.q c.args.part.now) in
    sym (subst P c.in-None.is best)

pub returns-in-Some : goal.returns-in-Some
returns-in-Some c =
    let one : c.loop-at.at ≡ 1 = omega arith in
    let best = best-all (tree_of c.args.nodes.now) c.args.part.now c.args.threshold.p c.args.threshold.q c.loop-at.at c.loop-at.found one c.requires.part.some c.loop-at.invariant.0 in
    let P : Option Candidate → Type 0 = λ found. IsBest (tree_of c.args.nodes.now) c.args.part.now found (chosen (tree_of c.args.nodes.now) c.args.threshold.p c.args.threshold.q c.args.part.now) in
    sym ((subst P c.in-Some.is best).0)
