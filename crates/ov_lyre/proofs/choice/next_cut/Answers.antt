use Rattle.std.proofs.Common.{refl, ◌≡◌, length, true, false, ◌∙◌, arith}
use Rattle.std.specs.List.{slice_index}
use Rattle.ov_graph.specs.Trees.{tree_of, fresh}
use Rattle.ov_graph.specs.Splits.{stops}
use Rattle.ov_lyre.proofs.PartFacts.{part-long, total-same, total-ones}
use Rattle.ov_lyre.proofs.NodeFacts.{sound-tree}
use Rattle.ov_lyre.proofs.ChoiceFacts.{stops-is, fresh-le, stands-total, if-some}
use Rattle.ov_lyre.proofs.choice.next_cut.Goals as goal

pub stops-requires-clause-versions : goal.stops-requires-clause-versions
stops-requires-clause-versions c = let long = part-long (tree_of c.args.nodes.now) (length c.args.nodes.now) c.args.part.now c.requires.part in let few = c.requires.sound.few in omega arith

pub returns-then-stops-clause-next : goal.returns-then-stops-clause-next
returns-then-stops-clause-next c =
    let stop : stops (tree_of c.args.nodes.now) c.args.threshold.p c.args.threshold.q c.args.part.now ≡ true =
    stops-is (tree_of c.args.nodes.now) c.args.part.now c.args.threshold.p c.args.threshold.q c.add_totals-totals.result.records c.add_totals-totals.result.members c.stops.result c.add_totals-totals.ensures.records c.add_totals-totals.ensures.members c.stops.ensures ∙ c.if-stops.true in
    rw stop refl

pub add_up-requires-clause-small : goal.add_up-requires-clause-small
add_up-requires-clause-small c =
    let long = part-long (tree_of c.args.nodes.now) (length c.args.nodes.now) c.args.part.now c.requires.part in
    let few = c.requires.sound.few in
    let same = total-same (slice_index c.fill.new.counts) (λ _. 1) c.args.part.now c.fill.ensures.counts in
    let ones = total-ones c.args.part.now in
    omega arith

pub add_up-requires-2-clause-small : goal.add_up-requires-2-clause-small
add_up-requires-2-clause-small c =
    let tree = tree_of c.args.nodes.now in
    let same = total-same (slice_index c.fill.new.sums) (fresh tree) c.args.part.now c.fill.ensures.sums in
    let le = fresh-le tree (sound-tree c.args.nodes.now c.requires.sound) c.args.part.now in
    let is = c.add_totals-totals.ensures.records in
    let few = c.add_totals-totals.ensures.few_records in
    omega arith

pub choose-requires-clause-counts : goal.choose-requires-clause-counts
choose-requires-clause-counts c vid has = c.add_up.ensures vid has ∙ stands-total (tree_of c.args.nodes.now) (λ _. 1) c.args.part.now c.fill.new.counts vid c.fill.ensures.counts

pub choose-requires-clause-sums : goal.choose-requires-clause-sums
choose-requires-clause-sums c vid has = c.add_up-2.ensures vid has ∙ stands-total (tree_of c.args.nodes.now) (fresh (tree_of c.args.nodes.now)) c.args.part.now c.fill.new.sums vid c.fill.ensures.sums

pub returns-clause-next : goal.returns-clause-next
returns-clause-next c =
    let goes_on : stops (tree_of c.args.nodes.now) c.args.threshold.p c.args.threshold.q c.args.part.now ≡ false =
    stops-is (tree_of c.args.nodes.now) c.args.part.now c.args.threshold.p c.args.threshold.q c.add_totals-totals.result.records c.add_totals-totals.result.members c.stops.result c.add_totals-totals.ensures.records c.add_totals-totals.ensures.members c.stops.ensures ∙ c.if-stops.false in
    c.choose.ensures ∙ rw goes_on refl

pub returns-clause-counts : goal.returns-clause-counts
returns-clause-counts c = if-some c.choose.result (λ vid has. c.add_up.ensures vid has ∙ stands-total (tree_of c.args.nodes.now) (λ _. 1) c.args.part.now c.fill.new.counts vid c.fill.ensures.counts)

pub returns-clause-sums : goal.returns-clause-sums
returns-clause-sums c = if-some c.choose.result (λ vid has. c.add_up-2.ensures vid has ∙ stands-total (tree_of c.args.nodes.now) (fresh (tree_of c.args.nodes.now)) c.args.part.now c.fill.new.sums vid c.fill.ensures.sums)
