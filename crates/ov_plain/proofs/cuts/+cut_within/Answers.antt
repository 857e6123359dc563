use Rattle.std.proofs.Common.{sym, ◌∙◌, arith}
use Rattle.std.proofs.lemmas.List.{append-nil}
use Rattle.ov_graph.specs.Trees.{tree_of}
use Rattle.ov_lyre.specs.Parts.{lists_of}
use Rattle.ov_plain.proofs.Cutting.{within-zero, within-whole, parts-after, cuts-after, depth-after}
use Rattle.ov_plain.proofs.cuts.+cut_within.Goals as goal

pub returns-then-levels-eq0-clause-parts : goal.returns-then-levels-eq0-clause-parts
returns-then-levels-eq0-clause-parts t c = rw (within-zero (tree_of c.args.nodes.now) c.args.threshold.p c.args.threshold.q c.args.part.now c.args.levels c.if-levels-eq0.true) c.add_part.ensures.parts

pub returns-then-levels-eq0-clause-cuts : goal.returns-then-levels-eq0-clause-cuts
returns-then-levels-eq0-clause-cuts t c = rw (within-zero (tree_of c.args.nodes.now) c.args.threshold.p c.args.threshold.q c.args.part.now c.args.levels c.if-levels-eq0.true, append-nil c.args.found.now.cuts.items) c.add_part.ensures.cuts

pub returns-then-levels-eq0-clause-depth : goal.returns-then-levels-eq0-clause-depth
returns-then-levels-eq0-clause-depth t c = rw (within-zero (tree_of c.args.nodes.now) c.args.threshold.p c.args.threshold.q c.args.part.now c.args.levels c.if-levels-eq0.true) c.add_part.ensures.depth

pub returns-in-None-clause-parts : goal.returns-in-None-clause-parts
returns-in-None-clause-parts t c = rw (within-whole (tree_of c.args.nodes.now) c.args.threshold.p c.args.threshold.q c.args.part.now c.args.levels (sym c.in_ok-next_cut.ensures ∙ c.in-None.is)) c.add_part-in-None.ensures.parts

pub returns-in-None-clause-cuts : goal.returns-in-None-clause-cuts
returns-in-None-clause-cuts t c = rw (within-whole (tree_of c.args.nodes.now) c.args.threshold.p c.args.threshold.q c.args.part.now c.args.levels (sym c.in_ok-next_cut.ensures ∙ c.in-None.is), append-nil c.args.found.now.cuts.items) c.add_part-in-None.ensures.cuts

pub returns-in-None-clause-depth : goal.returns-in-None-clause-depth
returns-in-None-clause-depth t c = rw (within-whole (tree_of c.args.nodes.now) c.args.threshold.p c.args.threshold.q c.args.part.now c.args.levels (sym c.in_ok-next_cut.ensures ∙ c.in-None.is)) c.add_part-in-None.ensures.depth

pub returns-in_ok-deep_below-in-Some-clause-parts : goal.returns-in_ok-deep_below-in-Some-clause-parts
returns-in_ok-deep_below-in-Some-clause-parts t c =
    let no = c.if-levels-eq0.false in
    parts-after (tree_of c.args.nodes.now) c.args.threshold.p c.args.threshold.q c.args.part.now c.args.levels c.in-Some.vid (omega arith) (sym c.in_ok-next_cut.ensures ∙ c.in-Some.is) c.deref.result.now c.deref-in-Some.result.now
    (c.deref.ensures.value ∙ c.in_ok-above-in-Some.ensures.is) (c.deref-in-Some.ensures.value ∙ c.in_ok-below-in-Some.ensures.is)
    (lists_of c.args.found.now.parts.items) (lists_of c.cut_within.new.found.parts.items) (lists_of c.cut_within-in-Some.new.found.parts.items) c.in_ok-deep-in-Some.ensures.parts c.in_ok-deep_below-in-Some.ensures.parts

pub returns-in_ok-deep_below-in-Some-clause-cuts : goal.returns-in_ok-deep_below-in-Some-clause-cuts
returns-in_ok-deep_below-in-Some-clause-cuts t c =
    let no = c.if-levels-eq0.false in
    cuts-after (tree_of c.args.nodes.now) c.args.threshold.p c.args.threshold.q c.args.part.now c.args.levels c.in-Some.vid (omega arith) (sym c.in_ok-next_cut.ensures ∙ c.in-Some.is) c.deref.result.now c.deref-in-Some.result.now
    (c.deref.ensures.value ∙ c.in_ok-above-in-Some.ensures.is) (c.deref-in-Some.ensures.value ∙ c.in_ok-below-in-Some.ensures.is)
    c.args.found.now.cuts.items c.cut_within.new.found.cuts.items c.cut_within-in-Some.new.found.cuts.items (rw c.in_ok-push-in-Some.ensures.items at c.in_ok-deep-in-Some.ensures.cuts) c.in_ok-deep_below-in-Some.ensures.cuts

pub returns-in_ok-deep_below-in-Some-clause-depth : goal.returns-in_ok-deep_below-in-Some-clause-depth
returns-in_ok-deep_below-in-Some-clause-depth t c =
    let no = c.if-levels-eq0.false in
    depth-after (tree_of c.args.nodes.now) c.args.threshold.p c.args.threshold.q c.args.part.now c.args.levels c.in-Some.vid (omega arith) (sym c.in_ok-next_cut.ensures ∙ c.in-Some.is) c.deref.result.now c.deref-in-Some.result.now
    (c.deref.ensures.value ∙ c.in_ok-above-in-Some.ensures.is) (c.deref-in-Some.ensures.value ∙ c.in_ok-below-in-Some.ensures.is)
    c.in_ok-deep-in-Some.deep c.in_ok-deep_below-in-Some.deep_below c.max.result c.in_ok-deep-in-Some.ensures.depth c.in_ok-deep_below-in-Some.ensures.depth c.max.ensures
