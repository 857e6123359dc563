use Rattle.std.proofs.Common.{ℕ, length, ◌∙◌, arith}
use Rattle.std.specs.Prelude.{Vec}
use Rattle.std.specs.declared.alloc.Global.{Global}
use Rattle.std.proofs.lemmas.List.{length-map}
use Rattle.std.proofs.lemmas.Result.{IfOk-weaker}
use Rattle.ov_graph.specs.Trees.{tree_of}
use Rattle.ov_lyre.specs.Parts.{lists_of}
use Rattle.ov_lyre.specs.Sums.{Stands}
use Rattle.ov_lyre.specs.Sides.{cut_over}
use Rattle.ov_lyre.proofs.PartFacts.{lies, part-long}
use Rattle.ov_lyre.proofs.NodeFacts.{sound-tree}
use Rattle.ov_lyre.proofs.SidesFacts.{cuts-few, cut-has, over-few, left-is, lowers-are, ok-both}
use Rattle.ov_lyre.proofs.sides.sides_of.Goals as goal

pub clear-requires : goal.clear-requires
clear-requires c vid has =
    let within = (lies 0 (length c.args.nodes.now) c.args.part.now vid c.requires.part.ascends has).within in
    let long = c.requires.numbers in
    omega arith

pub number-requires-clause-few : goal.number-requires-clause-few
number-requires-clause-few c =
    let few = cuts-few (tree_of c.args.nodes.now) (sound-tree c.args.nodes.now c.requires.sound) (length c.args.nodes.now) c.args.part.now c.args.cuts.now c.requires.part c.requires.cuts in
    let long = part-long (tree_of c.args.nodes.now) (length c.args.nodes.now) c.args.part.now c.requires.part in
    let most = c.requires.sound.few in
    omega arith

pub number-requires-clause-inside : goal.number-requires-clause-inside
number-requires-clause-inside c vid has =
    let within = (lies 0 (length c.args.nodes.now) c.args.part.now vid c.requires.part.ascends (cut-has (tree_of c.args.nodes.now) c.args.part.now c.args.cuts.now vid c.requires.cuts has)).within in
    let long = c.requires.numbers in
    let same = c.clear.auto.numbers in
    omega arith

pub apart-requires-clause-there : goal.apart-requires-clause-there
apart-requires-clause-there c vid has =
    let within = (lies 0 (length c.args.nodes.now) c.args.part.now vid c.requires.part.ascends has).within in
    let long = c.requires.numbers in
    let a = c.clear.auto.numbers in
    let b = c.number.auto.numbers in
    let d = c.inherit.auto.numbers in
    omega arith

pub apart-requires-clause-within : goal.apart-requires-clause-within
apart-requires-clause-within c vid has =
    let tree = tree_of c.args.nodes.now in
    let stands : Stands (cut_over tree c.args.cuts.now) c.args.part.now c.inherit.new.numbers = c.inherit.ensures c.args.cuts.now c.requires.cuts c.number.ensures in
    let here = stands vid has in
    let few = over-few tree c.args.cuts.now vid in
    omega arith

pub returns-clause-above : goal.returns-clause-above
returns-clause-above c =
    let tree = tree_of c.args.nodes.now in
    let stands : Stands (cut_over tree c.args.cuts.now) c.args.part.now c.inherit.new.numbers = c.inherit.ensures c.args.cuts.now c.requires.cuts c.number.ensures in
    IfOk-weaker c.apart.result _ _ (λ sides is. is ∙ left-is tree c.args.part.now c.args.cuts.now c.inherit.new.numbers stands) c.apart.ensures.above

pub returns-clause-below : goal.returns-clause-below
returns-clause-below c =
    let tree = tree_of c.args.nodes.now in
    let stands : Stands (cut_over tree c.args.cuts.now) c.args.part.now c.inherit.new.numbers = c.inherit.ensures c.args.cuts.now c.requires.cuts c.number.ensures in
    IfOk-weaker c.apart.result _ _ (λ sides both. lowers-are tree c.args.part.now c.args.cuts.now c.inherit.new.numbers stands (lists_of sides.below.items) (length-map sides.below.items (λ (v : Vec ℕ Global). v.items) ∙ both.0) both.1) (ok-both c.apart.result _ _ c.apart.ensures.long c.apart.ensures.below)
