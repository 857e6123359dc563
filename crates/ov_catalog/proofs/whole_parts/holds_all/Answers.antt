use Rattle.std.proofs.Common.{sym, ◌∙◌, arith}
use Rattle.std.specs.Prelude.{nat_le}
use Rattle.std.specs.List.{list_all}
use Rattle.std.proofs.lemmas.Bool.{and_parts}
use Rattle.ov_layout.proofs.VidLemmas.{Ascend-weaker}
use Rattle.ov_catalog.specs.Planning.{ascend_from}
use Rattle.ov_catalog.proofs.TargetLemmas.{ascend-in}
use Rattle.ov_catalog.proofs.whole_parts.holds_all.Goals as goal

pub are_held-requires : goal.are_held-requires
are_held-requires c =
    let holds = c.args.holds.now in
    let there = and_parts (ascend_from 1 holds) (list_all (λ vid. nat_le vid c.args.count) holds) (sym c.are_there.ensures ∙ c.if-are_there.true) in
    Ascend-weaker 0 1 holds (omega arith) (ascend-in 1 holds there.0)
