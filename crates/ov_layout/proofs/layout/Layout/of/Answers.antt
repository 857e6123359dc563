use Rattle.std.proofs.Common.{arith}
use Rattle.ov_layout.proofs.SumLemmas.{entries-few, parts-few}
use Rattle.ov_layout.proofs.layout.Layout.of.Goals as goal

pub stored_in-stored-requires : goal.stored_in-stored-requires
stored_in-stored-requires c =
    let parts = c.args.parts.items in
    let is = rw c.deref.ensures.value at c.in_ok-index.ensures in
    let few = entries-few 0 c.in_ok-index.index.items is.entries in
    let count = is.count in
    let less = parts-few 1 c.args.next parts c.requires.sound in
    rw c.deref-2.ensures.value (omega (arith, few, count, less))

pub cost_in-cost-requires-clause-versions : goal.cost_in-cost-requires-clause-versions
cost_in-cost-requires-clause-versions c =
    let is = rw c.deref.ensures.value at c.in_ok-index.ensures in
    let few = entries-few 0 c.in_ok-index.index.items is.entries in
    let count = is.count in
    rw c.deref-3.ensures.value (omega (arith, few, count))
