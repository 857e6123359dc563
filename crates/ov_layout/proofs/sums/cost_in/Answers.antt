use Rattle.std.proofs.Common.{◌*◌, length, arith}
use Rattle.std.proofs.lemmas.List.Sums.{sum_by_more_le}
use Rattle.ov_layout.specs.declared.part.Part.{Part}
use Rattle.ov_layout.proofs.SumLemmas.{cost-fits}
use Rattle.ov_layout.proofs.sums.cost_in.Goals as goal

pub overflow_add-cost : goal.overflow_add-cost
overflow_add-cost c =
    let part = c.part-item.result in
    let more = sum_by_more_le (λ (part : Part). length part.versions * part.records) c.args.parts.now c.loop-part.part-index part c.loop-part-test.true in
    let fits = cost-fits c.args.parts.now c.requires.few c.requires.versions in
    let so_far = c.loop-part.invariant in
    rw (c.as_slice.ensures, c.from.ensures, c.part-item.is) (omega (arith, more, fits, so_far))
