-- One value more, or NULL.
use Rattle.std.proofs.Common.{rules}
use Rattle.ov_terms.specs.Seeing.{cell_of}
use Rattle.ov_terms.proofs.Values.{count-none, count-there, length-more, sum-more}
use Rattle.ov_terms.proofs.table.Table.sum.Goals.{then-not-is_null, else-not-is_null}
use Rattle.ov_terms.proofs.table.Table.sum.Goals as goal

pub loop-spot-preserved : goal.loop-spot-preserved
loop-spot-preserved c =
    let records = c.args.self.now in
    let found = c.args.found in
    let group = c.args.group.now in
    let i = c.loop-spot.spot-index in
    let more = length-more records found group i _ (cell_of c.value_at-value.result) c.is_null.result c.loop-spot-test.true c.value_at-value.ensures c.is_null.ensures in (
      sum-more records found group i _ _ _ _ (cell_of c.value_at-value.result) c.loop-spot-test.true c.value_at-value.ensures (search rules) c.loop-spot.invariant.0,
      search rules,
      search rules,
      search rules,
      elim c.if-not-is_null.branch [
        | then-not-is_null w ↦ count-there c.is_null.result _ c.loop-spot.count _ _ _ w.if-not-is_null.true w.count-is more c.loop-spot.invariant.4
        | else-not-is_null w ↦ count-none c.is_null.result _ c.loop-spot.count _ _ _ w.if-not-is_null.false w.count-is more c.loop-spot.invariant.4
      ],
    )
