use Rattle.std.proofs.Common.{◌≡◌, true, false, rules}
use Rattle.ov_value.specs.Rows.{is_null}
use Rattle.ov_value.proofs.KeptLemmas.{length-kept_null, length-kept_value}
use Rattle.ov_value.proofs.kept.kept_len.Goals as goal
use Rattle.ov_value.proofs.kept.kept_len.Goals.{then-not-is_null, else-not-is_null}

-- another value is kept with all before it, a NULL is not yet
pub loop-i-preserved : goal.loop-i-preserved
loop-i-preserved c = elim c.if-not-is_null.branch [
  | then-not-is_null w ↦
      let value : is_null c.index-values-i.result ≡ false = grind rules in
      rw w.len-is (length-kept_value c.args.values.now c.loop-i.i c.index-values-i.result c.loop-i-test.true c.index-values-i.is value)
  | else-not-is_null w ↦
      let null : is_null c.index-values-i.result ≡ true = grind rules in
      rw (w.len-is, c.loop-i.invariant) (length-kept_null c.args.values.now c.loop-i.i c.index-values-i.result c.loop-i-test.true c.index-values-i.is null)
]
