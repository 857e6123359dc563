use Rattle.std.proofs.Common.{sym, arith, length-take}
use Rattle.ov_value.proofs.KeptLemmas.{kept-take, length-kept}
use Rattle.ov_value.proofs.kept.kept.Goals as goal

pub slice_bounds-result-end : goal.slice_bounds-result-end
slice_bounds-result-end c = omega (arith, length-take c.kept_len.result c.args.values.now, length-kept c.args.values.now)

pub returns : goal.returns
returns c = rw c.kept_len.ensures (sym (kept-take c.args.values.now))
