use Rattle.std.proofs.Common.{arith}
use Rattle.ov_value.proofs.KeptLemmas.{length-kept}
use Rattle.ov_value.proofs.marked.are_marks.Goals as goal

pub marks_of-requires : goal.marks_of-requires
marks_of-requires c = rw c.kept-kept.ensures (omega (arith, length-kept c.args.values.now))
