use Rattle.std.proofs.Common.{arith}
use Rattle.ov_value.proofs.Ascii.{last_eight}
use Rattle.ov_value.proofs.utf8.are_last_low.Goals as goal

pub returns : goal.returns
returns c = λ t. last_eight c.args.bytes.now _ (omega arith) (c.are_low.ensures t)
