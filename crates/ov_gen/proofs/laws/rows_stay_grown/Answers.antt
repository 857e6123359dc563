use Rattle.std.proofs.Common.{◌+◌, arith}
use Rattle.ov_gen.proofs.Growing.{begin-raise}
use Rattle.ov_gen.proofs.laws.rows_stay_grown.Goals as goal

pub returns : goal.returns
returns c = λ count vid later rows le are. begin-raise count 1 (count + vid) (count + later) rows (omega arith) are
