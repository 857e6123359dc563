use Rattle.std.proofs.Common.{◌+◌, arith}
use Rattle.ov_gen.proofs.Growing.{begin-few, begin-whole}
use Rattle.ov_gen.proofs.laws.grown_rows_are_few_and_whole.Goals as goal

pub returns-clause-few : goal.returns-clause-few
returns-clause-few c = λ count vid rows some are. let h = begin-few count 1 (count + vid) rows (omega arith) are in omega (arith, h)

pub returns-clause-whole : goal.returns-clause-whole
returns-clause-whole c = λ count vid rows are. begin-whole count 1 (count + vid) 1 rows are
