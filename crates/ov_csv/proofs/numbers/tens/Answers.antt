use Rattle.ov_csv.proofs.NumberDigits.{pair_at}
use Rattle.ov_csv.proofs.numbers.tens.Goals as goal

pub returns : goal.returns
returns c = (pair_at c.args.pair c.requires).tens
