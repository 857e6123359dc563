use Rattle.ov_journal.proofs.Unique.{one_thing}
use Rattle.ov_journal.proofs.laws.bytes_are_one_thing.Goals as goal

pub returns : goal.returns
returns c = one_thing
