use Rattle.ov_journal.proofs.Records.{same_journal}
use Rattle.ov_journal.proofs.laws.a_journal_ends_at_its_first_closed_gate.Goals as goal

pub returns : goal.returns
returns c = same_journal
