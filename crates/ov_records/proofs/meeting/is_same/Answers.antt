use Rattle.ov_records.proofs.Passes.{same_test}
use Rattle.ov_records.proofs.meeting.is_same.Goals as goal

pub returns : goal.returns
returns c = same_test c.same.result c.args.a.now c.args.b.now (c.same.ensures c.requires.0 c.requires.1 c.requires.2)
