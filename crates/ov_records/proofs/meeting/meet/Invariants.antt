use Rattle.ov_records.proofs.Passes.{Looked}
use Rattle.ov_records.proofs.meeting.meet.Given as goal

abbrev pub invariant-loop-place : goal.invariant-loop-place
invariant-loop-place l = Looked l.schema l.parent l.row l.found l.place
