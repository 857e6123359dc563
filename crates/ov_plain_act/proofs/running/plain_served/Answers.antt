-- The deed's moves and its reply, and then the steps.
use Rattle.ov_plain_act.proofs.Serving.{served_made}
use Rattle.ov_plain_act.proofs.running.plain_served.Goals as goal
use Rattle.ov_plain_act.specs.Acts.{session_of}

pub returns-in_ok-all-in-Some-clause-is : goal.returns-in_ok-all-in-Some-clause-is
returns-in_ok-all-in-Some-clause-is c =
    served_made c.args.steps c.args.world (session_of c.args.session.now) c.args.command.now c.in-Some.deed c.in_ok-run-in-Some.run' c.in_ok-all-in-Some.all
    (rw c.in-Some.is at c.in_ok-plain_deed.ensures.is)
    c.in_ok-run-in-Some.ensures
    c.in_ok-all-in-Some.ensures
