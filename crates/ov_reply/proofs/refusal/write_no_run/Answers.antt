use Rattle.std.proofs.Common.{codes, decimal}
use Rattle.ov_model.specs.Replies.{so_far}
use Rattle.ov_reply.proofs.Joining.{three_and}
use Rattle.ov_reply.proofs.refusal.write_no_run.Goals as goal

pub returns : goal.returns
returns c =
    rw (c.in_ok-write_so_far.ensures, c.in_ok-write_pieces.ensures)
    (three_and c.args.out.now.items (codes "no free run of ") (decimal c.args.pages) (codes " pages") (so_far c.args.steps.now))
