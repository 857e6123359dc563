use Rattle.std.proofs.Common.{codes, append_assoc}
use Rattle.ov_model.specs.Replies.{so_far}
use Rattle.ov_reply.proofs.refusal.write_journal_full.Goals as goal

pub returns : goal.returns
returns c =
    rw (c.in_ok-write_so_far.ensures, c.in_ok-extend_from_slice.ensures.items)
    (append_assoc c.args.out.now.items (codes "the journal is full") (so_far c.args.steps.now))
