use Rattle.std.proofs.Common.{codes, decimal}
use Rattle.ov_model.specs.Replies.{refusal_number, refusal_text}
use Rattle.ov_reply.proofs.Joining.{three_and_line}
use Rattle.ov_reply.proofs.writing.write_refused.Goals as goal

pub returns : goal.returns
returns c =
    rw (c.in_ok-write_line.ensures, c.in_ok-write_text.ensures, c.in_ok-write_pieces.ensures, c.number_of.ensures)
    (three_and_line c.args.out.now.items (codes "error ") (decimal (refusal_number c.args.refusal.now)) (codes ": ") (refusal_text c.args.refusal.now))
