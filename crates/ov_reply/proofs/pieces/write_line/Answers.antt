use Rattle.std.proofs.Common.{[], ◌∷◌, append_assoc}
use Rattle.ov_model.specs.Replies.{line}
use Rattle.ov_reply.specs.Pieces.{piece_text, pieces_text}
use Rattle.ov_reply.proofs.Joining.{joins}
use Rattle.ov_reply.proofs.pieces.write_line.Goals as goal

pub returns : goal.returns
unfolding line
returns c =
    rw (c.in_ok-push.ensures.items, c.in_ok-write_pieces.ensures, joins piece_text c.args.pieces.now)
    (append_assoc c.args.out.now.items (pieces_text c.args.pieces.now) (10 ∷ []))
