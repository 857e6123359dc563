use Rattle.ov_reply.proofs.listed.write_version.Goals as goal

pub returns : goal.returns
returns c = rw (← c.as_slice.ensures, ← c.parents_piece.ensures, ← c.as_bytes.ensures.bytes) c.write_line.ensures
