use Rattle.ov_reply.proofs.listed.write_part.Goals as goal

pub returns : goal.returns
returns c = rw (← c.as_slice.ensures) c.write_line.ensures
