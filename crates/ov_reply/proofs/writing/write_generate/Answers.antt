use Rattle.ov_reply.proofs.writing.write_generate.Goals as goal

pub returns : goal.returns
returns c = rw (← c.as_bytes.ensures.bytes) c.write_line.ensures
