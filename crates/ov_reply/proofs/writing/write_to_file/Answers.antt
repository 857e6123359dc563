use Rattle.ov_reply.proofs.writing.write_to_file.Goals as goal

pub returns : goal.returns
returns c = rw (← c.as_bytes.ensures.bytes, ← c.as_bytes-2.ensures.bytes) c.write_line.ensures
