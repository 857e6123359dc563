use Rattle.ov_reply.proofs.refusal.write_text.Goals as goal

pub returns-in-FormatOne : goal.returns-in-FormatOne
returns-in-FormatOne c = rw c.in-FormatOne.is c.around-in-FormatOne.ensures

pub returns-in-NotText : goal.returns-in-NotText
returns-in-NotText c = rw c.in-NotText.is c.around-in-NotText.ensures

pub returns-in-LongRow : goal.returns-in-LongRow
returns-in-LongRow c = rw c.in-LongRow.is c.around-in-LongRow.ensures

pub returns-in-NullKey : goal.returns-in-NullKey
returns-in-NullKey c = rw (c.in-NullKey.is, ← c.as_bytes-in-NullKey.ensures.bytes) c.write_pieces-in-NullKey.ensures
