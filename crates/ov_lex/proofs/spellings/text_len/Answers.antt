use Rattle.std.proofs.Common.{sym, arith}
use Rattle.ov_lex.proofs.Scans.{text_is, text_is_none, one_more_closed}
use Rattle.ov_lex.proofs.spellings.text_len.Goals as goal

pub returns-in_err-closing_len-in-len1-up : goal.returns-in_err-closing_len-in-len1-up
returns-in_err-closing_len-in-len1-up c = rw c.from_residual.ensures (text_is_none c.args.bytes.now c.in-len1-up.len_at_least (sym c.in_err-closing_len-in-len1-up.ensures))

pub overflow_add-result : goal.overflow_add-result
overflow_add-result c = let le = one_more_closed c.args.bytes.now c.in_ok-closing_len-in-len1-up.field-0 c.in-len1-up.len_at_least (sym c.in_ok-closing_len-in-len1-up.ensures) in omega arith

pub returns-in_ok-closing_len-in-len1-up : goal.returns-in_ok-closing_len-in-len1-up
returns-in_ok-closing_len-in-len1-up c = text_is c.args.bytes.now c.in_ok-closing_len-in-len1-up.field-0 c.in-len1-up.len_at_least c.if-first-ne39.false (sym c.in_ok-closing_len-in-len1-up.ensures)
