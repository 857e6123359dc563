use Rattle.std.proofs.Common.{sym}
use Rattle.ov_lex.proofs.Scans.{sign_single_none, sign_long, sign_short, sign_is_none}
use Rattle.ov_lex.proofs.spellings.sign_len.Goals as goal

pub returns-else-is_short_sign : goal.returns-else-is_short_sign
returns-else-is_short_sign c = sign_single_none c.args.bytes.now c.in-len1.len_at_least c.in-len1.len_below (sym c.if-is_short_sign.ensures)

pub returns-then-is_long_sign : goal.returns-then-is_long_sign
returns-then-is_long_sign c = sign_long c.args.bytes.now c.in-len2-up.len_at_least (sym c.if-is_long_sign.ensures)

pub returns-then-is_short_sign-2 : goal.returns-then-is_short_sign-2
returns-then-is_short_sign-2 c = sign_short c.args.bytes.now c.in-len2-up.len_at_least (sym c.if-is_long_sign.ensures) (sym c.if-is_short_sign-2.ensures)

pub returns-else-is_short_sign-2 : goal.returns-else-is_short_sign-2
returns-else-is_short_sign-2 c = sign_is_none c.args.bytes.now c.in-len2-up.len_at_least (sym c.if-is_long_sign.ensures) (sym c.if-is_short_sign-2.ensures)
