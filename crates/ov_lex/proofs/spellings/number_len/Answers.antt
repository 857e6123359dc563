use Rattle.std.proofs.Common.{arith}
use Rattle.std.specs.Char.{is_ascii_digit}
use Rattle.ov_lex.proofs.Scans.{signed_is, signed_is_none, unsigned_found, one_more}
use Rattle.ov_lex.proofs.spellings.number_len.Goals as goal

pub returns-in_err-some_digits-in-len1-up : goal.returns-in_err-some_digits-in-len1-up
returns-in_err-some_digits-in-len1-up c = rw c.from_residual.ensures (signed_is_none c.args.bytes.now c.in-len1-up.len_at_least c.if-first-eq45.true c.in_err-some_digits-in-len1-up.ensures)

pub overflow_add-result : goal.overflow_add-result
overflow_add-result c = let le = one_more is_ascii_digit c.args.bytes.now c.in_ok-some_digits-in-len1-up.field-0 c.in-len1-up.len_at_least c.in_ok-some_digits-in-len1-up.ensures.0 in omega arith

pub returns-in_ok-some_digits-in-len1-up : goal.returns-in_ok-some_digits-in-len1-up
returns-in_ok-some_digits-in-len1-up c = signed_is c.args.bytes.now c.in_ok-some_digits-in-len1-up.field-0 c.in-len1-up.len_at_least c.if-first-eq45.true c.in_ok-some_digits-in-len1-up.ensures.0 c.in_ok-some_digits-in-len1-up.ensures.1

pub returns-else-first-eq45 : goal.returns-else-first-eq45
returns-else-first-eq45 c = unsigned_found c.args.bytes.now c.some_digits-else-first-eq45.result c.in-len1-up.len_at_least c.if-first-eq45.false c.some_digits-else-first-eq45.ensures
