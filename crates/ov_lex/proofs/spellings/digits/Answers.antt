use Rattle.std.proofs.Common.{sym, arith}
use Rattle.std.specs.Char.{is_ascii_digit}
use Rattle.std.proofs.lemmas.List.Sums.{prefix_len_is}
use Rattle.ov_lex.proofs.spellings.digits.Goals as goal

pub returns-else-is_ascii_digit : goal.returns-else-is_ascii_digit
returns-else-is_ascii_digit c = sym (prefix_len_is is_ascii_digit c.args.bytes.now c.loop-n.n 0 c.loop-n.invariant.in_range c.loop-n.invariant.passed (λ lt. sym c.if-is_ascii_digit.ensures.value))

pub returns-after-loop-n : goal.returns-after-loop-n
returns-after-loop-n c = sym (prefix_len_is is_ascii_digit c.args.bytes.now c.loop-n.n 0 c.loop-n.invariant.in_range c.loop-n.invariant.passed (λ lt. absurd (omega arith)))
