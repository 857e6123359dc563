use Rattle.std.proofs.Common.{sym, arith}
use Rattle.std.proofs.lemmas.Bool.{eq-eqb}
use Rattle.std.proofs.lemmas.List.Sums.{position_or_len_is}
use Rattle.ov_lex.specs.Spellings.{is_double_quote}
use Rattle.ov_lex.proofs.spellings.unquoted.Goals as goal

pub returns-else-bytes-n-ne34 : goal.returns-else-bytes-n-ne34
returns-else-bytes-n-ne34 c = sym (position_or_len_is is_double_quote c.args.bytes.now c.loop-n.n 0 c.loop-n.invariant.in_range c.loop-n.invariant.passed (λ lt. eq-eqb _ 34 c.if-bytes-n-ne34.false))

pub returns-after-loop-n : goal.returns-after-loop-n
returns-after-loop-n c = sym (position_or_len_is is_double_quote c.args.bytes.now c.loop-n.n 0 c.loop-n.invariant.in_range c.loop-n.invariant.passed (λ lt. absurd (omega arith)))
