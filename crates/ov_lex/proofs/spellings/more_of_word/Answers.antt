use Rattle.std.proofs.Common.{sym, arith}
use Rattle.ov_lex.specs.Spellings.{continues_word}
use Rattle.std.proofs.lemmas.List.Sums.{prefix_len_is}
use Rattle.ov_lex.proofs.spellings.more_of_word.Goals as goal

pub returns-else-continues_word : goal.returns-else-continues_word
returns-else-continues_word c = sym (prefix_len_is continues_word c.args.bytes.now c.loop-n.n 0 c.loop-n.invariant.in_range c.loop-n.invariant.passed (λ lt. sym c.if-continues_word.ensures))

pub returns-after-loop-n : goal.returns-after-loop-n
returns-after-loop-n c = sym (prefix_len_is continues_word c.args.bytes.now c.loop-n.n 0 c.loop-n.invariant.in_range c.loop-n.invariant.passed (λ lt. absurd (omega arith)))
