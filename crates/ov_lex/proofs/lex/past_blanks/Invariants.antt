use Rattle.std.proofs.Common.{◌-◌, length}
use Rattle.ov_lex.specs.Texts.{Blank}
use Rattle.ov_lex.proofs.lex.past_blanks.Given as goal

abbrev pub invariant-loop-at : goal.invariant-loop-at
invariant-loop-at l = Blank l.bytes l.from l.at

abbrev pub decreases-loop-at : goal.decreases-loop-at
decreases-loop-at l = length l.bytes - l.at
