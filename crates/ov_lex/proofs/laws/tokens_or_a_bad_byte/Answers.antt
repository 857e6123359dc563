use Rattle.std.proofs.Common.{arith}
use Rattle.ov_lex.proofs.Runs.{one_reading, tokens_end, bad_ends}
use Rattle.ov_lex.proofs.laws.tokens_or_a_bad_byte.Goals as goal

pub returns : goal.returns
returns c text xs at g h = omega (arith, (one_reading text 0 xs h.before _ _ _ _ g.run (tokens_end text xs g) h.run (bad_ends text at h)).1, h.within)
