use Rattle.ov_lex.proofs.Lexing.{are_read}
use Rattle.ov_lex.proofs.laws.every_text_is_read.Goals as goal

pub returns : goal.returns
returns c = are_read
