use Rattle.std.proofs.lemmas.Str.{IsUtf8-from_ascii}
use Rattle.ov_lex.proofs.Numbers.{parsed, is_ascii}
use Rattle.ov_lex.proofs.spellings.is_in_range.Goals as goal

pub returns-in-Ok : goal.returns-in-Ok
returns-in-Ok c = parsed c.args.number.now c.parse.result c.is_ok.result c.requires c.is_ok.ensures.value (rw c.in-Ok.ensures.cases.0 at c.parse.ensures.value.0)

pub returns-in-Err : goal.returns-in-Err
returns-in-Err c = absurd (c.in-Err.ensures.cases.0 (IsUtf8-from_ascii c.args.number.now (is_ascii c.args.number.now c.requires)))
