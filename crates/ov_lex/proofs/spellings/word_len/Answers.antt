use Rattle.std.proofs.Common.{sym, arith}
use Rattle.ov_lex.specs.Spellings.{continues_word}
use Rattle.ov_lex.proofs.Scans.{word_is, word_is_none, one_more}
use Rattle.ov_lex.proofs.spellings.word_len.Goals as goal

pub overflow_add-result : goal.overflow_add-result
overflow_add-result c = let le = one_more continues_word c.args.bytes.now c.more_of_word.result c.in-len1-up.len_at_least c.more_of_word.ensures in omega arith

pub returns-then-begins_word : goal.returns-then-begins_word
returns-then-begins_word c = word_is c.args.bytes.now c.more_of_word.result c.in-len1-up.len_at_least (sym c.if-begins_word.ensures) c.more_of_word.ensures

pub returns-else-begins_word : goal.returns-else-begins_word
returns-else-begins_word c = word_is_none c.args.bytes.now c.in-len1-up.len_at_least (sym c.if-begins_word.ensures)
