use Rattle.ov_lex.proofs.Runs.{one_reading, tokens_end, bad_ends}
use Rattle.ov_lex.proofs.laws.one_list_of_tokens.Goals as goal

pub returns-clause-tokens : goal.returns-clause-tokens
returns-clause-tokens c text xs ys g h = (one_reading text 0 xs ys _ _ _ _ g.run (tokens_end text xs g) h.run (tokens_end text ys h)).0

pub returns-clause-bad : goal.returns-clause-bad
returns-clause-bad c text i j g h = (one_reading text 0 g.before h.before _ _ _ _ g.run (bad_ends text i g) h.run (bad_ends text j h)).1
