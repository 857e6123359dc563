use Rattle.std.proofs.Common.{take}
use Rattle.ov_model.specs.Grammar.{AllSay}
use Rattle.ov_parse.proofs.say.symbols.Given as goal

abbrev pub invariant-loop-token : goal.invariant-loop-token
invariant-loop-token l = AllSay l.text (take l.token-index l.tokens) l.said.items
