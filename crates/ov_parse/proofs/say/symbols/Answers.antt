use Rattle.std.proofs.lemmas.List.{get_or_default}
use Rattle.ov_parse.proofs.Said.{said-more}
use Rattle.ov_parse.proofs.say.symbols.Goals as goal

pub loop-token-preserved : goal.loop-token-preserved
loop-token-preserved c =
    rw c.in_ok-push.ensures.items (said-more c.args.text.now c.args.tokens.now c.loop-token.said.items c.loop-token.token-index _ c.in_ok-symbol.field-0 c.loop-token-test.true (get_or_default c.args.tokens.now c.loop-token.token-index _ _ c.loop-token-test.true) c.loop-token.invariant c.in_ok-symbol.ensures)
