use Rattle.std.proofs.Common.{◌≡◌, drop}
use Rattle.ov_model.specs.Kinds.{terms_kinds}
use Rattle.ov_typing.proofs.Lists.{behind}
use Rattle.ov_typing.proofs.typing.terms_kinds.Given as goal

-- the kinds of the terms before, and behind them those of the others
abbrev pub invariant-loop-term : goal.invariant-loop-term
invariant-loop-term l = terms_kinds l.place l.terms ≡ behind l.kinds.items (terms_kinds l.place (drop l.term-index l.terms))
