use Rattle.std.proofs.Common.{◌≡◌, List, map, drop}
use Rattle.ov_value.specs.declared.column.Kind.{Kind}
use Rattle.ov_model.specs.Kinds.{terms_kinds}
use Rattle.ov_typing.proofs.Lists.{behind}
use Rattle.ov_typing.proofs.typing.take_keys.Given as goal

-- the keys before have kinds, and behind them come those of the others
abbrev pub invariant-loop-key : goal.invariant-loop-key
invariant-loop-key l =
    (kinds : List Kind)
    × (terms_kinds l.place (map (λ key. key.term) l.keys) ≡ behind kinds (terms_kinds l.place (map (λ key. key.term) (drop l.key-index l.keys))))
