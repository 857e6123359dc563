use Rattle.std.proofs.Common.{◌≡◌, ◌-◌, [], ◌∷◌, length}
use Rattle.ov_model.specs.Reading.{more_at, with_front}
use Rattle.ov_parse.proofs.list.more.Given as goal

abbrev pub invariant-loop : goal.invariant-loop
invariant-loop g l = with_front l.items (more_at l.between (g.T.Part.at l.scope) (length l.symbols - l.counter) l.rest) ≡ with_front (l.fn.first ∷ []) (more_at l.between (g.T.Part.at l.scope) (length l.symbols) l.symbols)
