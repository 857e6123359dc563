use Rattle.std.proofs.Common.{◌≡◌, take, map}
use Rattle.ov_cmd.proofs.split.texts_of.Given as goal

abbrev pub invariant-loop-item : goal.invariant-loop-item
invariant-loop-item l = l.texts.items ≡ map (λ x. x.now) (take l.item-index l.items)
