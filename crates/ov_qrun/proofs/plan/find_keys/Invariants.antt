use Rattle.std.proofs.Common.{◌≡◌, List, take}
use Rattle.ov_model.specs.Answers.{Pair}
use Rattle.ov_qrun.specs.Keys.{keys_for, named_keys}
use Rattle.ov_qrun.proofs.plan.find_keys.Given as goal

-- the keys before are what they are by their names
abbrev pub invariant-loop-key : goal.invariant-loop-key
invariant-loop-key l = (group : List Pair) → keys_for l.found.items group ≡ named_keys l.shape (take l.key-index l.order) group
