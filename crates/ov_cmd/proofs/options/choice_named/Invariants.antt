use Rattle.std.proofs.Common.{◌≡◌, drop, map}
use Rattle.ov_model.specs.Line.{choice_named}
use Rattle.ov_cmd.specs.Table.{choice_of}
use Rattle.ov_cmd.proofs.options.choice_named.Given as goal

abbrev pub invariant-loop-choice : goal.invariant-loop-choice
invariant-loop-choice l = choice_named (map choice_of l.choices) l.letter ≡ choice_named (map choice_of (drop l.choice-index l.choices)) l.letter
