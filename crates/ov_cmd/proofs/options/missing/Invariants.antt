use Rattle.std.proofs.Common.{◌≡◌, drop, map}
use Rattle.ov_model.specs.Line.{missing}
use Rattle.ov_cmd.specs.Table.{choice_of}
use Rattle.ov_cmd.proofs.options.missing.Given as goal

abbrev pub invariant-loop-choice : goal.invariant-loop-choice
invariant-loop-choice l = missing (map choice_of l.choices) l.options ≡ missing (map choice_of (drop l.choice-index l.choices)) l.options
