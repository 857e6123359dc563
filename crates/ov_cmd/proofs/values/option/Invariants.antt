use Rattle.std.proofs.Common.{◌≡◌, drop}
use Rattle.ov_model.specs.Forms.{option_in}
use Rattle.ov_cmd.proofs.values.option.Given as goal

abbrev pub invariant-loop-chosen : goal.invariant-loop-chosen
invariant-loop-chosen l = option_in l.options l.letter ≡ option_in (drop l.chosen-index l.options) l.letter
