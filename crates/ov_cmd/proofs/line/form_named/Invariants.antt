use Rattle.std.proofs.Common.{◌≡◌, drop, map}
use Rattle.std.specs.Option.{option_map}
use Rattle.ov_model.specs.Line.{form_of as form_of_name}
use Rattle.ov_cmd.specs.Table.{form_of}
use Rattle.ov_cmd.proofs.line.form_named.Given as goal

abbrev pub invariant-loop-form : goal.invariant-loop-form
invariant-loop-form l =
    form_of_name (map form_of l.forms) l.name (option_map (λ w. w.now) l.word) ≡ form_of_name (map form_of (drop l.form-index l.forms)) l.name (option_map (λ w. w.now) l.word)
