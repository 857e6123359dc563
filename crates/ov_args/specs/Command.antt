-- The command that `clap` is given: a folder that is required, and the option `--steps` with one value.
--     folder_rule, steps_rule      the two, as `clap` keeps them
--     without_name      the command before it has them
--     the_command      the command
use Rattle.std.specs.Prelude.{Some, true, codes}
use Rattle.clap.specs.Words.{App, Rule, new_app, new_rule, with_rule}
use Rattle.clap.specs.Simple.{on_top}

abbrev pub folder_rule : Rule
folder_rule = record (new_rule (codes "folder")) { required = true }

abbrev pub steps_rule : Rule
steps_rule = record (new_rule (codes "steps")) { long = Some (codes "steps") }

-- no word of the list is the program's name, so that the first one counts
abbrev pub without_name : App
without_name = on_top (λ s. record s { no_binary_name = true }) (new_app (codes "orpheus"))

abbrev pub the_command : App
the_command = with_rule (with_rule without_name folder_rule) steps_rule
