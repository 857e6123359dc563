-- The values of a line, as the code has them.
--     values_of v      those of the definition
--     no_value choices options nth letter      what a line's last word in an option's place comes to
use Rattle.std.specs.Prelude.{ℕ, List, Err}
use Rattle.ov_model.specs.declared.given.Given.{Given}
use Rattle.ov_model.specs.declared.refusal.Refusal.TheVariants.{Missing}
use Rattle.ov_model.specs.Forms as model
use Rattle.ov_model.specs.Line.{Read, and_then, option_at}
use Rattle.ov_cmd.specs.declared.values.Values.{Values}

abbrev pub values_of : Values → model.Values
values_of v = record { words = v.words.items; options = v.options.items }

abbrev pub no_value : List model.Choice → List (List ℕ × Given) → ℕ → List ℕ → Read
no_value choices options nth letter = and_then (λ c. Err (Missing c.letter)) (option_at choices options nth letter)
