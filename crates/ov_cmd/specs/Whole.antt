-- A line of which all behind the command's name is one text.
--     whole_of f text      what it asks for
use Rattle.std.specs.Prelude.{ℕ, List, [], ◌∷◌, Result}
use Rattle.ov_model.specs.declared.command.Command.{Command}
use Rattle.ov_model.specs.declared.given.Given.TheVariants.{Text}
use Rattle.ov_model.specs.declared.refusal.Refusal.{Refusal}
use Rattle.ov_model.specs.Forms.{Form}

abbrev pub whole_of : Form → List ℕ → Result Command Refusal
whole_of f text = f.make (record { words = Text text ∷ []; options = [] })
