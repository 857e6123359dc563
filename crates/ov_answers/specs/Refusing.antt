-- The kinds of a query, as a program gives them.
--     Gives answer kinds      the program's answer is that of the definition, unless memory was wanting
use Rattle.std.specs.Prelude.{◌≡◌, Bool, List, Result, Ok, Err}
use Rattle.ov_value.specs.Shapes.{Shape}
use Rattle.ov_model.specs.Kinds.{Place}
use Rattle.ov_model.specs.declared.query.Col.{Col}
use Rattle.ov_model.specs.declared.refusal.Refusal.{Refusal}
use Rattle.ov_answers.specs.declared.kinds_err.KindsErr.{KindsErr}
use Rattle.ov_answers.specs.declared.kinds_err.KindsErr.TheVariants as why

-- where a term stands: over this schema, with plain columns that have to be grouped or not, and the columns that are
abbrev pub at : Shape → Bool → List Col → Place
at schema grouped groups = record { schema = schema; grouped = grouped; groups = groups }

abbrev pub Gives : {X : Type 0} → Result X KindsErr → Result X Refusal → Type 0
Gives (Ok x) kinds = kinds ≡ Ok x
Gives (Err (why.Refused refusal)) kinds = kinds ≡ Err refusal
Gives (Err why.Memory) kinds = Unit {0}
