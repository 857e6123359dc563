-- What was found of a dataset of the registry.
--     IfRows P found      the rows have this property, where it isn't foreign
--     is_foreign_found found      it is live with another schema
--     IsFoundIn schema d found      so it is in a World
--     foreign_off schema set      76
--     answer_or off said      the reply, or a refusal before it
use Rattle.std.specs.Prelude.{◌≡◌, Bool, true, false, List, Option, Some, None}
use Rattle.ov_model.specs.Act.{if_so}
use Rattle.ov_model.specs.Book.{Row}
use Rattle.ov_model.specs.Registry.{is_foreign, last_rows}
use Rattle.ov_model.specs.World.{Dataset}
use Rattle.ov_model.specs.declared.refusal.Refusal.{Refusal}
use Rattle.ov_model.specs.declared.refusal.Refusal.TheVariants as no
use Rattle.ov_model.specs.declared.reply.Reply.{Reply}
use Rattle.ov_model.specs.declared.reply.Reply.TheVariants as says
use Rattle.ov_registry.specs.Last.{is_foreign_in}
use Rattle.ov_store.specs.Committing.{Set}
use Rattle.ov_value.specs.Shapes.{Shape}
use Rattle.ov_staging.specs.declared.reading.Found.{Found}
use Rattle.ov_staging.specs.declared.reading.Found.TheVariants as found

abbrev pub IfRows : (List Row → Type 0) → Found → Type 0
IfRows P found.Foreign = Unit {0}
IfRows P (found.Rows rows) = P rows.items

abbrev pub is_foreign_found : Found → Bool
is_foreign_found found.Foreign = true
is_foreign_found (found.Rows rows) = false

abbrev pub IsFoundIn : Shape → Option Dataset → Found → Type 0
IsFoundIn schema d found.Foreign = is_foreign schema d ≡ true
IsFoundIn schema d (found.Rows rows) = (is_foreign schema d ≡ false) × (rows.items ≡ last_rows d)

abbrev pub foreign_off : Shape → Option Set → Option Refusal
foreign_off schema set = if_so (is_foreign_in schema set) no.ForeignRegistry

abbrev pub answer_or : Option Refusal → Reply → Reply
answer_or None said = said
answer_or (Some refusal) said = says.Refused refusal
