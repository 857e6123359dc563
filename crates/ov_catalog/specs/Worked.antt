-- A dataset without rows, which shows that StandsFor can be met.
use Rattle.std.specs.Prelude.{[], ◌∷◌, codes}
use Rattle.ov_event.specs.declared.event.Event as raw
use Rattle.ov_event.specs.declared.event.Event.TheVariants as says
use Rattle.ov_event.specs.declared.event.RawSchema.{RawSchema}
use Rattle.ov_host.specs.declared.area.Extent.{Extent}
use Rattle.ov_model.specs.Moves.{Move, Init}
use Rattle.ov_value.specs.declared.column.Column.{Column}
use Rattle.ov_value.specs.declared.column.Kind.TheVariants.{Int}
use Rattle.ov_value.specs.Shapes.{Shape}

abbrev pub nowhere : Extent
nowhere = record { page = 0; bytes = 0 }

abbrev pub key_column : Column
key_column = record { name = codes "k"; kind = Int }

abbrev pub one_column : Shape
one_column = record { columns = key_column ∷ []; key = 0 ∷ [] }

abbrev pub spelled_column : RawSchema
spelled_column = record { columns = key_column ∷ []; key = 0 ∷ [] }

abbrev pub empty_event : raw.Event
empty_event = says.Init (codes "empty") spelled_column 0 nowhere nowhere

abbrev pub empty_move : Move
empty_move = Init (codes "empty") one_column []
