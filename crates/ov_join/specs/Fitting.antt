-- A join and the schemas of its sides that it fits, as contracts see them.
--     IsOfJoins why      joins are refused so
use Rattle.ov_value.specs.Shapes.{Shape}
use Rattle.ov_model.specs.declared.query.JoinQuery.{JoinQuery}
use Rattle.ov_typing.specs.declared.type_err.TypeErr.{TypeErr}
use Rattle.ov_typing.specs.declared.type_err.TypeErr.TheVariants as why

pub record Fitting : Type 0 where
  pub join : JoinQuery
  pub left : Shape
  pub right : Shape

-- for a column that isn't there, or for kinds that differ; or memory was wanting
abbrev pub IsOfJoins : TypeErr → Type 0
IsOfJoins (why.UnknownColumn name) = Unit {0}
IsOfJoins (why.TypeMismatch nth left right) = Unit {0}
IsOfJoins (why.NotGrouped name) = ⊥
IsOfJoins (why.NeedsInt name) = ⊥
IsOfJoins why.Memory = Unit {0}
