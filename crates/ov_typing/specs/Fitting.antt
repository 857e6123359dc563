-- A query and a schema that it fits, as contracts see them.
use Rattle.ov_value.specs.Shapes.{Shape}
use Rattle.ov_model.specs.declared.query.Query.{Query}

pub record Fitting : Type 0 where
  pub query : Query
  pub schema : Shape
