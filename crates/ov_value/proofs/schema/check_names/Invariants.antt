use Rattle.std.proofs.Common.{◌≡◌, [], take, drop}
use Rattle.ov_value.specs.declared.schema_err.SchemaErr.TheVariants.{BadName, RepeatedName}
use Rattle.ov_value.specs.Naming.{is_column_name}
use Rattle.ov_value.specs.Shapes.{names}
use Rattle.ov_value.specs.Making.{name_refusal}
use Rattle.ov_value.proofs.schema.check_names.Given as goal

abbrev pub invariant-loop-i : goal.invariant-loop-i
invariant-loop-i l =
    name_refusal is_column_name BadName RepeatedName [] (names l.columns)
    ≡ name_refusal is_column_name BadName RepeatedName (names (take l.i l.columns)) (names (drop l.i l.columns))
