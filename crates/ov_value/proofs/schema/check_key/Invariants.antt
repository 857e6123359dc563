use Rattle.std.proofs.Common.{◌≡◌, [], take, drop}
use Rattle.ov_value.specs.declared.schema_err.SchemaErr.TheVariants.{UnknownKey, RepeatedKey}
use Rattle.ov_value.specs.Shapes.{names}
use Rattle.ov_value.specs.Making.{is_among, name_refusal}
use Rattle.ov_value.proofs.schema.check_key.Given as goal

abbrev pub invariant-loop-i : goal.invariant-loop-i
invariant-loop-i l =
    name_refusal (λ name. is_among name (names l.columns)) UnknownKey RepeatedKey [] l.key
    ≡ name_refusal (λ name. is_among name (names l.columns)) UnknownKey RepeatedKey (take l.i l.key) (drop l.i l.key)
