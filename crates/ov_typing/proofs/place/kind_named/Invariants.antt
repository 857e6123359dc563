use Rattle.std.proofs.Common.{◌≡◌, drop}
use Rattle.ov_model.specs.Kinds.{kind_named}
use Rattle.ov_typing.proofs.place.kind_named.Given as goal

-- no column before has the name
abbrev pub invariant-loop-column : goal.invariant-loop-column
invariant-loop-column l = kind_named (drop l.column-index l.columns) l.name ≡ kind_named l.columns l.name
