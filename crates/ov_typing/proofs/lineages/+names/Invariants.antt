use Rattle.std.proofs.Common.{◌≡◌, drop}
use Rattle.ov_typing.proofs.Named.{some_in}
use Rattle.ov_typing.proofs.lineages.+names.Given as goal

-- those before name none
abbrev pub invariant-one_names-loop-cond : goal.invariant-one_names-loop-cond
invariant-one_names-loop-cond l = some_in (drop l.cond-index l.conds) ≡ some_in l.conds
