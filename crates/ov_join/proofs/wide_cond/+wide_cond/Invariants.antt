use Rattle.std.proofs.Common.{◌≡◌, map, take}
use Rattle.ov_model.specs.Joins.{wide_cond}
use Rattle.ov_join.proofs.wide_cond.+wide_cond.Given as goal

abbrev pub invariant-wide_conds-loop-cond : goal.invariant-wide_conds-loop-cond
invariant-wide_conds-loop-cond l = l.made ≡ map wide_cond (take l.cond-index l.conds)
