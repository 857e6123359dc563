use Rattle.std.proofs.Common.{◌≡◌, ◌+◌, ◌-◌, ◌*◌}
use Rattle.ov_model.specs.declared.query.Fixed.TheVariants as f
use Rattle.ov_model.specs.Reading.{more_at, with_front, list_at, conj_at, unit_at}
use Rattle.ov_parse.specs.Scopes.{test_in}
use Rattle.ov_parse.proofs.cond.+conditions.Given as goal

abbrev pub decreases-closed : goal.decreases-closed
decreases-closed l = 8 * l.depth + 5

abbrev pub decreases-conj : goal.decreases-conj
decreases-conj l = 8 * l.depth + 2

abbrev pub decreases-conjs : goal.decreases-conjs
decreases-conjs l = 8 * l.depth + 3

abbrev pub decreases-disj : goal.decreases-disj
decreases-disj l = 8 * l.depth + 4

abbrev pub decreases-unit : goal.decreases-unit
decreases-unit l = 8 * l.depth

abbrev pub decreases-units : goal.decreases-units
decreases-units l = 8 * l.depth + 1

abbrev pub invariant-conjs-loop : goal.invariant-conjs-loop
invariant-conjs-loop l = with_front l.members (more_at f.Or (conj_at (unit_at (test_in l.scope) l.depth)) (l.end - l.counter) l.rest) ≡ list_at f.Or (conj_at (unit_at (test_in l.scope) l.depth)) l.symbols

abbrev pub invariant-units-loop : goal.invariant-units-loop
invariant-units-loop l = with_front l.members (more_at f.And (unit_at (test_in l.scope) l.depth) (l.end - l.counter) l.rest) ≡ list_at f.And (unit_at (test_in l.scope) l.depth) l.symbols
