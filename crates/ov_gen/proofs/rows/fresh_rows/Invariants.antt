use Rattle.std.proofs.Common.{◌≡◌, ◌+◌, ◌-◌, ◌++◌}
use Rattle.ov_model.specs.Generator.{fresh_rows as fresh_rows_of}
use Rattle.ov_gen.proofs.rows.fresh_rows.Given as goal

abbrev pub invariant-loop-before : goal.invariant-loop-before
invariant-loop-before l = record {
  rows : (fresh_rows_of l.fn.count 1 l.fn.state).is ≡ l.rows.items ++ (fresh_rows_of (l.fn.count - l.before) (1 + l.before) l.state).is;
  state : (fresh_rows_of l.fn.count 1 l.fn.state).state ≡ (fresh_rows_of (l.fn.count - l.before) (1 + l.before) l.state).state;
}
