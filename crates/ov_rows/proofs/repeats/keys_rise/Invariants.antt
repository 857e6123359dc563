use Rattle.std.proofs.Common.{◌≡◌, ◌-◌, Some}
use Rattle.std.specs.Prelude.{IfSome}
use Rattle.ov_value.specs.Rows.{key_cmp}
use Rattle.ov_front.specs.Fronts.{front_of}
use Rattle.ov_rows.specs.Keyed.{row_at}
use Rattle.ov_rows.proofs.Standing.{Climbs}
use Rattle.ov_rows.proofs.repeats.keys_rise.Given as goal

abbrev pub invariant-loop-i : goal.invariant-loop-i
invariant-loop-i l = record {
  climbs : Climbs (key_cmp l.schema) l.rows l.i;
  front : IfSome l.before (λ x. front_of l.begin l.schema (row_at l.rows (l.i - 1)) ≡ Some x);
}
