use Rattle.std.proofs.Common.{◌<◌, ◌≤◌, ◌^◌, ◌-◌, length, arith, length-drop}
use Rattle.ov_value.proofs.KeptLemmas.{marks-bound, one_bit}
use Rattle.ov_value.proofs.kept.marks_of.Goals as goal

-- at most 63 values have been marked before this one
pub overflow_mul-number : goal.overflow_mul-number
overflow_mul-number c =
    let small : c.loop-i.number < 2 ^ 63 = rw c.loop-i.invariant (marks-bound _ (omega (arith, length-drop (length c.args.values.now - c.loop-i.i) c.args.values.now))) in
    omega arith

pub overflow_add-number : goal.overflow_add-number
overflow_add-number c =
    let small : c.loop-i.number < 2 ^ 63 = rw c.loop-i.invariant (marks-bound _ (omega (arith, length-drop (length c.args.values.now - c.loop-i.i) c.args.values.now))) in
    let bit : c.from.result ≤ 1 = rw c.from.ensures (one_bit c.is_null.result) in
    omega arith
