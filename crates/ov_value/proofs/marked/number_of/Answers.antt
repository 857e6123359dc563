use Rattle.std.proofs.Common.{◌<◌, ◌-◌, ◌^◌, length, arith}
use Rattle.ov_value.proofs.LowBytes.{tail_number-bound}
use Rattle.ov_value.proofs.marked.number_of.Goals as goal

-- at most seven bytes have been read before this one
pub overflow_mul-number : goal.overflow_mul-number
overflow_mul-number c =
    let small : c.loop-i.number < 256 ^ 7 =
    tail_number-bound c.args.bytes.now c.loop-i.i c.loop-i.number (λ i. omega (arith, c.type_inv.bytes i)) c.requires c.loop-i-test.true c.loop-i.invariant in
    omega arith

pub overflow_add-number : goal.overflow_add-number
overflow_add-number c =
    let small : c.loop-i.number < 256 ^ 7 =
    tail_number-bound c.args.bytes.now c.loop-i.i c.loop-i.number (λ i. omega (arith, c.type_inv.bytes i)) c.requires c.loop-i-test.true c.loop-i.invariant in
    let byte : c.from.result < 256 = rw c.from.ensures (omega (arith, c.type_inv.bytes (length c.args.bytes.now - 1 - c.loop-i.i))) in
    omega arith
