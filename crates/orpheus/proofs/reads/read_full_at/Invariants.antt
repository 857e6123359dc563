-- no more bytes were read than the buffer takes
use Rattle.std.proofs.Common.{◌≤◌, length}
use Rattle.orpheus.proofs.reads.read_full_at.Given as goal

abbrev pub invariant-loop : goal.invariant-loop
invariant-loop l = l.done ≤ length l.fn.buf
