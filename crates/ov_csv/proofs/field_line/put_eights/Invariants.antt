use Rattle.std.proofs.Common.{◌≡◌, ◌≤◌, ◌+◌, ◌++◌, length, vec_len, vec_capacity}
use Rattle.std.specs.List.{list_any}
use Rattle.csv.specs.Writing.{default_writer, needs_byte}
use Rattle.ov_csv.proofs.field_line.put_eights.Given as goal

-- some bytes are put, and for the others there is room; the bytes so far call for no quotes, so the answer is that of the others
abbrev pub invariant-loop-rest : goal.invariant-loop-rest
invariant-loop-rest l =
    (l.text.items ++ l.rest ≡ l.fn.text.items ++ l.field) × (list_any (needs_byte default_writer) l.field ≡ list_any (needs_byte default_writer) l.rest)
    × (vec_len l.text + length l.rest ≤ vec_capacity l.text) × (length l.fn.text.items ≤ length l.text.items)

abbrev pub decreases-loop-rest : goal.decreases-loop-rest
decreases-loop-rest l = length l.rest
