use Rattle.std.proofs.Common.{◌≡◌, ◌+◌, ◌++◌, false, take, vec_len, vec_capacity}
use Rattle.std.specs.List.{list_any}
use Rattle.csv.specs.Writing.{default_writer, needs_byte}
use Rattle.ov_csv.proofs.field_line.put_rest.Given as goal

-- the bytes so far are put, and call for no quotes
abbrev pub invariant-loop-byte : goal.invariant-loop-byte
invariant-loop-byte l =
    (l.text.items ≡ l.fn.text.items ++ take l.byte-index l.field) × (list_any (needs_byte default_writer) (take l.byte-index l.field) ≡ false)
    × (vec_len l.text ≡ vec_len l.fn.text + l.byte-index) × (vec_capacity l.text ≡ vec_capacity l.fn.text)
