use Rattle.std.proofs.Common.{◌≡◌, ◌++◌, ◌∷◌, take}
use Rattle.csv.specs.Writing.{default_writer, escaped}
use Rattle.ov_csv.proofs.field_line.push_quoted.Given as goal

-- the quote in front, and the bytes so far
abbrev pub invariant-loop-byte : goal.invariant-loop-byte
invariant-loop-byte l = l.text.items ≡ l.fn.text.items ++ (34 ∷ escaped default_writer (take l.byte-index l.field))
