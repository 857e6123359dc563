use Rattle.std.proofs.Common.{◌≡◌, refl}
use Rattle.ov_value.specs.Spelling.{row_spelling}
use Rattle.ov_value.proofs.writing.row_bytes.Goals as goal

pub returns : goal.returns
returns c =
    let bytes : c.new.result ≡ (row_spelling c.args.row.now).bytes = rw (c.new.ensures, c.in_ok-marked.ensures.bytes, c.in_ok-bytes.ensures.items) refl in
    λ i. record { marked = c.in_ok-marked.ensures.marked i; bytes = bytes i }
