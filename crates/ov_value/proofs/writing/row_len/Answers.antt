use Rattle.std.proofs.Common.{arith, length-append}
use Rattle.std.specs.List.{flat_map}
use Rattle.ov_value.specs.Spelling.{kept, mark_bytes, value_bytes, row_spelling}
use Rattle.ov_value.proofs.KeptLemmas.{flat_map-kept}
use Rattle.ov_value.proofs.writing.row_len.Goals as goal

pub returns : goal.returns
unfolding row_spelling
returns c =
    rw (c.saturating_add.ensures, c.len_of.ensures, c.marks_len.ensures, c.kept-values.ensures, c.values.ensures, flat_map-kept c.args.row.now)
    (omega (arith, length-append (mark_bytes (kept c.args.row.now)) (flat_map value_bytes c.args.row.now)))
