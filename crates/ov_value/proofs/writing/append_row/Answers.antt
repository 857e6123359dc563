use Rattle.std.proofs.Common.{refl, arith, append_assoc}
use Rattle.std.specs.List.{flat_map}
use Rattle.ov_value.specs.Spelling.{kept, mark_bytes, value_bytes, row_spelling, IsShort}
use Rattle.ov_value.proofs.RowLemmas.{length-HasKinds}
use Rattle.ov_value.proofs.KeptLemmas.{length-kept, All-kept, flat_map-kept}
use Rattle.ov_value.proofs.writing.append_row.Goals as goal

-- a row that fits has at most as many values as a schema has columns
pub push_marks-requires : goal.push_marks-requires
push_marks-requires c =
    rw (c.kept-values.ensures, c.values.ensures)
    (omega (arith, length-kept c.args.row.now, length-HasKinds _ _ c.requires.fits.kinds, c.columns-columns.ensures.sound.few_columns))

pub push_values-requires : goal.push_values-requires
push_values-requires c = rw (c.kept-values.ensures, c.values.ensures) (All-kept IsShort c.args.row.now c.requires.short)

pub returns-clause-marked : goal.returns-clause-marked
unfolding row_spelling
returns-clause-marked c = rw (c.in_ok-marked.ensures.marked, c.kept-values.ensures, c.values.ensures) refl

pub returns-clause-bytes : goal.returns-clause-bytes
unfolding row_spelling
returns-clause-bytes c =
    rw (c.in_ok-push_values.ensures.bytes, c.in_ok-marked.ensures.bytes, c.kept-values.ensures, c.values.ensures, flat_map-kept c.args.row.now)
    (append_assoc c.args.bytes.now.items (mark_bytes (kept c.args.row.now)) (flat_map value_bytes c.args.row.now))
