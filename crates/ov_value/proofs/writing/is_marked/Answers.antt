use Rattle.std.proofs.Common.{refl}
use Rattle.ov_value.specs.Spelling.{row_spelling}
use Rattle.ov_value.proofs.writing.is_marked.Goals as goal

pub returns : goal.returns
unfolding row_spelling
returns c = rw (c.has_null.ensures, c.kept.ensures, c.values.ensures) refl
