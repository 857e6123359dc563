-- Each field of ASCII is a text.
use Rattle.std.proofs.Common.{subst}
use Rattle.std.specs.Str.{IsAscii}
use Rattle.ov_csv.proofs.Ascii.{ascii-texts}
use Rattle.ov_csv.proofs.line.is_ascii.Goals as goal

pub returns : goal.returns
returns c = λ yes. ascii-texts 0 _ _ (subst IsAscii c.as_slice.ensures (rw yes at c.is_ascii.ensures.cases))
