-- Each field is a text.
use Rattle.ov_csv.proofs.Ascii.{text-at}
use Rattle.ov_csv.proofs.texts.Texts.at.Goals as goal

pub from_utf8_unchecked-requires : goal.from_utf8_unchecked-requires
from_utf8_unchecked-requires c = rw c.at.ensures (text-at _ _ c.self.invariant)
