-- A text with no backslash in front is itself.
use Rattle.std.proofs.Common.{lit<}
use Rattle.std.proofs.lemmas.Str.Pattern.{strip_prefix_char}
use Rattle.ov_csv.proofs.Spelled.{text-plain}
use Rattle.ov_csv.proofs.fields.read_text.Goals as goal

pub returns-in-None : goal.returns-in-None
returns-in-None c =
    let none = rw c.in-None.is at (strip_prefix_char 92 _ _ c.strip_prefix.ensures.cases (lit< tt)) in
    text-plain _ none
