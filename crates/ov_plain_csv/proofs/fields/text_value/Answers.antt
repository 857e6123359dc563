-- A text with no backslash in front is itself.
use Rattle.std.proofs.Common.{lit<}
use Rattle.std.proofs.lemmas.Str.Pattern.{strip_prefix_char}
use Rattle.ov_plain_csv.proofs.Spelled.{text-plain}
use Rattle.ov_plain_csv.proofs.fields.text_value.Goals as goal

pub returns-in_ok-new-in-None : goal.returns-in_ok-new-in-None
returns-in_ok-new-in-None c =
    let none = rw c.in-None.is at (strip_prefix_char 92 _ _ c.strip_prefix.ensures.cases (lit< tt)) in
    rw c.in_ok-new-in-None.ensures.ok (text-plain _ none)
