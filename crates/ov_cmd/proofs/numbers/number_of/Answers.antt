use Rattle.std.proofs.Common.{◌∙◌, sym, ap, rules}
use Rattle.std.specs.Char.{is_ascii_digit}
use Rattle.std.specs.List.{list_all}
use Rattle.ov_cmd.proofs.Numerals.{number_is}
use Rattle.ov_cmd.proofs.numbers.number_of.Goals as goal

pub returns : goal.returns
returns c =
    c.ok.ensures.value
    ∙ number_is c.args.word.now c.parse.result c.parse.ensures.value.0 (search rules) c.if-word-gt18.false
    (ap (list_all is_ascii_digit) (sym c.as_bytes.ensures.value) ∙ sym c.has_digits_alone.ensures ∙ c.if-not-has_digits_alone.false)
