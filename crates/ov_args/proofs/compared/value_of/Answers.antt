use Rattle.std.proofs.Common.{◌∙◌, sym, rules, arith}
use Rattle.ov_args.proofs.Numbers.{value_is}
use Rattle.ov_args.proofs.compared.value_of.Goals as goal

pub returns : goal.returns
returns c =
    c.ok.ensures.value
    ∙ value_is c.args.text.now c.parse.result c.parse.ensures.value.0 (search rules) (omega arith)
    (sym c.has_digits_alone.ensures ∙ c.if-not-has_digits_alone.false)
