use Rattle.std.proofs.Common.{◌++◌, ◌∙◌, ap, sym}
use Rattle.std.proofs.lemmas.Fmt.{decimal_digit}
use Rattle.ov_csv.proofs.NumberDigits.{two_digits}
use Rattle.ov_csv.proofs.numbers.put_front.Goals as goal

pub returns-then-number-lt10-clause-items : goal.returns-then-number-lt10-clause-items
returns-then-number-lt10-clause-items c = c.push_reserved.ensures.items ∙ ap (λ l. c.args.text.now.items ++ l) (sym (decimal_digit c.args.number c.if-number-lt10.true))

pub returns-else-number-lt10-clause-items : goal.returns-else-number-lt10-clause-items
returns-else-number-lt10-clause-items c = c.put_pair.ensures.items ∙ ap (λ l. c.args.text.now.items ++ l) (sym (two_digits c.args.number c.if-number-lt10.false c.requires.small))
