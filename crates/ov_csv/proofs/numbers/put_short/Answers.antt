use Rattle.std.proofs.Common.{ℕ, List, ◌++◌, ◌∷◌, [], ◌∙◌, ◌+◌, ◌/◌, ◌%◌, ap, sym, append_assoc}
use Rattle.std.specs.Fmt.{decimal}
use Rattle.ov_csv.proofs.NumberDigits.{last_four}
use Rattle.ov_csv.proofs.numbers.put_short.Goals as goal

pub returns-else-number-lt10000 : goal.returns-else-number-lt10000
returns-else-number-lt10000 c =
    let n : ℕ = c.args.number in
    let last : List ℕ = (48 + n % 10000 / 100 / 10) ∷ (48 + n % 10000 / 100 % 10) ∷ (48 + n % 10000 % 100 / 10) ∷ (48 + n % 10000 % 100 % 10) ∷ [] in
    c.put_four.ensures ∙ ap (λ l. l ++ last) c.put_few-else-number-lt10000.ensures.items ∙ append_assoc c.args.text.now.items (decimal (n / 10000)) last
    ∙ ap (λ l. c.args.text.now.items ++ l) (sym (last_four n c.if-number-lt10000.false c.requires.small))
