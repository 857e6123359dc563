use Rattle.std.proofs.Common.{ℕ, List, ◌++◌, ◌∷◌, [], ◌∙◌, ◌+◌, ◌/◌, ◌%◌, ap, sym, append_assoc, arith}
use Rattle.std.specs.Fmt.{decimal}
use Rattle.ov_csv.proofs.NumberDigits.{last_two}
use Rattle.ov_csv.proofs.numbers.put_few.Goals as goal

pub returns-else-number-lt100-clause-items : goal.returns-else-number-lt100-clause-items
returns-else-number-lt100-clause-items c =
    let n : ℕ = c.args.number in
    let last : List ℕ = (48 + n % 100 / 10) ∷ (48 + n % 100 % 10) ∷ [] in
    c.put_pair.ensures.items ∙ ap (λ l. l ++ last) c.put_front-else-number-lt100.ensures.items ∙ append_assoc c.args.text.now.items (decimal (n / 100)) last
    ∙ ap (λ l. c.args.text.now.items ++ l) (sym (last_two n c.if-number-lt100.false (omega (arith, c.requires.small))))
