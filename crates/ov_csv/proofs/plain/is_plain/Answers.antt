use Rattle.std.proofs.Common.{sym, ◌∙◌}
use Rattle.ov_csv.proofs.PlainLemmas.{plain_of, not_true}
use Rattle.ov_csv.proofs.plain.is_plain.Goals as goal

pub returns-then-not-contains : goal.returns-then-not-contains
returns-then-not-contains c = λ yes.
    plain_of c.args.bytes.now (sym c.contains.ensures.value ∙ c.if-not-contains.true) (sym c.contains-then-not-contains.ensures.value ∙ not_true c.contains-then-not-contains.result yes)
