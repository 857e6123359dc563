use Rattle.std.proofs.Common.{◌∙◌, subst}
use Rattle.std.specs.List.{All}
use Rattle.std.proofs.lemmas.List.{take_all}
use Rattle.std.proofs.lemmas.List.Elements.{All-more}
use Rattle.ov_value.specs.Spelling.{IsShort, IsTyped}
use Rattle.ov_registry.proofs.tables.are_spelled.Goals as goal

pub loop-value-preserved : goal.loop-value-preserved
loop-value-preserved c =
    let values = c.values-values.result.now
    in let i = c.loop-value.value-index
    in let value = c.value-item.result
    in let both = c.is_spelled.ensures c.if-not-is_spelled.false
    in record {
      typed = All-more IsTyped values i value c.loop-value-test.true c.loop-value.invariant.typed (subst IsTyped c.value-item.is both.0);
      short = All-more IsShort values i value c.loop-value-test.true c.loop-value.invariant.short (subst IsShort c.value-item.is both.1);
    }

pub returns-clause-typed : goal.returns-clause-typed
returns-clause-typed c = λ yes.
    subst (All IsTyped) (take_all c.loop-value.value-index c.values-values.result.now c.loop-value-test.false ∙ c.values-values.ensures) c.loop-value.invariant.typed

pub returns-clause-short : goal.returns-clause-short
returns-clause-short c = λ yes.
    subst (All IsShort) (take_all c.loop-value.value-index c.values-values.result.now c.loop-value-test.false ∙ c.values-values.ensures) c.loop-value.invariant.short
