use Rattle.std.proofs.Common.{◌∙◌}
use Rattle.std.specs.Cmp.Lexicographic.{texts_ties}
use Rattle.ov_value.proofs.value.ValuePartialEq.eq.Goals as goal

-- texts are equal where their order ties
pub returns-in-Text-Text-clause-tied : goal.returns-in-Text-Text-clause-tied
returns-in-Text-Text-clause-tied c = rw (c.in-Text-Text.is-0, c.in-Text-Text.is-1) (c.eq.ensures.pointwise ∙ texts_ties c.in-Text-Text.x c.in-Text-Text.y)
