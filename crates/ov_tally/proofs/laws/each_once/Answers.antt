use Rattle.std.proofs.lemmas.List.Elements.{recursion_from_All}
use Rattle.ov_tally.specs.Spans.{AreApart}
use Rattle.ov_tally.proofs.Tallies.{apart_has, apart_versions}
use Rattle.ov_tally.proofs.laws.each_once.Goals as goal

pub returns-clause-ranges : goal.returns-clause-ranges
returns-clause-ranges c = apart_has

pub returns-clause-versions : goal.returns-clause-versions
returns-clause-versions c versions p apart = apart_versions versions p (recursion_from_All (λ spans. AreApart spans.items) versions apart)
