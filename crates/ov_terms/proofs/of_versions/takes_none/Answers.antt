use Rattle.std.proofs.Common.{◌∷◌, [], ap}
use Rattle.ov_model.specs.Answers.{is_true}
use Rattle.ov_terms.proofs.of_versions.takes_none.Goals as goal

pub returns-in-Some : goal.returns-in-Some
returns-in-Some c = λ true pair. rw c.in-Some.is (ap is_true (c.is_never.ensures true (pair ∷ [])))
