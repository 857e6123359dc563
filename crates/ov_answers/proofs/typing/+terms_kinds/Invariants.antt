use Rattle.std.proofs.Common.{length}
use Rattle.ov_answers.proofs.typing.+terms_kinds.Given as goal

abbrev pub decreases-terms_kinds : goal.decreases-terms_kinds
decreases-terms_kinds l = length l.terms.now
