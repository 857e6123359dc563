use Rattle.std.proofs.Common.{length}
use Rattle.ov_answers.proofs.typing.+keys_kinds.Given as goal

abbrev pub decreases-keys_kinds : goal.decreases-keys_kinds
decreases-keys_kinds l = length l.keys.now
