use Rattle.std.proofs.Common.{length}
use Rattle.ov_plain.proofs.widening.+wide_versions.Given as goal

abbrev pub decreases-wide_versions : goal.decreases-wide_versions
decreases-wide_versions l = length l.versions.now
