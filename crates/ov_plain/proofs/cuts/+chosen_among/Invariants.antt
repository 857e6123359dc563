use Rattle.std.proofs.Common.{length}
use Rattle.ov_plain.proofs.cuts.+chosen_among.Given as goal

abbrev pub decreases-chosen_among : goal.decreases-chosen_among
decreases-chosen_among l = length l.vids.now
