use Rattle.ov_plain.proofs.cuts.+cut_within.Given as goal

abbrev pub decreases-cut_within : goal.decreases-cut_within
decreases-cut_within l = l.levels
