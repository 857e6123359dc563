use Rattle.std.proofs.Common.{rules}
use Rattle.ov_tally.proofs.Marks.{times_fit}
use Rattle.ov_tally.proofs.times.times_of.Goals as goal

pub summed-requires : goal.summed-requires
summed-requires c p low = times_fit c.args.versions.now p _ c.requires.few c.requires.short (search (rules, c.in_ok-marks.ensures.totals p))
