use Rattle.ov_tally.proofs.Tallies.{covers_often, times_often}
use Rattle.ov_tally.proofs.laws.times_are_places.Goals as goal

pub returns-clause-ranges : goal.returns-clause-ranges
returns-clause-ranges c = covers_often

pub returns-clause-versions : goal.returns-clause-versions
returns-clause-versions c = times_often
