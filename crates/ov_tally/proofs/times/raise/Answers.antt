use Rattle.std.proofs.Common.{rules}
use Rattle.std.specs.Prelude.{pos}
use Rattle.ov_tally.proofs.Marks.{set_high, set_within}
use Rattle.ov_tally.proofs.times.raise.Goals as goal

pub returns-clause-high : goal.returns-clause-high
returns-clause-high c p low = set_high c.args.sums.now.items c.args.at p _ c.args.by (pos 0) c.requires.there low (search rules)

pub returns-clause-within : goal.returns-clause-within
returns-clause-within c n all = set_within n c.args.sums.now.items c.args.at _ c.args.by (pos 0) c.requires.there c.requires.down c.requires.up (search rules) all
