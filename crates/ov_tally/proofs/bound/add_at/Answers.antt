use Rattle.std.proofs.Common.{rules, ◌^◌}
use Rattle.std.specs.Prelude.{pos}
use Rattle.ov_tally.proofs.Bounds.{set_near}
use Rattle.ov_tally.proofs.Marks.{set_high}
use Rattle.ov_tally.proofs.bound.add_at.Goals as goal

pub returns-clause-high : goal.returns-clause-high
returns-clause-high c p low = set_high c.args.sums.now.items c.args.at p _ c.args.by (pos 0) c.requires.there low (search rules)

pub returns-clause-within : goal.returns-clause-within
returns-clause-within c n all = set_near n (2 ^ 63) c.args.sums.now.items c.args.at _ c.total_at-now.result (search rules) c.requires.there (search rules) (search rules) all
