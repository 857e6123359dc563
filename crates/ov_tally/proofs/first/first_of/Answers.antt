use Rattle.ov_tally.proofs.Cutting.{first_ranked}
use Rattle.ov_tally.proofs.first.first_of.Goals as goal

pub returns : goal.returns
returns c = first_ranked c.args.bound c.args.count c.args.pairs.now c.in_ok-kept.kept.items _ c.in_ok-kept.ensures c.in_ok-keep_first.ensures c.requires
