use Rattle.ov_match.proofs.Counts.{within_is}
use Rattle.ov_match.proofs.keeping.is_within.Goals as goal

pub returns : goal.returns
returns c = rw (c.common.ensures, c.len.ensures.count) (within_is c.args.target.now c.args.segment.now)
