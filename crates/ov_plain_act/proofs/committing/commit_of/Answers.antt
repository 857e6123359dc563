-- Parents that are accepted fit 32 bits.
use Rattle.std.proofs.Common.{sym}
use Rattle.ov_plain_act.proofs.Accepting.{all_fit}
use Rattle.ov_plain_act.proofs.committing.commit_of.Goals as goal

pub commit_onto-requires-clause-fit : goal.commit_onto-requires-clause-fit
commit_onto-requires-clause-fit c = all_fit c.args.set.now c.args.asked.now.vids.now (sym (rw c.in-None.is at c.in_ok-refusal.ensures))
