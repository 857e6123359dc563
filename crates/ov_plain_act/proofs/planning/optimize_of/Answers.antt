-- A small dataset is small for the programs that compute its tree.
use Rattle.ov_plain_act.proofs.Fitting.{set_small}
use Rattle.ov_plain_act.proofs.planning.optimize_of.Goals as goal

pub begins-requires : goal.begins-requires
begins-requires c = set_small c.args.set.now c.requires
