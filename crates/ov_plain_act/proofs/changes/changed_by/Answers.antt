-- A dataset that has place is small.
use Rattle.ov_plain_act.proofs.Fitting.{place_small}
use Rattle.ov_plain_act.proofs.changes.changed_by.Goals as goal

pub planned-requires : goal.planned-requires
planned-requires c = place_small c.args.set c.requires.place
