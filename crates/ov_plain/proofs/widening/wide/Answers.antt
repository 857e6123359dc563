-- Wider records are as many.
use Rattle.std.proofs.Common.{length, ◌∙◌, ap}
use Rattle.ov_model.specs.Moves.{wide_cvd}
use Rattle.ov_model.specs.World.{stored}
use Rattle.ov_plain.proofs.Wider.{as_much}
use Rattle.ov_plain.proofs.widening.wide.Goals as goal

pub returns-in_ok-after-in-len1-up-clause-stored : goal.returns-in_ok-after-in-len1-up-clause-stored
returns-in_ok-after-in-len1-up-clause-stored c =
    ap stored c.in_ok-after-in-len1-up.ensures
    ∙ as_much (length c.args.added.now) (wide_cvd c.args.added.now c.args.set.now.cvd) c.args.set.now
