use Rattle.ov_model.specs.Registry.{stage_name}
use Rattle.ov_model.specs.World.{set_named}
use Rattle.ov_staging.proofs.Told.{own_so, shown_told}
use Rattle.ov_staging.proofs.staged.tables.Goals as goal

pub returns-in-Ok-shown-clause-whole : goal.returns-in-Ok-shown-clause-whole
returns-in-Ok-shown-clause-whole g c = λ page told own. c.in-Ok.ensures.whole page told (own_so _ own)

pub returns-in-Ok-shown-clause-world : goal.returns-in-Ok-shown-clause-world
returns-in-Ok-shown-clause-world g c = λ w at.
    shown_told c.args.user.now (set_named w stage_name) c.in-Ok.found c.in-Ok-shown.reply c.in-Ok-shown.ensures (c.in-Ok.ensures.world w at)
