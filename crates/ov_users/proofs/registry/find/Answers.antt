use Rattle.std.proofs.Common.{refl}
use Rattle.std.proofs.lemmas.Iterator.Adapters.{position_from-zero}
use Rattle.ov_model.specs.Registry.{is_table}
use Rattle.ov_users.proofs.registry.find.Goals as goal

pub loop-row-init : goal.loop-row-init
loop-row-init c = (refl, position_from-zero (is_table c.args.owner.now c.args.name.now) c.args.rows.now)
