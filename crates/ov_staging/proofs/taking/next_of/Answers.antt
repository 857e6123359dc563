use Rattle.ov_model.specs.Registry.{stage_name, stage_schema}
use Rattle.ov_model.specs.World.{set_named}
use Rattle.ov_store.specs.Scanning.{set_in}
use Rattle.ov_staging.specs.Taking.{stage_change}
use Rattle.ov_staging.proofs.Told.{next_by, next_in, own_so}
use Rattle.ov_staging.proofs.taking.next_of.Goals as goal

pub returns-in-Ok-decided-clause-next : goal.returns-in-Ok-decided-clause-next
returns-in-Ok-decided-clause-next g c =
    next_by stage_schema (stage_change c.args.owner.now c.args.table.now c.args.row.now) (set_in c.args.store.now.held.numbers stage_name) (g.H.Host.state c.args.host.now)
    c.in-Ok.found c.in-Ok-decided.next c.in-Ok-decided.ensures.decided c.in-Ok.ensures.own c.in-Ok.ensures.last

pub returns-in-Ok-decided-clause-whole : goal.returns-in-Ok-decided-clause-whole
returns-in-Ok-decided-clause-whole g c = λ page told own. c.in-Ok.ensures.whole page told (own_so _ own)

pub returns-in-Ok-decided-clause-world : goal.returns-in-Ok-decided-clause-world
returns-in-Ok-decided-clause-world g c = λ w at.
    next_in stage_schema (stage_change c.args.owner.now c.args.table.now c.args.row.now) (set_named w stage_name) c.in-Ok.found c.in-Ok-decided.next c.in-Ok-decided.ensures.decided
    (c.in-Ok.ensures.world w at)
