use Rattle.ov_model.specs.World.{set_named}
use Rattle.ov_registry.specs.Last.{name_of, schema_of}
use Rattle.ov_store.specs.Scanning.{set_in}
use Rattle.ov_staging.specs.Deciding.{change_of}
use Rattle.ov_staging.proofs.Told.{foreign_is, next_by, next_in, next_refused, own_so}
use Rattle.ov_staging.proofs.deciding.next_of.Goals as goal

pub returns-in-Ok-decided-clause-unread : goal.returns-in-Ok-decided-clause-unread
returns-in-Ok-decided-clause-unread g c = λ refusal is.
    let set = set_in c.args.store.now.held.numbers (name_of c.args.which)
    in (
      c.read.ensures.unread (foreign_is (schema_of c.args.which) set refusal is),
      next_refused (schema_of c.args.which) (change_of c.args.asked.now) set c.in-Ok.found c.in-Ok-decided.next refusal c.in-Ok-decided.ensures.decided c.in-Ok.ensures.own is,
    )

pub returns-in-Ok-decided-clause-next : goal.returns-in-Ok-decided-clause-next
returns-in-Ok-decided-clause-next g c =
    next_by (schema_of c.args.which) (change_of c.args.asked.now) (set_in c.args.store.now.held.numbers (name_of c.args.which)) (g.H.Host.state c.args.host.now)
    c.in-Ok.found c.in-Ok-decided.next c.in-Ok-decided.ensures.decided c.in-Ok.ensures.own c.in-Ok.ensures.last

pub returns-in-Ok-decided-clause-whole : goal.returns-in-Ok-decided-clause-whole
returns-in-Ok-decided-clause-whole g c = λ page told own. c.in-Ok.ensures.whole page told (own_so _ own)

pub returns-in-Ok-decided-clause-world : goal.returns-in-Ok-decided-clause-world
returns-in-Ok-decided-clause-world g c = λ w at.
    next_in (schema_of c.args.which) (change_of c.args.asked.now) (set_named w (name_of c.args.which)) c.in-Ok.found c.in-Ok-decided.next c.in-Ok-decided.ensures.decided
    (c.in-Ok.ensures.world w at)
