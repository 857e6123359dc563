use Rattle.std.proofs.Common.{List, subst}
use Rattle.ov_model.specs.Book.{Row}
use Rattle.ov_model.specs.Registry.{stage_name, stage_schema, table_in}
use Rattle.ov_model.specs.World.{set_named}
use Rattle.ov_staging.specs.Origins.{IsOriginOf}
use Rattle.ov_staging.specs.Reading.{IsFoundIn}
use Rattle.ov_staging.proofs.Sources.{foreign_from, rows_from}
use Rattle.ov_staging.proofs.Told.{own_so}
use Rattle.ov_staging.proofs.origins.origin_of.Goals as goal

pub returns-in-Ok-Foreign-clause-world : goal.returns-in-Ok-Foreign-clause-world
returns-in-Ok-Foreign-clause-world g c = λ w at.
    foreign_from w c.args.store.now.held (g.H.Host.state c.args.host.now) at c.args.owner.now c.args.table.now
    (subst (IsFoundIn stage_schema (set_named w stage_name)) c.in-Ok-Foreign.field-0-is (c.in-Ok-Foreign.ensures.world w at))

pub returns-in-Ok-clause-whole : goal.returns-in-Ok-clause-whole
returns-in-Ok-clause-whole g c = λ page told own. c.in-Ok-Rows.ensures.whole page told (own_so _ own)

pub returns-in-Ok-clause-world : goal.returns-in-Ok-clause-world
returns-in-Ok-clause-world g c = λ w at.
    let found = subst (IsFoundIn stage_schema (set_named w stage_name)) c.in-Ok-Rows.field-0-is (c.in-Ok-Rows.ensures.world w at)
    in let owner = c.args.owner.now
    in let table = c.args.table.now
    in rows_from w c.args.store.now.held (g.H.Host.state c.args.host.now) at owner table c.in-Ok-Rows.rows.items c.in-Ok.from found.0 found.1
    (subst (λ (l : List Row). IsOriginOf c.args.store.now.held.numbers owner table (table_in l owner table) c.in-Ok.from) c.as_slice.ensures.value c.in-Ok.ensures.of)
