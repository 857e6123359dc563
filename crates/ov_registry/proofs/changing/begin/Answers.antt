use Rattle.ov_store.specs.Beginning.{first_move}
use Rattle.ov_store.specs.Worlds.{begin_refusal}
use Rattle.ov_model.specs.World.{set_named}
use Rattle.ov_store.proofs.Deciding.{none_named}
use Rattle.ov_registry.specs.Changing.{changes_to}
use Rattle.ov_registry.proofs.Deeds.{begin_done, begin_refused, done_by, ends_by, spared_by}
use Rattle.ov_registry.proofs.changing.begin.Goals as goal

pub returns-in-Ok-clause-acts : goal.returns-in-Ok-clause-acts
returns-in-Ok-clause-acts g c = λ w s t reply at.
    let name = c.args.name.now
    in let schema = c.args.schema
    in let rows = c.args.rows
    in let old = g.H.Host.state c.args.host.now
    in let free = none_named w c.args.store.now.held old at name c.requires.free
    in done_by w s t (changes_to w s t name schema rows reply (set_named w name)) (first_move name schema rows) reply name (begin_refusal w name schema rows)
    (begin_refused w name schema rows free c.requires.once c.requires.ordered s t reply) (begin_done w name schema rows free c.requires.once c.requires.ordered s t reply)
    c.args.store.now c.init.new.self old (g.H.Host.state c.init.new.host) at
    (c.in-Ok.ensures.refused w at) (c.init.ensures.stops w at) (c.in-Ok.ensures.moves w at) (λ entry past within. c.in-Ok.ensures.room w entry past at within)

pub returns-in-Err-clause-acts : goal.returns-in-Err-clause-acts
returns-in-Err-clause-acts g c = λ w s t reply at.
    let name = c.args.name.now
    in let schema = c.args.schema
    in let rows = c.args.rows
    in let old = g.H.Host.state c.args.host.now
    in let free = none_named w c.args.store.now.held old at name c.requires.free
    in ends_by w s t (changes_to w s t name schema rows reply (set_named w name)) (first_move name schema rows) reply name (begin_refusal w name schema rows)
    (begin_refused w name schema rows free c.requires.once c.requires.ordered s t reply) (begin_done w name schema rows free c.requires.once c.requires.ordered s t reply)
    c.args.store.now c.init.new.self old (g.H.Host.state c.init.new.host) at
    c.in-Err.off (c.in-Err.ensures.refused w at) (λ entry past within. c.in-Err.ensures.room w entry past at within) c.in-Err.ensures.stays (c.init.ensures.stops w at)
    (λ refusal is. c.init.ensures.still w refusal at is)

pub returns-in-Err-clause-undamaged : goal.returns-in-Err-clause-undamaged
returns-in-Err-clause-undamaged g c = λ w at. spared_by c.args.name.now (begin_refusal w c.args.name.now c.args.schema c.args.rows) c.in-Err.off (c.in-Err.ensures.refused w at)
