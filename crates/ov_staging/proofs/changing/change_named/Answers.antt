use Rattle.std.proofs.Common.{◌≡◌, ℕ, List, inl, refl, subst}
use Rattle.std.specs.Prelude.{IfOk, Some}
use Rattle.ov_model.specs.Deed.{changes}
use Rattle.ov_model.specs.World.{set_named}
use Rattle.ov_registry.specs.Last.{name_of, schema_of}
use Rattle.ov_store.specs.Scanning.{set_in}
use Rattle.ov_staging.specs.Errors.{reply_of}
use Rattle.ov_staging.proofs.Ended.{ends_act, refused_as, result_end, result_journal, result_stays, result_undamaged, result_usable}
use Rattle.ov_staging.proofs.changing.change_named.Goals as goal

pub returns-in-Ok-clause-done : goal.returns-in-Ok-clause-done
returns-in-Ok-clause-done g c = inl (refl, c.in-Ok.ensures.done)

pub returns-in-Err-clause-done : goal.returns-in-Err-clause-done
returns-in-Err-clause-done g c =
    refused_as c.args.which (set_in c.args.store.now.held.numbers (name_of c.args.which)) c.args.rows.now c.args.said c.args.store.now c.change.new.store
    (g.H.Host.state c.args.host.now) (g.H.Host.state c.change.new.host) c.args.name c.requires.name c.in-Err.off c.refused.result c.refused.ensures.reply c.in-Err.ensures.why c.in-Err.ensures.stays

pub returns-in-Err-clause-why : goal.returns-in-Err-clause-why
returns-in-Err-clause-why g c =
    result_end c.args.which c.args.rows.now c.args.store.now.held
    (g.H.Host.state c.args.host.now) (g.H.Host.state c.change.new.host) c.in-Err.off c.refused.result c.refused.ensures.end c.in-Err.ensures.why

pub returns-in-Err-clause-stays : goal.returns-in-Err-clause-stays
returns-in-Err-clause-stays g c =
    result_stays c.args.store.now c.change.new.store (g.H.Host.state c.args.host.now) (g.H.Host.state c.change.new.host) c.in-Err.off c.refused.result c.refused.ensures.end c.in-Err.ensures.stays

pub returns-in-Err-clause-usable : goal.returns-in-Err-clause-usable
returns-in-Err-clause-usable g c =
    result_usable c.args.store.now c.change.new.store (g.H.Host.state c.args.host.now) (g.H.Host.state c.change.new.host) c.args.name c.in-Err.off c.refused.result
    c.refused.ensures.reply c.in-Err.ensures.stays c.requires.call

pub returns-in-Err-clause-by_journal : goal.returns-in-Err-clause-by_journal
returns-in-Err-clause-by_journal g c = λ by.
    result_journal c.args.store.now c.change.new.store (g.H.Host.state c.args.host.now) (g.H.Host.state c.change.new.host) c.args.name c.in-Err.off c.refused.result
    c.refused.ensures.reply c.in-Err.ensures.stays by

pub returns-in-Err-clause-undamaged : goal.returns-in-Err-clause-undamaged
returns-in-Err-clause-undamaged g c = λ w at. result_undamaged c.in-Err.off c.refused.result c.refused.ensures.end (c.in-Err.ensures.undamaged w at)

pub returns-in-Ok-clause-acts : goal.returns-in-Ok-clause-acts
returns-in-Ok-clause-acts g c = λ w s at. c.in-Ok.ensures.acts w s s c.args.said at

pub returns-in-Err-clause-acts : goal.returns-in-Err-clause-acts
returns-in-Err-clause-acts g c = λ w s at.
    let d = changes w s s (name_of c.args.which) (schema_of c.args.which) c.args.rows.now c.args.said (set_named w (name_of c.args.which))
    in ends_act (name_of c.args.which) d s w c.args.store.now.held c.change.new.store.held (g.H.Host.state c.args.host.now) (g.H.Host.state c.change.new.host)
    c.in-Err.off c.refused.result (subst (λ (n : List ℕ). IfOk c.refused.result (λ reply. reply_of n c.in-Err.off ≡ Some reply)) c.requires.name c.refused.ensures.reply)
    c.refused.ensures.end (c.in-Err.ensures.acts w s s c.args.said at)
