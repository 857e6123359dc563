use Rattle.std.proofs.Common.{◌≡◌, []}
use Rattle.std.specs.Prelude.{None}
use Rattle.ov_generate.specs.Reads.{HasDamagedVersion}
use Rattle.ov_model.specs.Act.{Session}
use Rattle.ov_model.specs.Deed.{permitted}
use Rattle.ov_model.specs.declared.command.Command.TheVariants as asks
use Rattle.ov_session.proofs.Dealing.{result_spared}
use Rattle.ov_session.proofs.Making.{acts_silently, ends_acts, err_same, fetched_fault, host_ends, ok_spared, result_damage}
use Rattle.ov_session.proofs.Replying.{result_seen}
use Rattle.ov_store.specs.declared.errors.StoreErr.TheVariants as why
use Rattle.ov_store.specs.Kept.{MayCall}
use Rattle.law_steps.specs.Turns.{running}
use Rattle.ov_session.proofs.Idling.{generated_none}
use Rattle.ov_session.proofs.generating.make_versions.Goals as goal

pub returns-in-Ok-clause-fetched : goal.returns-in-Ok-clause-fetched
returns-in-Ok-clause-fetched g c =
    let a = c.args.wanted
    in fetched_fault a.cvd a.seed a.rows a.versions c.args.store.now.held c.generate.new.store.held _ _ (g.H.Host.state c.args.host.now) (g.H.Host.state c.generate.new.host)
    c.generate.ensures.fetched (λ is. cc)

pub returns-in-Err-clause-fetched : goal.returns-in-Err-clause-fetched
returns-in-Err-clause-fetched g c =
    let a = c.args.wanted
    in fetched_fault a.cvd a.seed a.rows a.versions c.args.store.now.held c.generate.new.store.held _ _ (g.H.Host.state c.args.host.now) (g.H.Host.state c.generate.new.host)
    c.generate.ensures.fetched (λ is. host_ends a.cvd c.in-Err.off c.refused.result c.refused.ensures.reply c.refused.ensures.end (err_same c.generate.result c.in-Err.off why.Host c.in-Err.is is))

pub returns-in-Ok-clause-usable : goal.returns-in-Ok-clause-usable
returns-in-Ok-clause-usable g c = c.generate.ensures.usable (λ is. let no = c.in-Ok.is in cc)

pub returns-in-Err-clause-usable : goal.returns-in-Err-clause-usable
returns-in-Err-clause-usable g c =
    ok_spared (MayCall c.generate.new.store (g.H.Host.state c.generate.new.host)) c.args.wanted.cvd c.in-Err.off c.refused.result c.refused.ensures.reply
    (λ fine. c.generate.ensures.usable (λ is. fine (err_same c.generate.result c.in-Err.off why.Host c.in-Err.is is)))

pub returns-in-Ok-clause-by_journal : goal.returns-in-Ok-clause-by_journal
returns-in-Ok-clause-by_journal g c = λ by fine. c.generate.ensures.by_journal by (λ is. let no = c.in-Ok.is in cc)

pub returns-in-Err-clause-by_journal : goal.returns-in-Err-clause-by_journal
returns-in-Err-clause-by_journal g c = λ by fine.
    c.generate.ensures.by_journal by
    (λ is. fine (host_ends c.args.wanted.cvd c.in-Err.off c.refused.result c.refused.ensures.reply c.refused.ensures.end (err_same c.generate.result c.in-Err.off why.Host c.in-Err.is is)))

pub returns-in-Err-clause-damaged : goal.returns-in-Err-clause-damaged
returns-in-Err-clause-damaged g c =
    let a = c.args.wanted
    in result_damage (HasDamagedVersion a.cvd a.seed a.rows a.versions c.args.store.now.held c.generate.new.store.held (g.H.Host.state c.generate.new.host)) c.in-Err.off c.refused.result
    c.refused.ensures.end c.in-Err.ensures.damaged

pub returns-in-Err-clause-undamaged : goal.returns-in-Err-clause-undamaged
returns-in-Err-clause-undamaged g c = λ w at. result_spared c.in-Err.off c.refused.result c.refused.ensures.end (c.in-Err.ensures.undamaged w at)

pub returns-in-Ok-clause-seen : goal.returns-in-Ok-clause-seen
returns-in-Ok-clause-seen g c = λ name is. cc

pub returns-in-Err-clause-seen : goal.returns-in-Err-clause-seen
returns-in-Err-clause-seen g c = result_seen c.args.wanted.cvd c.in-Err.off c.refused.result c.refused.ensures.reply

pub returns-in-Ok-clause-acts : goal.returns-in-Ok-clause-acts
returns-in-Ok-clause-acts g c = λ w s at. c.in-Ok.ensures.acts w s at

pub returns-in-Err-clause-acts : goal.returns-in-Err-clause-acts
returns-in-Err-clause-acts g c = λ w s at.
    ends_acts c.args.wanted.cvd _ s w c.args.store.now.held c.generate.new.store.held (g.H.Host.state c.args.host.now) (g.H.Host.state c.generate.new.host)
    c.in-Err.off c.refused.result c.refused.ensures.reply c.refused.ensures.end (c.in-Err.ensures.acts w s at)

pub returns-in-Ok-clause-at : goal.returns-in-Ok-clause-at
returns-in-Ok-clause-at g c = λ w at.
    let s : Session = record { files = λ n. None; user = [] }
    in let does = c.in-Ok.ensures.acts w s at
    in record { at = (does.world, does.at); printed = does.printed }

pub returns-in-Err-clause-at : goal.returns-in-Err-clause-at
returns-in-Err-clause-at g c = λ w at.
    let s : Session = record { files = λ n. None; user = [] }
    in let a = c.args.wanted
    in acts_silently (permitted w s (asks.Generate a.cvd a.seed a.rows a.versions)) s s w c.refused.result c.args.store.now.held c.generate.new.store.held
    (g.H.Host.state c.args.host.now) (g.H.Host.state c.generate.new.host)
    (ends_acts a.cvd _ s w c.args.store.now.held c.generate.new.store.held (g.H.Host.state c.args.host.now) (g.H.Host.state c.generate.new.host)
    c.in-Err.off c.refused.result c.refused.ensures.reply c.refused.ensures.end (c.in-Err.ensures.acts w s at))

pub returns-in-Ok-clause-begins_none : goal.returns-in-Ok-clause-begins_none
returns-in-Ok-clause-begins_none g c = λ none.
    let a = c.args.wanted
    in generated_none a.cvd a.seed a.rows a.versions c.args.store.now.held c.generate.new.store.held _ (g.H.Host.state c.args.host.now) (g.H.Host.state c.generate.new.host)
    c.generate.ensures.fetched (λ is. let no = c.in-Ok.is in cc) none

pub returns-in-Err-clause-begins_none : goal.returns-in-Err-clause-begins_none
returns-in-Err-clause-begins_none g c = λ none.
    let a = c.args.wanted
    in ok_spared (running c.generate.new.store.held.numbers ≡ None) a.cvd c.in-Err.off c.refused.result c.refused.ensures.reply
    (λ fine. generated_none a.cvd a.seed a.rows a.versions c.args.store.now.held c.generate.new.store.held _ (g.H.Host.state c.args.host.now) (g.H.Host.state c.generate.new.host)
    c.generate.ensures.fetched (λ is. fine (err_same c.generate.result c.in-Err.off why.Host c.in-Err.is is)) none)
