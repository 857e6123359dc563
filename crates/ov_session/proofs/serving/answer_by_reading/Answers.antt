use Rattle.std.proofs.Common.{refl, sym, ap, subst}
use Rattle.std.proofs.lemmas.Result.{IfOk-weaker}
use Rattle.ov_host.specs.Host.{State}
use Rattle.law_runs.specs.Serving.{session_of}
use Rattle.ov_model.specs.Act.{tells}
use Rattle.ov_model.specs.declared.command.Command.{Command}
use Rattle.ov_model.specs.declared.command.Command.TheVariants as asks
use Rattle.ov_query.specs.Queries.{query_off}
use Rattle.ov_store.proofs.Finishing.{may_call_later}
use Rattle.ov_store.specs.Scanning.{set_in}
use Rattle.ov_session.proofs.Answered.{quiet_served, registered_served, same_stage}
use Rattle.ov_session.proofs.Bounds.{off_there}
use Rattle.ov_session.proofs.Choices.{advise_there, looked_acts}
use Rattle.ov_session.proofs.Numbering.{journal_looked}
use Rattle.ov_session.proofs.Querying.{query_acts}
use Rattle.ov_session.proofs.Registered.{whoami_registered}
use Rattle.ov_session.proofs.Replying.{seen_missed}
use Rattle.ov_session.proofs.Rows.{damages_wider, map_ok, run_damaged, run_fetched, run_met, run_refused}
use Rattle.ov_session.proofs.Standing.{at_looked, on_any, result_unmoved}
use Rattle.ov_session.specs.Serving.{IsServed, IsServedAlone}
use Rattle.ov_session.proofs.serving.answer_by_reading.Goals as goal

pub returns-in-Run : goal.returns-in-Run
returns-in-Run g c = λ stage.
    let user = c.args.user.now
    in let k = c.args.store.now
    in let old = g.H.Host.state c.args.host.now
    in let new = g.H.Host.state c.run_query.new.host
    in let text = c.in-Run.text
    in let r = c.run_query.result
    in let f = c.run_query.ensures
    in subst (λ (command : Command). IsServed user user command r k k stage stage old new) (sym c.in-Run.is)
    (record {
      goes = record { told = f.looked.told; kept = f.looked.kept; faults = f.looked.faults; fetched = f.looked.fetched };
      attended = same_stage stage;
      still = λ reads. refl;
      fetched = run_fetched k.held.numbers user text old.fetched new.fetched f.fetched;
      unread = λ is.
          let there = off_there (query_off k.held.numbers user text) (run_refused k.held.numbers user text is)
          in ap (λ (s : State). s.fetched) (f.unread there.0 there.1);
      cause = f.cause;
      stage_cause = λ is. absurd (f.host_alone is);
      damaged = damages_wider _ _ r (run_damaged user text stage k.held k.held new) f.damaged;
      undamaged = f.undamaged;
      whole = λ page told. map_ok _ _ r (λ clear met. clear (run_met user text stage k.held old page met)) (f.whole page told);
      missed = seen_missed _ r f.seen;
      idle = result_unmoved k k stage stage old new r (record { store = refl; looked = f.looked }) refl;
      begins_none = λ quiet none. on_any _ r none;
      usable = on_any _ r (may_call_later k old new f.looked c.requires.call);
      by_journal = λ by fine. journal_looked k.held old new f.looked by;
      at = λ w at. on_any _ r (at_looked w k.held old new at f.looked);
      acts = λ w told at.
          let s = session_of stage.files user
          in query_acts w s text k.held old new at f.looked r (f.told w s at refl);
    })

pub returns-in-Advise : goal.returns-in-Advise
returns-in-Advise g c = λ stage.
    let user = c.args.user.now
    in let k = c.args.store.now
    in let old = g.H.Host.state c.args.host.now
    in let new = g.H.Host.state c.advise.new.host
    in let r = c.advise.result
    in let f = c.advise.ensures
    in subst (λ (command : Command). IsServed user user command r k k stage stage old new) (sym c.in-Advise.is)
    (record {
      goes = record { told = f.looked.told; kept = f.looked.kept; faults = f.looked.faults; fetched = f.looked.fetched };
      attended = same_stage stage;
      still = λ reads. refl;
      fetched = f.fetched;
      unread = λ is.
          let there = advise_there c.in-Advise.cvd c.in-Advise.a c.in-Advise.b (set_in k.held.numbers c.in-Advise.cvd) is
          in ap (λ (s : State). s.fetched) (f.unread there.0 there.1);
      cause = f.cause;
      stage_cause = λ is. absurd (f.host_alone is);
      damaged = f.damaged;
      undamaged = f.undamaged;
      whole = f.whole;
      missed = seen_missed _ r f.seen;
      idle = result_unmoved k k stage stage old new r (record { store = refl; looked = f.looked }) refl;
      begins_none = λ quiet none. on_any _ r none;
      usable = on_any _ r (may_call_later k old new f.looked c.requires.call);
      by_journal = λ by fine. journal_looked k.held old new f.looked by;
      at = λ w at. on_any _ r (at_looked w k.held old new at f.looked);
      acts = λ w told at.
          let s = session_of stage.files user
          in looked_acts _ s w k.held old new at f.looked r (f.told w s at);
    })

pub returns-in-Layout : goal.returns-in-Layout
returns-in-Layout g c =
    let user = c.args.user.now
    in let k = c.args.store.now
    in let s = g.H.Host.state c.args.host.now
    in let f = c.layout.ensures
    in subst (λ (command : Command). IsServedAlone user user command c.layout.result k k s s) (sym c.in-Layout.is)
    (quiet_served user (asks.Layout c.in-Layout.cvd) k s c.layout.result c.requires.call (λ stage page met. met.1) (λ w t at. f.told w t s at) f.seen f.memory
    (λ stage idle. idle))

pub returns-in-Log : goal.returns-in-Log
returns-in-Log g c =
    let user = c.args.user.now
    in let k = c.args.store.now
    in let s = g.H.Host.state c.args.host.now
    in let f = c.log.ensures
    in subst (λ (command : Command). IsServedAlone user user command c.log.result k k s s) (sym c.in-Log.is)
    (quiet_served user (asks.Log c.in-Log.cvd) k s c.log.result c.requires.call (λ stage page met. met.1) (λ w t at. f.told w t s at) f.seen f.memory
    (λ stage idle. idle))

pub returns-in-Ls : goal.returns-in-Ls
returns-in-Ls g c =
    let user = c.args.user.now
    in let k = c.args.store.now
    in let s = g.H.Host.state c.args.host.now
    in let f = c.ls.ensures
    in subst (λ (command : Command). IsServedAlone user user command c.ls.result k k s s) (sym c.in-Ls.is)
    (quiet_served user asks.Ls k s c.ls.result c.requires.call (λ stage page met. met.1)
    (λ w t at. IfOk-weaker c.ls.result _ _ (λ reply is. ap (tells t) (sym is)) (f.told w t s at)) f.seen f.memory
    (λ stage idle. idle))

pub returns-in-Whoami : goal.returns-in-Whoami
returns-in-Whoami g c =
    let user = c.args.user.now
    in let k = c.args.store.now
    in let s = g.H.Host.state c.args.host.now
    in let f = c.whoami.ensures
    in subst (λ (command : Command). IsServedAlone user user command c.whoami.result k k s s) (sym c.in-Whoami.is)
    (registered_served user user asks.Whoami c.whoami.result k k s s (λ stage idle. idle)
    (whoami_registered user k s c.whoami.result c.requires.call f.reply f.memory))

pub returns-in-Tables : goal.returns-in-Tables
returns-in-Tables g c =
    let user = c.args.user.now
    in let k = c.args.store.now
    in let old = g.H.Host.state c.args.host.now
    in let new = g.H.Host.state c.tables.new.host
    in subst (λ (command : Command). IsServedAlone user user command c.tables.result k k old new) (sym c.in-Tables.is)
    (registered_served user user asks.Tables c.tables.result k k old new (λ stage idle. idle) c.tables.ensures)
