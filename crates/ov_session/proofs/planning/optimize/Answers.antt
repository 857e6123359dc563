use Rattle.std.proofs.Common.{◌≡◌, ◌∙◌, ◌+◌, ℕ, List, Some, None, sym, ap, subst}
use Rattle.std.specs.Prelude.{◌≤◌, IfErr, OnOk}
use Rattle.ov_model.specs.Act.{optimize_deed}
use Rattle.ov_model.specs.World.{set_named}
use Rattle.ov_model.specs.declared.reply.Reply.TheVariants as says
use Rattle.law_runs.specs.Serving.{Does}
use Rattle.ov_session.proofs.Plans.{begun_whole, on_reply, plan_at, plan_cause, plan_damaged, plan_done, plan_fetched, plan_idle, plan_off_by, plan_seen, plan_spared, refused_whole, some_refused, spared_host}
use Rattle.ov_session.proofs.Standing.{at_next}
use Rattle.ov_session.proofs.Taking.{journal_still, may_call}
use Rattle.ov_session.specs.Bounds.{plan_fetch}
use Rattle.ov_session.specs.Commands.{Acts, IsDamageOf, IsPlanDamaged}
use Rattle.ov_session.specs.Errors.{plan_reply}
use Rattle.ov_session.specs.Standing.{IsAtSilently}
use Rattle.ov_store.specs.Kept.{MayCall}
use Rattle.ov_store.specs.Planning.{begun_in, optimize_off, optimize_refused}
use Rattle.ov_store.specs.Scanning.{set_in}
use Rattle.std.specs.Prelude.{IfOk}
use Rattle.ov_session.proofs.planning.optimize.Goals as goal

pub returns-in-Ok-clause-goes : goal.returns-in-Ok-clause-goes
returns-in-Ok-clause-goes g c = record {
  told = c.optimize.ensures.told;
  kept = c.optimize.ensures.kept;
  faults = c.optimize.ensures.faults;
  fetched = c.optimize.ensures.counted;
}

pub returns-in-Ok-clause-fetched : goal.returns-in-Ok-clause-fetched
returns-in-Ok-clause-fetched g c =
    subst (λ (n : List ℕ). (g.H.Host.state c.optimize.new.host).fetched ≤ (g.H.Host.state c.args.host.now).fetched + plan_fetch c.args.store.now.held.numbers n c.args.p c.args.q) c.as_str.ensures.text
    (plan_fetched (set_in c.args.store.now.held.numbers c.as_str.result.now) c.args.p c.args.q (g.H.Host.state c.args.host.now).fetched (g.H.Host.state c.optimize.new.host).fetched (λ set is. c.optimize.ensures.fetched set is)
    (λ off is. ap (λ s. s.fetched) (c.optimize.ensures.unread off is)))

pub returns-in-Ok-clause-unread : goal.returns-in-Ok-clause-unread
returns-in-Ok-clause-unread g c = λ off is.
    c.optimize.ensures.unread off (ap (λ n. optimize_off c.args.store.now.held.numbers n c.args.p c.args.q) c.as_str.ensures.text ∙ is)

pub returns-in-Err-clause-goes : goal.returns-in-Err-clause-goes
returns-in-Err-clause-goes g c = record {
  told = c.optimize.ensures.told;
  kept = c.optimize.ensures.kept;
  faults = c.optimize.ensures.faults;
  fetched = c.optimize.ensures.counted;
}

pub returns-in-Err-clause-fetched : goal.returns-in-Err-clause-fetched
returns-in-Err-clause-fetched g c =
    subst (λ (n : List ℕ). (g.H.Host.state c.optimize.new.host).fetched ≤ (g.H.Host.state c.args.host.now).fetched + plan_fetch c.args.store.now.held.numbers n c.args.p c.args.q) c.as_str.ensures.text
    (plan_fetched (set_in c.args.store.now.held.numbers c.as_str.result.now) c.args.p c.args.q (g.H.Host.state c.args.host.now).fetched (g.H.Host.state c.optimize.new.host).fetched (λ set is. c.optimize.ensures.fetched set is)
    (λ off is. ap (λ s. s.fetched) (c.optimize.ensures.unread off is)))

pub returns-in-Err-clause-unread : goal.returns-in-Err-clause-unread
returns-in-Err-clause-unread g c = λ off is.
    c.optimize.ensures.unread off (ap (λ n. optimize_off c.args.store.now.held.numbers n c.args.p c.args.q) c.as_str.ensures.text ∙ is)

pub returns-in-Err-clause-cause : goal.returns-in-Err-clause-cause
returns-in-Err-clause-cause g c = λ is.
    plan_cause c.as_str.result.now c.args.p c.args.q c.args.store.now c.optimize.new.self (g.H.Host.state c.args.host.now) (g.H.Host.state c.optimize.new.host) c.in-Err.off c.plan_refused.result c.plan_refused.ensures.end c.in-Err.ensures.why is

pub returns-in-Err-clause-damaged : goal.returns-in-Err-clause-damaged
returns-in-Err-clause-damaged g c =
    subst (λ (n : List ℕ). IfErr c.plan_refused.result (IsDamageOf (IsPlanDamaged n c.args.p c.args.q c.args.store.now.held (g.H.Host.state c.optimize.new.host)))) c.as_str.ensures.text
    (plan_damaged c.as_str.result.now c.args.p c.args.q c.args.store.now c.optimize.new.self (g.H.Host.state c.args.host.now) (g.H.Host.state c.optimize.new.host) c.in-Err.off c.plan_refused.result c.plan_refused.ensures.end c.in-Err.ensures.why c.in-Err.ensures.stays)

pub returns-in-Ok-clause-whole : goal.returns-in-Ok-clause-whole
returns-in-Ok-clause-whole g c = λ page told.
    subst (λ (n : List ℕ). IsPlanDamaged n c.args.p c.args.q c.args.store.now.held (g.H.Host.state c.args.host.now) page → ⊥) c.as_str.ensures.text
    (begun_whole c.as_str.result.now c.args.p c.args.q c.args.store.now.held (g.H.Host.state c.args.host.now) (g.H.Host.state c.optimize.new.host) page told (λ set is. c.in-Ok.ensures.undamaged set told is page))

pub returns-in-Err-clause-whole : goal.returns-in-Err-clause-whole
returns-in-Err-clause-whole g c = λ page told.
    subst (λ (n : List ℕ). OnOk c.plan_refused.result (IsPlanDamaged n c.args.p c.args.q c.args.store.now.held (g.H.Host.state c.args.host.now) page → ⊥)) c.as_str.ensures.text
    (refused_whole c.as_str.result.now c.args.p c.args.q c.args.store.now.held (g.H.Host.state c.args.host.now) (g.H.Host.state c.optimize.new.host) page told c.args.cvd c.in-Err.off c.plan_refused.result c.plan_refused.ensures.reply c.in-Err.ensures.why)

pub returns-in-Err-clause-undamaged : goal.returns-in-Err-clause-undamaged
returns-in-Err-clause-undamaged g c = λ w at.
    plan_spared c.as_str.result.now (optimize_refused w c.as_str.result.now c.args.p c.args.q) c.in-Err.off c.plan_refused.result c.plan_refused.ensures.end (c.in-Err.ensures.refused w at)

pub returns-in-Err-clause-usable : goal.returns-in-Err-clause-usable
returns-in-Err-clause-usable g c =
    on_reply c.args.cvd c.in-Err.off c.plan_refused.result c.plan_refused.ensures.reply (MayCall c.optimize.new.self (g.H.Host.state c.optimize.new.host)) (λ fine. may_call c.args.store.now c.optimize.new.self (g.H.Host.state c.args.host.now) (g.H.Host.state c.optimize.new.host) c.requires.call (c.in-Err.ensures.stays fine))

pub returns-in-Ok-clause-begins_none : goal.returns-in-Ok-clause-begins_none
returns-in-Ok-clause-begins_none g c = λ off.
    absurd (some_refused (optimize_off c.args.store.now.held.numbers c.args.cvd c.args.p c.args.q)
    (subst (λ (n : List ℕ). optimize_off c.args.store.now.held.numbers n c.args.p c.args.q ≡ None) c.as_str.ensures.text c.in-Ok.ensures.allowed) off)

pub returns-in-Err-clause-begins_none : goal.returns-in-Err-clause-begins_none
returns-in-Err-clause-begins_none g c = λ off. on_reply c.args.cvd c.in-Err.off c.plan_refused.result c.plan_refused.ensures.reply (c.optimize.new.self ≡ c.args.store.now) (λ fine. (c.in-Err.ensures.stays fine).0)

pub returns-in-Ok-clause-by_journal : goal.returns-in-Ok-clause-by_journal
returns-in-Ok-clause-by_journal g c = λ by fine. c.in-Ok.ensures.by_journal by

pub returns-in-Err-clause-by_journal : goal.returns-in-Err-clause-by_journal
returns-in-Err-clause-by_journal g c = λ by fine.
    journal_still c.args.store.now c.optimize.new.self (g.H.Host.state c.args.host.now) (g.H.Host.state c.optimize.new.host) by (c.in-Err.ensures.stays (spared_host c.args.cvd c.in-Err.off c.plan_refused.result c.plan_refused.ensures.reply c.plan_refused.ensures.end fine))

pub returns-in-Ok-clause-at : goal.returns-in-Ok-clause-at
returns-in-Ok-clause-at g c = λ w at. at_next (begun_in c.as_str.result.now c.args.p c.args.q w) c.optimize.new.self.held (g.H.Host.state c.args.host.now) (g.H.Host.state c.optimize.new.host) (c.in-Ok.ensures.moves w at)

pub returns-in-Err-clause-at : goal.returns-in-Err-clause-at
returns-in-Err-clause-at g c = λ w at.
    on_reply c.args.cvd c.in-Err.off c.plan_refused.result c.plan_refused.ensures.reply (IsAtSilently c.optimize.new.self.held (g.H.Host.state c.args.host.now) (g.H.Host.state c.optimize.new.host)) (λ fine. plan_at w c.args.store.now c.optimize.new.self (g.H.Host.state c.args.host.now) (g.H.Host.state c.optimize.new.host) at (c.in-Err.ensures.stays fine))

pub returns-in-Ok-clause-seen : goal.returns-in-Ok-clause-seen
returns-in-Ok-clause-seen g c = λ name is. cc

pub returns-in-Err-clause-seen : goal.returns-in-Err-clause-seen
returns-in-Err-clause-seen g c = plan_seen c.args.cvd c.in-Err.off c.plan_refused.result c.plan_refused.ensures.reply

pub returns-in-Err-clause-idle : goal.returns-in-Err-clause-idle
returns-in-Err-clause-idle g c = plan_idle c.as_str.result.now c.args.p c.args.q c.args.store.now c.optimize.new.self (g.H.Host.state c.args.host.now) (g.H.Host.state c.optimize.new.host) c.in-Err.off c.plan_refused.result c.plan_refused.ensures.end c.in-Err.ensures.stays

pub returns-in-Ok-clause-acts : goal.returns-in-Ok-clause-acts
returns-in-Ok-clause-acts g c = λ w s at.
    subst (λ (n : List ℕ). Does (optimize_deed s n c.args.p c.args.q (set_named w n)) s s w
    (says.Optimize c.in-Ok.report.depth c.in-Ok.report.partitions c.in-Ok.report.stored c.in-Ok.report.records c.in-Ok.report.members c.in-Ok.report.cost c.in-Ok.report.steps)
    c.args.store.now.held c.optimize.new.self.held (g.H.Host.state c.args.host.now) (g.H.Host.state c.optimize.new.host)) c.as_str.ensures.text
    (plan_done w s c.as_str.result.now c.args.p c.args.q c.args.store.now c.optimize.new.self (g.H.Host.state c.args.host.now) (g.H.Host.state c.optimize.new.host) at c.in-Ok.report (c.in-Ok.ensures.refused w at) (λ d is. c.in-Ok.ensures.report w d at is)
    (c.optimize.ensures.stops w at) (c.in-Ok.ensures.moves w at) (λ d entry past is within. c.in-Ok.ensures.room w d entry past at is within))

pub returns-in-Err-clause-acts : goal.returns-in-Err-clause-acts
returns-in-Err-clause-acts g c = λ w s at.
    subst (λ (n : List ℕ). Acts (optimize_deed s n c.args.p c.args.q (set_named w n)) s s w c.plan_refused.result c.args.store.now.held c.optimize.new.self.held (g.H.Host.state c.args.host.now) (g.H.Host.state c.optimize.new.host)) c.as_str.ensures.text
    (plan_off_by w s c.as_str.result.now c.args.p c.args.q c.args.store.now c.optimize.new.self (g.H.Host.state c.args.host.now) (g.H.Host.state c.optimize.new.host) at c.in-Err.off c.plan_refused.result
    (subst (λ (n : List ℕ). IfOk c.plan_refused.result (λ r. plan_reply n c.in-Err.off ≡ Some r)) (sym c.as_str.ensures.text) c.plan_refused.ensures.reply) (c.in-Err.ensures.refused w at)
    (λ d entry past is within. c.in-Err.ensures.room w d entry past at is within) c.in-Err.ensures.stays
    (c.optimize.ensures.stops w at) (λ refusal refused. c.optimize.ensures.still w refusal at refused))
