use Rattle.std.proofs.Common.{◌≡◌, ◌∙◌, ◌+◌, ℕ, List, Some, None, sym, ap, subst}
use Rattle.std.specs.Prelude.{◌≤◌, IfErr, IfOk, OnOk}
use Rattle.ov_choose.specs.Choices.{within_off}
use Rattle.ov_choose.specs.Worlds.{within_in, within_refused}
use Rattle.ov_model.specs.Budget.{within_deed}
use Rattle.ov_model.specs.World.{set_named}
use Rattle.ov_model.specs.declared.reply.Reply.TheVariants as says
use Rattle.law_runs.specs.Serving.{Does}
use Rattle.ov_session.proofs.Choices.{chosen_seen, ended_damaged, ended_host, ended_idle, ended_spared, on_reply, spared_host, whole_in, within_cause, within_damaged, within_done, within_fetched, within_off_by, within_whole}
use Rattle.ov_session.proofs.Plans.{plan_at, some_refused}
use Rattle.ov_session.proofs.Standing.{at_next}
use Rattle.ov_session.proofs.Taking.{journal_still, may_call}
use Rattle.ov_session.specs.Bounds.{within_fetch}
use Rattle.ov_session.specs.Commands.{Acts, AreListsDamaged, IsDamageOf, IsWithinDamaged}
use Rattle.ov_session.specs.Errors.{choose_reply}
use Rattle.ov_session.specs.Standing.{Idle, IsAtSilently}
use Rattle.ov_store.specs.Kept.{MayCall}
use Rattle.ov_store.specs.Scanning.{set_in}
use Rattle.ov_session.proofs.budgets.optimize_within.Goals as goal

pub returns-in-Ok-clause-goes : goal.returns-in-Ok-clause-goes
returns-in-Ok-clause-goes g c = record {
  told = c.optimize_within.ensures.told;
  kept = c.optimize_within.ensures.kept;
  faults = c.optimize_within.ensures.faults;
  fetched = c.optimize_within.ensures.counted;
}

pub returns-in-Err-clause-goes : goal.returns-in-Err-clause-goes
returns-in-Err-clause-goes g c = record {
  told = c.optimize_within.ensures.told;
  kept = c.optimize_within.ensures.kept;
  faults = c.optimize_within.ensures.faults;
  fetched = c.optimize_within.ensures.counted;
}

pub returns-in-Ok-clause-fetched : goal.returns-in-Ok-clause-fetched
returns-in-Ok-clause-fetched g c =
    subst (λ (n : List ℕ). (g.H.Host.state c.optimize_within.new.host).fetched ≤ (g.H.Host.state c.args.host.now).fetched + within_fetch c.args.store.now.held.numbers n) c.as_str.ensures.text
    (within_fetched c.as_str.result.now (set_in c.args.store.now.held.numbers c.as_str.result.now) (g.H.Host.state c.args.host.now).fetched (g.H.Host.state c.optimize_within.new.host).fetched
    (λ set is. c.optimize_within.ensures.fetched set is) (λ off is. ap (λ s. s.fetched) (c.optimize_within.ensures.unread off is)))

pub returns-in-Err-clause-fetched : goal.returns-in-Err-clause-fetched
returns-in-Err-clause-fetched g c =
    subst (λ (n : List ℕ). (g.H.Host.state c.optimize_within.new.host).fetched ≤ (g.H.Host.state c.args.host.now).fetched + within_fetch c.args.store.now.held.numbers n) c.as_str.ensures.text
    (within_fetched c.as_str.result.now (set_in c.args.store.now.held.numbers c.as_str.result.now) (g.H.Host.state c.args.host.now).fetched (g.H.Host.state c.optimize_within.new.host).fetched
    (λ set is. c.optimize_within.ensures.fetched set is) (λ off is. ap (λ s. s.fetched) (c.optimize_within.ensures.unread off is)))

pub returns-in-Ok-clause-unread : goal.returns-in-Ok-clause-unread
returns-in-Ok-clause-unread g c = λ off is.
    c.optimize_within.ensures.unread off (ap (λ n. within_off (set_in c.args.store.now.held.numbers n)) c.as_str.ensures.text ∙ is)

pub returns-in-Err-clause-unread : goal.returns-in-Err-clause-unread
returns-in-Err-clause-unread g c = λ off is.
    c.optimize_within.ensures.unread off (ap (λ n. within_off (set_in c.args.store.now.held.numbers n)) c.as_str.ensures.text ∙ is)

pub returns-in-Err-clause-cause : goal.returns-in-Err-clause-cause
returns-in-Err-clause-cause g c = λ is.
    within_cause (set_in c.args.store.now.held.numbers c.as_str.result.now) c.args.budget c.args.store.now.held (g.H.Host.state c.args.host.now) (g.H.Host.state c.optimize_within.new.host) c.in-Err.off
    c.in-Err.ensures.why (ended_host c.in-Err.off c.choose_refused.result c.choose_refused.ensures.end is)

pub returns-in-Err-clause-damaged : goal.returns-in-Err-clause-damaged
returns-in-Err-clause-damaged g c =
    subst (λ (n : List ℕ). IfErr c.choose_refused.result (IsDamageOf (IsWithinDamaged n c.args.store.now.held (g.H.Host.state c.optimize_within.new.host)))) c.as_str.ensures.text
    (ended_damaged c.in-Err.off (IsWithinDamaged c.as_str.result.now c.args.store.now.held (g.H.Host.state c.optimize_within.new.host)) c.choose_refused.result c.choose_refused.ensures.end
    (λ area at is. within_damaged (set_in c.args.store.now.held.numbers c.as_str.result.now) c.args.budget c.args.store.now.held (g.H.Host.state c.args.host.now) (g.H.Host.state c.optimize_within.new.host)
    c.in-Err.off c.as_str.result.now (c.in-Err.ensures.stays (λ host. let clash = sym is ∙ host in absurd cc)).1 c.in-Err.ensures.why area at is))

pub returns-in-Ok-clause-whole : goal.returns-in-Ok-clause-whole
returns-in-Ok-clause-whole g c = λ page told.
    subst (λ (n : List ℕ). AreListsDamaged n c.args.store.now.held (g.H.Host.state c.args.host.now) page → ⊥) c.as_str.ensures.text
    (λ met. whole_in (g.H.Host.state c.args.host.now) page told (set_in c.args.store.now.held.numbers c.as_str.result.now) (λ set is. (c.in-Ok.ensures.undamaged set told is page).0) met.1)

pub returns-in-Err-clause-whole : goal.returns-in-Err-clause-whole
returns-in-Err-clause-whole g c = λ page told.
    subst (λ (n : List ℕ). OnOk c.choose_refused.result (AreListsDamaged n c.args.store.now.held (g.H.Host.state c.args.host.now) page → ⊥)) c.as_str.ensures.text
    (within_whole (g.H.Host.state c.args.host.now) page told c.as_str.result.now c.args.budget c.args.store.now.held (g.H.Host.state c.optimize_within.new.host) c.args.cvd c.in-Err.off
    c.choose_refused.result c.choose_refused.ensures.reply c.in-Err.ensures.why)

pub returns-in-Err-clause-undamaged : goal.returns-in-Err-clause-undamaged
returns-in-Err-clause-undamaged g c = λ w at.
    ended_spared c.in-Err.off c.as_str.result.now c.args.budget (within_refused w c.as_str.result.now c.args.budget) c.choose_refused.result c.choose_refused.ensures.end (c.in-Err.ensures.refused w at)

pub returns-in-Err-clause-usable : goal.returns-in-Err-clause-usable
returns-in-Err-clause-usable g c =
    on_reply c.args.cvd c.args.budget c.in-Err.off c.choose_refused.result c.choose_refused.ensures.reply (MayCall c.optimize_within.new.store (g.H.Host.state c.optimize_within.new.host))
    (λ fine. may_call c.args.store.now c.optimize_within.new.store (g.H.Host.state c.args.host.now) (g.H.Host.state c.optimize_within.new.host) c.requires.call (c.in-Err.ensures.stays fine))

pub returns-in-Ok-clause-begins_none : goal.returns-in-Ok-clause-begins_none
returns-in-Ok-clause-begins_none g c = λ off.
    absurd (some_refused (within_off (set_in c.args.store.now.held.numbers c.args.cvd))
    (subst (λ (n : List ℕ). within_off (set_in c.args.store.now.held.numbers n) ≡ None) c.as_str.ensures.text c.in-Ok.ensures.allowed) off)

pub returns-in-Err-clause-begins_none : goal.returns-in-Err-clause-begins_none
returns-in-Err-clause-begins_none g c = λ off.
    on_reply c.args.cvd c.args.budget c.in-Err.off c.choose_refused.result c.choose_refused.ensures.reply (c.optimize_within.new.store ≡ c.args.store.now) (λ fine. (c.in-Err.ensures.stays fine).0)

pub returns-in-Ok-clause-by_journal : goal.returns-in-Ok-clause-by_journal
returns-in-Ok-clause-by_journal g c = λ by fine. c.in-Ok.ensures.by_journal by

pub returns-in-Err-clause-by_journal : goal.returns-in-Err-clause-by_journal
returns-in-Err-clause-by_journal g c = λ by fine.
    journal_still c.args.store.now c.optimize_within.new.store (g.H.Host.state c.args.host.now) (g.H.Host.state c.optimize_within.new.host) by
    (c.in-Err.ensures.stays (spared_host c.args.cvd c.args.budget c.in-Err.off c.choose_refused.result c.choose_refused.ensures.reply c.choose_refused.ensures.end fine))

pub returns-in-Ok-clause-at : goal.returns-in-Ok-clause-at
returns-in-Ok-clause-at g c = λ w at.
    at_next (within_in c.as_str.result.now c.args.budget w) c.optimize_within.new.store.held (g.H.Host.state c.args.host.now) (g.H.Host.state c.optimize_within.new.host) (c.in-Ok.ensures.moves w at)

pub returns-in-Err-clause-at : goal.returns-in-Err-clause-at
returns-in-Err-clause-at g c = λ w at.
    on_reply c.args.cvd c.args.budget c.in-Err.off c.choose_refused.result c.choose_refused.ensures.reply
    (IsAtSilently c.optimize_within.new.store.held (g.H.Host.state c.args.host.now) (g.H.Host.state c.optimize_within.new.host))
    (λ fine. plan_at w c.args.store.now c.optimize_within.new.store (g.H.Host.state c.args.host.now) (g.H.Host.state c.optimize_within.new.host) at (c.in-Err.ensures.stays fine))

pub returns-in-Ok-clause-seen : goal.returns-in-Ok-clause-seen
returns-in-Ok-clause-seen g c = λ name is. cc

pub returns-in-Err-clause-seen : goal.returns-in-Err-clause-seen
returns-in-Err-clause-seen g c = chosen_seen c.args.cvd c.args.budget c.in-Err.off c.choose_refused.result c.choose_refused.ensures.reply

pub returns-in-Err-clause-idle : goal.returns-in-Err-clause-idle
returns-in-Err-clause-idle g c =
    ended_idle c.in-Err.off (Idle c.args.store.now c.optimize_within.new.store (g.H.Host.state c.args.host.now) (g.H.Host.state c.optimize_within.new.host)) c.choose_refused.result c.choose_refused.ensures.end
    (λ fine. let still = c.in-Err.ensures.stays fine in record { store = still.0; looked = still.1 })

pub returns-in-Ok-clause-acts : goal.returns-in-Ok-clause-acts
returns-in-Ok-clause-acts g c = λ w s at.
    let chosen = c.in-Ok.chosen
    in subst (λ (n : List ℕ). Does (within_deed s n c.args.budget (set_named w n)) s s w
    (says.Within chosen.lines chosen.p chosen.report.depth chosen.report.partitions chosen.report.stored chosen.report.records chosen.report.members chosen.report.cost chosen.report.steps)
    c.args.store.now.held c.optimize_within.new.store.held (g.H.Host.state c.args.host.now) (g.H.Host.state c.optimize_within.new.host)) c.as_str.ensures.text
    (within_done w s c.as_str.result.now c.args.budget c.args.store.now c.optimize_within.new.store (g.H.Host.state c.args.host.now) (g.H.Host.state c.optimize_within.new.host) at c.in-Ok.chosen
    (c.in-Ok.ensures.refused w at) (λ d is. c.in-Ok.ensures.shown w d at is) (c.optimize_within.ensures.stops w at) (c.in-Ok.ensures.moves w at)
    (λ d best entry past is chosen within. c.in-Ok.ensures.room w d best entry past at is chosen within))

pub returns-in-Err-clause-acts : goal.returns-in-Err-clause-acts
returns-in-Err-clause-acts g c = λ w s at.
    subst (λ (n : List ℕ). Acts (within_deed s n c.args.budget (set_named w n)) s s w c.choose_refused.result c.args.store.now.held c.optimize_within.new.store.held (g.H.Host.state c.args.host.now)
    (g.H.Host.state c.optimize_within.new.host)) c.as_str.ensures.text
    (within_off_by w s c.as_str.result.now c.args.budget c.args.store.now c.optimize_within.new.store (g.H.Host.state c.args.host.now) (g.H.Host.state c.optimize_within.new.host) at c.in-Err.off c.choose_refused.result
    (subst (λ (n : List ℕ). IfOk c.choose_refused.result (λ r. choose_reply n c.args.budget c.in-Err.off ≡ Some r)) (sym c.as_str.ensures.text) c.choose_refused.ensures.reply) (c.in-Err.ensures.refused w at)
    (λ d best entry past is chosen within. c.in-Err.ensures.room w d best entry past at is chosen within) c.in-Err.ensures.stays
    (c.optimize_within.ensures.stops w at) (λ refusal refused. c.optimize_within.ensures.still w refusal at refused))
