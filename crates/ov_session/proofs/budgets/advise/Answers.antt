use Rattle.std.proofs.Common.{◌≡◌, ◌∙◌, ◌+◌, ℕ, List, Some, sym, ap, subst}
use Rattle.std.specs.Prelude.{◌≤◌, IfErr, IfOk, OnOk}
use Rattle.ov_choose.specs.Choices.{advise_off}
use Rattle.ov_choose.specs.Worlds.{advise_refused}
use Rattle.ov_model.specs.Act.{tells}
use Rattle.ov_model.specs.Budget.{advise_deed}
use Rattle.ov_model.specs.World.{set_named}
use Rattle.ov_model.specs.declared.reply.Reply.TheVariants as says
use Rattle.ov_session.proofs.Choices.{advice_cause, advice_damaged, advice_off_by, advice_told, advice_whole, advise_fetched, chosen_seen, ended_damaged, ended_host, ended_spared, whole_in}
use Rattle.ov_session.specs.Bounds.{advise_fetch}
use Rattle.ov_session.specs.Commands.{IsAdviceDamaged, IsDamageOf}
use Rattle.ov_session.specs.Errors.{choose_reply}
use Rattle.ov_store.specs.Scanning.{set_in}
use Rattle.ov_session.proofs.budgets.advise.Goals as goal

pub returns-in-Ok-clause-fetched : goal.returns-in-Ok-clause-fetched
returns-in-Ok-clause-fetched g c =
    subst (λ (n : List ℕ). (g.H.Host.state c.advise.new.host).fetched ≤ (g.H.Host.state c.args.host.now).fetched + advise_fetch c.args.store.now.held.numbers n c.args.a c.args.b) c.as_str.ensures.text
    (advise_fetched c.as_str.result.now c.args.a c.args.b (set_in c.args.store.now.held.numbers c.as_str.result.now) (g.H.Host.state c.args.host.now).fetched (g.H.Host.state c.advise.new.host).fetched
    (λ set is. c.advise.ensures.fetched set is) (λ off is. ap (λ s. s.fetched) (c.advise.ensures.unread off is)))

pub returns-in-Err-clause-fetched : goal.returns-in-Err-clause-fetched
returns-in-Err-clause-fetched g c =
    subst (λ (n : List ℕ). (g.H.Host.state c.advise.new.host).fetched ≤ (g.H.Host.state c.args.host.now).fetched + advise_fetch c.args.store.now.held.numbers n c.args.a c.args.b) c.as_str.ensures.text
    (advise_fetched c.as_str.result.now c.args.a c.args.b (set_in c.args.store.now.held.numbers c.as_str.result.now) (g.H.Host.state c.args.host.now).fetched (g.H.Host.state c.advise.new.host).fetched
    (λ set is. c.advise.ensures.fetched set is) (λ off is. ap (λ s. s.fetched) (c.advise.ensures.unread off is)))

pub returns-in-Ok-clause-unread : goal.returns-in-Ok-clause-unread
returns-in-Ok-clause-unread g c = λ off is.
    c.advise.ensures.unread off (ap (λ n. advise_off c.args.a c.args.b (set_in c.args.store.now.held.numbers n)) c.as_str.ensures.text ∙ is)

pub returns-in-Err-clause-unread : goal.returns-in-Err-clause-unread
returns-in-Err-clause-unread g c = λ off is.
    c.advise.ensures.unread off (ap (λ n. advise_off c.args.a c.args.b (set_in c.args.store.now.held.numbers n)) c.as_str.ensures.text ∙ is)

pub returns-in-Err-clause-cause : goal.returns-in-Err-clause-cause
returns-in-Err-clause-cause g c = λ is.
    let o = set_in c.args.store.now.held.numbers c.as_str.result.now
    in advice_cause (advise_off c.args.a c.args.b o) o c.args.budget (g.H.Host.state c.args.host.now) (g.H.Host.state c.advise.new.host) c.in-Err.off
    c.in-Err.ensures.why (ended_host c.in-Err.off c.choose_refused.result c.choose_refused.ensures.end is)

pub returns-in-Err-clause-damaged : goal.returns-in-Err-clause-damaged
returns-in-Err-clause-damaged g c =
    subst (λ (n : List ℕ). IfErr c.choose_refused.result (IsDamageOf (IsAdviceDamaged n c.args.a c.args.b c.args.store.now.held (g.H.Host.state c.advise.new.host)))) c.as_str.ensures.text
    (ended_damaged c.in-Err.off (IsAdviceDamaged c.as_str.result.now c.args.a c.args.b c.args.store.now.held (g.H.Host.state c.advise.new.host)) c.choose_refused.result c.choose_refused.ensures.end
    (λ area at is. advice_damaged c.as_str.result.now c.args.a c.args.b (set_in c.args.store.now.held.numbers c.as_str.result.now) c.args.budget (g.H.Host.state c.args.host.now) (g.H.Host.state c.advise.new.host)
    c.in-Err.off c.advise.ensures.looked c.in-Err.ensures.why area at is))

pub returns-in-Ok-clause-whole : goal.returns-in-Ok-clause-whole
returns-in-Ok-clause-whole g c = λ page told.
    subst (λ (n : List ℕ). IsAdviceDamaged n c.args.a c.args.b c.args.store.now.held (g.H.Host.state c.args.host.now) page → ⊥) c.as_str.ensures.text
    (λ met. whole_in (g.H.Host.state c.args.host.now) page told (set_in c.args.store.now.held.numbers c.as_str.result.now) (λ set is. c.in-Ok.ensures.undamaged set told is page) met.1)

pub returns-in-Err-clause-whole : goal.returns-in-Err-clause-whole
returns-in-Err-clause-whole g c = λ page told.
    subst (λ (n : List ℕ). OnOk c.choose_refused.result (IsAdviceDamaged n c.args.a c.args.b c.args.store.now.held (g.H.Host.state c.args.host.now) page → ⊥)) c.as_str.ensures.text
    (advice_whole (g.H.Host.state c.args.host.now) page told c.as_str.result.now c.args.budget c.args.store.now.held (g.H.Host.state c.advise.new.host) c.args.cvd c.args.a c.args.b c.in-Err.off
    c.choose_refused.result c.choose_refused.ensures.reply c.in-Err.ensures.why)

pub returns-in-Err-clause-undamaged : goal.returns-in-Err-clause-undamaged
returns-in-Err-clause-undamaged g c = λ w at.
    ended_spared c.in-Err.off c.as_str.result.now c.args.budget (advise_refused w c.as_str.result.now c.args.budget c.args.a c.args.b) c.choose_refused.result c.choose_refused.ensures.end (c.in-Err.ensures.refused w at)

pub returns-in-Ok-clause-seen : goal.returns-in-Ok-clause-seen
returns-in-Ok-clause-seen g c = λ name is. cc

pub returns-in-Err-clause-seen : goal.returns-in-Err-clause-seen
returns-in-Err-clause-seen g c = chosen_seen c.args.cvd c.args.budget c.in-Err.off c.choose_refused.result c.choose_refused.ensures.reply

pub returns-in-Ok-clause-told : goal.returns-in-Ok-clause-told
returns-in-Ok-clause-told g c = λ w s at.
    let advice = c.in-Ok.advice
    in subst (λ (n : List ℕ). advise_deed s n c.args.budget c.args.a c.args.b (set_named w n) ≡ tells s (says.Advise advice.cost advice.best advice.worth)) c.as_str.ensures.text
    (advice_told w s c.as_str.result.now c.args.budget c.args.a c.args.b c.in-Ok.advice (c.in-Ok.ensures.refused w at) (λ d is. c.in-Ok.ensures.shown w d at is))

pub returns-in-Err-clause-told : goal.returns-in-Err-clause-told
returns-in-Err-clause-told g c = λ w s at.
    let o = set_in c.args.store.now.held.numbers c.as_str.result.now
    in subst (λ (n : List ℕ). IfOk c.choose_refused.result (λ r. advise_deed s n c.args.budget c.args.a c.args.b (set_named w n) ≡ tells s r)) c.as_str.ensures.text
    (advice_off_by w s c.as_str.result.now c.args.budget c.args.a c.args.b (advise_off c.args.a c.args.b o) o (g.H.Host.state c.args.host.now) (g.H.Host.state c.advise.new.host) c.in-Err.off c.choose_refused.result
    c.in-Err.ensures.why
    (subst (λ (n : List ℕ). IfOk c.choose_refused.result (λ r. choose_reply n c.args.budget c.in-Err.off ≡ Some r)) (sym c.as_str.ensures.text) c.choose_refused.ensures.reply) (c.in-Err.ensures.refused w at))
