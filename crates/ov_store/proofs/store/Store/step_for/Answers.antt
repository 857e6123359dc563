use Rattle.std.proofs.Common.{ap, subst, sym}
use Rattle.ov_core.specs.AtWorld.{IsAtWorld}
use Rattle.ov_store.proofs.store.Store.step_for.Goals as goal

pub returns-clause-world : goal.returns-clause-world
returns-clause-world g c = λ w at.
    c.next_step.ensures.world w (subst (λ held. IsAtWorld w held (g.H.Host.state c.args.host.now)) (sym (ap (λ kept. kept.held) c.self.view_is)) at)
