use Rattle.std.proofs.Common.{◌≡◌, ◌∙◌, List, ℕ, Some, sym, ap, subst}
use Rattle.std.specs.Prelude.{Ok}
use Rattle.ov_model.specs.declared.command.Command.TheVariants as asks
use Rattle.ov_session.proofs.Registered.{next_named, no_memory}
use Rattle.ov_session.specs.Acting.{kind_of, user_by}
use Rattle.ov_session.specs.Registering.{IsRegistered}
use Rattle.ov_session.proofs.registering.become_user.Goals as goal

pub returns-in-Ok-configured-clause-serves : goal.returns-in-Ok-configured-clause-serves
returns-in-Ok-configured-clause-serves g c =
    let user = c.args.user.now
    in let reply = c.in-Ok-configured.reply
    in let next : c.follow.new.user ≡ user_by (Some c.args.name) (kind_of reply) user
    = c.follow.ensures ∙ ap (λ (n : List ℕ). user_by (Some n) (kind_of reply) user) c.in-Ok.ensures.ok
    in subst (λ (u : List ℕ). IsRegistered user u (asks.Config c.args.name) (Ok reply) c.args.store.now c.args.store.now (g.H.Host.state c.args.host.now) (g.H.Host.state c.configured.new.host))
    (sym next) (c.in-Ok-configured.ensures.serves user)

pub returns-in-Ok-configured-clause-named : goal.returns-in-Ok-configured-clause-named
returns-in-Ok-configured-clause-named g c =
    next_named c.in-Ok.next c.args.name c.args.user.now c.follow.new.user (kind_of c.in-Ok-configured.reply) c.in-Ok.ensures.ok c.in-Ok-configured.ensures.named c.requires.user c.follow.ensures

pub returns-in-Err-clause-serves : goal.returns-in-Err-clause-serves
returns-in-Err-clause-serves g c = no_memory c.args.user.now c.args.name c.args.store.now (g.H.Host.state c.args.host.now)

pub returns-in-Err-configured-clause-serves : goal.returns-in-Err-configured-clause-serves
returns-in-Err-configured-clause-serves g c = c.in-Err-configured.ensures.serves c.args.user.now
