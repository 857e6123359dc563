use Rattle.std.proofs.Common.{sym, subst}
use Rattle.ov_model.specs.declared.command.Command.{Command}
use Rattle.ov_model.specs.declared.command.Command.TheVariants as asks
use Rattle.ov_session.proofs.Answered.{registered_served}
use Rattle.ov_session.specs.Serving.{IsServed}
use Rattle.ov_session.proofs.serving.act.Goals as goal

pub returns-in-Config-clause-serves : goal.returns-in-Config-clause-serves
returns-in-Config-clause-serves g c =
    let stage = g.T.Stage.staged c.args.stage.now
    in let k = c.args.store.now
    in let old = g.H.Host.state c.args.host.now
    in let new = g.H.Host.state c.become_user.new.host
    in subst (λ (command : Command). IsServed c.args.user.now c.become_user.new.user command c.become_user.result k k stage stage old new) (sym c.in-Config.is)
    (registered_served c.args.user.now c.become_user.new.user (asks.Config c.in-Config.name) c.become_user.result k k old new (λ stage idle. idle)
    c.become_user.ensures.serves stage)
