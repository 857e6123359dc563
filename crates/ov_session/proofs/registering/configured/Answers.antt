use Rattle.std.proofs.Common.{◌≡◌, sym, subst}
use Rattle.std.specs.Prelude.{IfOk, IsTrue, Result}
use Rattle.ov_model.specs.Registry.{users_name}
use Rattle.ov_store.specs.Scanning.{set_in}
use Rattle.ov_value.specs.Naming.{is_name}
use Rattle.ov_session.specs.Acting.{kind_of}
use Rattle.ov_session.specs.declared.serving.Served.TheVariants as served
use Rattle.ov_model.specs.declared.command.Command.TheVariants as asks
use Rattle.ov_model.specs.declared.reply.Reply.{Reply}
use Rattle.ov_session.proofs.Registered.{config_registered, done_named, if_of, when_ok}
use Rattle.ov_session.specs.Registering.{IsRegistered, next_by}
use Rattle.ov_session.specs.declared.errors.EndErr.{EndErr}
use Rattle.ov_session.proofs.registering.configured.Goals as goal

pub returns-clause-serves : goal.returns-clause-serves
returns-clause-serves g c = λ user.
    let old = g.H.Host.state c.args.host.now
    in let new = g.H.Host.state c.config.new.host
    in let f = c.config.ensures
    in subst (λ (r : Result Reply EndErr). IsRegistered user (next_by user c.args.name r) (asks.Config c.args.name) r c.args.store.now c.args.store.now old new) (sym c.ended.ensures)
    (config_registered user c.args.name c.args.store.now old new f.looked c.config.result c.requires.call f.fetched f.unread f.reply f.why f.whole f.world)

pub returns-clause-named : goal.returns-clause-named
returns-clause-named g c =
    let set = set_in c.args.store.now.held.numbers users_name
    in subst (λ (r : Result Reply EndErr). IfOk r (λ reply. kind_of reply ≡ served.Done → IsTrue (is_name c.args.name))) (sym c.ended.ensures)
    (if_of _ c.config.result (when_ok _ _ c.config.result (done_named c.args.name set (g.H.Host.state c.args.host.now)) c.config.ensures.reply))
