use Rattle.std.proofs.Common.{sym, subst}
use Rattle.std.specs.Prelude.{Result}
use Rattle.ov_model.specs.Registry.{users_name}
use Rattle.ov_model.specs.declared.command.Command.TheVariants as asks
use Rattle.ov_model.specs.declared.reply.Reply.{Reply}
use Rattle.ov_registry.specs.declared.registry.Registry.TheVariants as registry
use Rattle.ov_staging.specs.Users.{create_off, user_rows}
use Rattle.ov_store.specs.Scanning.{set_in}
use Rattle.ov_session.proofs.Registered.{changed_registered, create_row, created_seen, when_ok}
use Rattle.ov_session.specs.Registering.{IsRegistered}
use Rattle.ov_session.specs.declared.errors.EndErr.{EndErr}
use Rattle.ov_session.proofs.registering.create_user.Goals as goal

pub returns : goal.returns
returns g c = λ user.
    let set = set_in c.args.store.now.held.numbers users_name
    in let old = g.H.Host.state c.args.host.now
    in let new = g.H.Host.state c.create_user.new.host
    in let f = c.create_user.ensures
    in subst (λ (r : Result Reply EndErr). IsRegistered user user (asks.CreateUser c.args.name) r c.args.store.now c.create_user.new.store old new) (sym c.ended.ensures)
    (changed_registered user (asks.CreateUser c.args.name) registry.Users (create_off c.args.name set) (user_rows c.args.name) c.create_user.result c.args.store.now c.create_user.new.store old new
    (create_row user c.args.name c.create_user.result c.args.store.now c.create_user.new.store old new)
    f.told f.kept f.faults f.counted f.fetched f.unread
    (when_ok _ _ c.create_user.result (λ reply. created_seen c.args.name set reply c.args.store.now c.create_user.new.store old new) f.done)
    f.why f.whole f.stays f.usable f.by_journal f.undamaged f.acts)
