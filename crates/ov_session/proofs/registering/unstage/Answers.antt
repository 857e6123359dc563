use Rattle.std.proofs.Common.{sym, subst}
use Rattle.std.specs.Prelude.{Result}
use Rattle.ov_model.specs.Registry.{stage_name, stage_schema}
use Rattle.ov_model.specs.declared.command.Command.TheVariants as asks
use Rattle.ov_model.specs.declared.reply.Reply.{Reply}
use Rattle.ov_registry.specs.declared.registry.Registry.TheVariants as registry
use Rattle.ov_staging.specs.Reading.{foreign_off}
use Rattle.ov_staging.specs.Tables.{table_rows}
use Rattle.ov_store.specs.Scanning.{set_in}
use Rattle.ov_session.proofs.Registered.{changed_registered, unstage_row, unstaged_seen, when_ok}
use Rattle.ov_session.specs.Registering.{IsRegistered}
use Rattle.ov_session.specs.declared.errors.EndErr.{EndErr}
use Rattle.ov_session.proofs.registering.unstage.Goals as goal

pub returns : goal.returns
returns g c = λ user.
    let set = set_in c.args.store.now.held.numbers stage_name
    in let old = g.H.Host.state c.args.host.now
    in let new = g.H.Host.state c.unstage.new.host
    in let f = c.unstage.ensures
    in subst (λ (r : Result Reply EndErr). IsRegistered user user (asks.Unstage c.args.owner c.args.table) r c.args.store.now c.unstage.new.store old new) (sym c.ended.ensures)
    (changed_registered user (asks.Unstage c.args.owner c.args.table) registry.Stage (foreign_off stage_schema set) (table_rows c.args.owner c.args.table) c.unstage.result c.args.store.now c.unstage.new.store old new
    (unstage_row user c.args.owner c.args.table c.unstage.result c.args.store.now c.unstage.new.store old new)
    f.told f.kept f.faults f.counted f.fetched f.unread
    (when_ok _ _ c.unstage.result (λ reply. unstaged_seen c.args.owner c.args.table set reply c.args.store.now c.unstage.new.store old new) f.done)
    f.why f.whole f.stays f.usable f.by_journal f.undamaged f.acts)
