use Rattle.std.proofs.Common.{ℕ, List, sym, subst}
use Rattle.std.specs.Prelude.{Result}
use Rattle.ov_model.specs.declared.command.Command.TheVariants as asks
use Rattle.ov_model.specs.declared.reply.Reply.{Reply}
use Rattle.ov_session.proofs.Registered.{tables_registered}
use Rattle.ov_session.specs.Errors.{by_staging}
use Rattle.ov_session.specs.Registering.{IsRegistered}
use Rattle.ov_session.specs.declared.errors.EndErr.{EndErr}
use Rattle.ov_session.proofs.registering.tables.Goals as goal

pub returns : goal.returns
returns g c =
    let old = g.H.Host.state c.args.host.now
    in let new = g.H.Host.state c.tables.new.host
    in let f = c.tables.ensures
    in let made : IsRegistered c.as_str.result.now c.as_str.result.now asks.Tables (by_staging c.tables.result) c.args.store.now c.args.store.now old new
    = tables_registered c.as_str.result.now c.args.store.now old new f.looked c.tables.result c.requires.call f.fetched f.unread f.reply f.why f.whole f.world
    in subst (λ (r : Result Reply EndErr). IsRegistered c.args.user.now c.args.user.now asks.Tables r c.args.store.now c.args.store.now old new) (sym c.ended.ensures)
    (subst (λ (u : List ℕ). IsRegistered u u asks.Tables (by_staging c.tables.result) c.args.store.now c.args.store.now old new) c.as_str.ensures.text made)
