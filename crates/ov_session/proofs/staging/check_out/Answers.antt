use Rattle.std.proofs.Common.{ℕ, List, None, Option, refl, sym, ap, subst}
use Rattle.ov_host.specs.Host.{State}
use Rattle.ov_model.specs.declared.command.Command.TheVariants as asks
use Rattle.ov_store.proofs.Finishing.{may_call_later}
use Rattle.ov_store.specs.Scanning.{scan_off, set_in}
use Rattle.ov_session.proofs.Numbering.{journal_looked}
use Rattle.ov_session.proofs.Replying.{seen_missed}
use Rattle.ov_session.proofs.Rows.{checkout_damaged, checkout_idle, checkout_met, damages_wider, fetched_refused, map_ok, refused_there}
use Rattle.ov_session.proofs.Standing.{at_looked, on_any}
use Rattle.ov_session.specs.Bounds.{bytes_in}
use Rattle.ov_session.specs.Serving.{IsServed}
use Rattle.ov_session.proofs.staging.check_out.Goals as goal

pub returns-in-None : goal.returns-in-None
returns-in-None g c =
    let user = c.args.user.now
    in let k = c.args.store.now
    in let stage = g.T.Stage.staged c.args.stage.now
    in let staged = g.T.Stage.staged c.checkout.new.stage
    in let old = g.H.Host.state c.args.host.now
    in let new = g.H.Host.state c.checkout.new.host
    in let cvd = c.args.cvd
    in let vids = c.args.vids.now
    in let file = c.args.file
    in let r = c.checkout.result
    in let f = c.checkout.ensures
    in let set = set_in k.held.numbers cvd
    in let served : IsServed user user (asks.Checkout cvd vids file None) r k k stage staged old new
    = record {
      goes = record { told = f.looked.told; kept = f.looked.kept; faults = f.looked.faults; fetched = f.looked.fetched };
      attended = f.attended;
      still = λ is. refl;
      fetched = fetched_refused cvd (scan_off k.held.numbers cvd vids) (bytes_in set vids) old.fetched new.fetched f.fetched (λ off is. ap (λ (s : State). s.fetched) (f.unread off is));
      unread = λ is. let there = refused_there cvd (scan_off k.held.numbers cvd vids) is in ap (λ (s : State). s.fetched) (f.unread there.0 there.1);
      cause = f.cause;
      stage_cause = f.stage;
      damaged = damages_wider _ _ r (checkout_damaged user cvd vids file stage k.held k.held new) f.damaged;
      undamaged = f.undamaged;
      whole = λ page told. map_ok _ _ r (λ clear met. clear (checkout_met user cvd vids file stage k.held k.held old page met)) (f.whole page told);
      missed = seen_missed _ r f.seen;
      idle = checkout_idle cvd vids file k stage staged old new r f.idle;
      begins_none = λ quiet none. on_any _ r none;
      usable = on_any _ r (may_call_later k old new f.looked c.requires.call);
      by_journal = λ by fine. journal_looked k.held old new f.looked by;
      at = λ w at. on_any _ r (at_looked w k.held old new at f.looked);
      acts = λ w told at. f.acts w user told at;
    }
    in subst (λ (table : Option (List ℕ)). IsServed user user (asks.Checkout cvd vids file table) r k k stage staged old new) (sym c.in-None.is) served

pub returns-in-Some : goal.returns-in-Some
returns-in-Some g c =
    let user = c.args.user.now
    in let stage = g.T.Stage.staged c.args.stage.now
    in let staged = g.T.Stage.staged c.stage_table.new.stage
    in subst (λ (table : Option (List ℕ)). IsServed user user (asks.Checkout c.args.cvd c.args.vids.now c.args.file table) c.stage_table.result c.args.store.now c.stage_table.new.store stage staged
    (g.H.Host.state c.args.host.now) (g.H.Host.state c.stage_table.new.host)) (sym c.in-Some.is) (c.stage_table.ensures c.args.file)
