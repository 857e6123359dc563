use Rattle.std.proofs.Common.{rules, ◌≡◌, map, sym, subst}
use Rattle.std.specs.Prelude.{Some}
use Rattle.ov_host.specs.declared.area.Extent.{Extent}
use Rattle.ov_catalog.specs.Numbers.{Numbers}
use Rattle.ov_catalog.specs.Sets as sets
use Rattle.ov_fetch.specs.Scans.{rows_at}
use Rattle.ov_store.specs.Scanning.{set_in}
use Rattle.ov_session.proofs.Lookups.{is_merge_of, schema_is}
use Rattle.ov_session.proofs.Bounds.{fetched_none, fetched_there}
use Rattle.ov_session.proofs.Meeting.{whole_in}
use Rattle.ov_session.proofs.reading.merged.Goals as goal

pub returns-in_err-scan-clause-world : goal.returns-in_err-scan-clause-world
returns-in_err-scan-clause-world g c = λ w d at named. let fact = c.in_err-scan.ensures.world w d at named in search (rules, fact)

pub returns-clause-world : goal.returns-clause-world
returns-clause-world g c = λ w d at named.
    let found : set_in c.args.store.now.held.numbers c.args.cvd.now ≡ Some (sets.set_in c.in-Some.d.now)
    = subst (λ (n : Numbers Extent Extent). set_in n c.args.cvd.now ≡ Some (sets.set_in c.in-Some.d.now)) c.catalog.ensures (sym c.in-Some.ensures.found)
    in is_merge_of d c.args.vids.now c.in_ok-checkout_of.field-0 c.in-Some.d.now.schema (map (rows_at c.in_ok-scan.scan.records) c.in_ok-scan.scan.picks)
    (schema_is w c.args.store.now.held (g.H.Host.state c.args.host.now) at c.args.cvd.now d named (sets.set_in c.in-Some.d.now) found)
    (c.in_ok-scan.ensures.world w d at named) c.in_ok-checkout_of.ensures.text c.in_ok-checkout_of.ensures.rows

pub returns-in_err-scan-clause-fetched : goal.returns-in_err-scan-clause-fetched
returns-in_err-scan-clause-fetched g c =
    fetched_there (set_in c.args.store.now.held.numbers c.args.cvd.now) c.args.vids.now (g.H.Host.state c.args.host.now).fetched (g.H.Host.state c.scan.new.host).fetched
    (sets.set_in c.in-Some.d.now, subst (λ (n : Numbers Extent Extent). set_in n c.args.cvd.now ≡ Some (sets.set_in c.in-Some.d.now)) c.catalog.ensures (sym c.in-Some.ensures.found))
    (λ set is. c.scan.ensures.fetched set is)

pub returns-in_err-checkout_of-clause-fetched : goal.returns-in_err-checkout_of-clause-fetched
returns-in_err-checkout_of-clause-fetched g c =
    fetched_there (set_in c.args.store.now.held.numbers c.args.cvd.now) c.args.vids.now (g.H.Host.state c.args.host.now).fetched (g.H.Host.state c.scan.new.host).fetched
    (sets.set_in c.in-Some.d.now, subst (λ (n : Numbers Extent Extent). set_in n c.args.cvd.now ≡ Some (sets.set_in c.in-Some.d.now)) c.catalog.ensures (sym c.in-Some.ensures.found))
    (λ set is. c.scan.ensures.fetched set is)

pub returns-clause-fetched : goal.returns-clause-fetched
returns-clause-fetched g c =
    fetched_there (set_in c.args.store.now.held.numbers c.args.cvd.now) c.args.vids.now (g.H.Host.state c.args.host.now).fetched (g.H.Host.state c.scan.new.host).fetched
    (sets.set_in c.in-Some.d.now, subst (λ (n : Numbers Extent Extent). set_in n c.args.cvd.now ≡ Some (sets.set_in c.in-Some.d.now)) c.catalog.ensures (sym c.in-Some.ensures.found))
    (λ set is. c.scan.ensures.fetched set is)

pub returns-in_default-clause-fetched : goal.returns-in_default-clause-fetched
returns-in_default-clause-fetched g c = fetched_none _ _

pub returns-clause-whole : goal.returns-clause-whole
returns-clause-whole g c = λ page told.
    let found : set_in c.args.store.now.held.numbers c.args.cvd.now ≡ Some (sets.set_in c.in-Some.d.now)
    = subst (λ (n : Numbers Extent Extent). set_in n c.args.cvd.now ≡ Some (sets.set_in c.in-Some.d.now)) c.catalog.ensures (sym c.in-Some.ensures.found)
    in whole_in (set_in c.args.store.now.held.numbers c.args.cvd.now) (sets.set_in c.in-Some.d.now) c.args.vids.now (g.H.Host.state c.args.host.now) page found told
    (c.in_ok-scan.ensures.undamaged (sets.set_in c.in-Some.d.now) told found)

pub returns-in_err-scan-clause-unread : goal.returns-in_err-scan-clause-unread
returns-in_err-scan-clause-unread g c = λ off is. c.scan.ensures.unread off is

pub returns-in_err-checkout_of-clause-unread : goal.returns-in_err-checkout_of-clause-unread
returns-in_err-checkout_of-clause-unread g c = λ off is. c.scan.ensures.unread off is

pub returns-clause-unread : goal.returns-clause-unread
returns-clause-unread g c = λ off is. c.scan.ensures.unread off is
