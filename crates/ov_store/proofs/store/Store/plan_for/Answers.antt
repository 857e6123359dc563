use Rattle.std.proofs.Common.{rules, ◌≡◌, ap, subst, sym}
use Rattle.std.specs.Prelude.{Some}
use Rattle.ov_fetch.specs.Extents.{page_bytes}
use Rattle.ov_catalog.specs.Applying.{set_numbered}
use Rattle.ov_catalog.specs.Sets as sets
use Rattle.ov_core.specs.Held.{IsReplayed}
use Rattle.ov_store.specs.Planning.{IsPlanRefused, of_read, optimize_refused}
use Rattle.ov_store.specs.Scanning.{set_in}
use Rattle.ov_store.proofs.Begun.{read_refused}
use Rattle.ov_store.proofs.Deciding.{world_named}
use Rattle.ov_store.proofs.Numbers.{named_numbered}
use Rattle.ov_store.proofs.Plans.{plan_asks, world_refuses}
use Rattle.ov_store.proofs.Seeing.{found_set}
use Rattle.ov_store.proofs.store.Store.plan_for.Goals as goal

pub returns-in_err-d-clause-refused : goal.returns-in_err-d-clause-refused
returns-in_err-d-clause-refused g c = λ w at.
    let fact : IsPlanRefused c.args.name.now (optimize_refused w c.args.name.now c.args.p c.args.q) c.in_err-d.field-0.0
    = world_refuses w c.args.self.now.held (g.H.Host.state c.args.host.now) at c.args.name.now c.args.p c.args.q c.in_err-d.field-0.0 c.in_err-d.ensures.why
    in search (rules, fact)

pub returns-in_err-plan_of-clause-refused : goal.returns-in_err-plan_of-clause-refused
returns-in_err-plan_of-clause-refused g c = λ w at.
    let there = world_named w c.args.self.now.held (g.H.Host.state c.args.host.now) at c.args.name.now (sets.set_in c.in_ok-d.d.now) c.in_ok-d.ensures.found
    in let of = found_set w c.args.self.now.held (g.H.Host.state c.args.host.now) at c.args.name.now (sets.set_in c.in_ok-d.d.now) there.0 c.in_ok-d.ensures.found there.1
    in let fact : IsPlanRefused c.args.name.now (optimize_refused w c.args.name.now c.args.p c.args.q) (of_read c.in_err-plan_of.field-0.0)
    = read_refused c.args.name.now (optimize_refused w c.args.name.now c.args.p c.args.q) c.in_err-plan_of.field-0.0 (c.in_err-plan_of.ensures.world at.at.told w there.0 of)
    in search (rules, fact)

pub returns-clause-applies : goal.returns-clause-applies
returns-clause-applies g c =
    let numbers : c.self.inside.core.numbers ≡ c.args.self.now.held.numbers = ap (λ kept. kept.held.numbers) c.self.view_is
    in let replayed : IsReplayed c.args.self.now.held.numbers = subst (λ n. IsReplayed n) numbers c.is_replayed.ensures
    in let numbered : set_numbered (sets.set_in c.in_ok-d.d.now).number c.args.self.now.held.numbers ≡ Some (sets.set_in c.in_ok-d.d.now)
    = subst (λ n. set_numbered (sets.set_in c.in_ok-d.d.now).number n ≡ Some (sets.set_in c.in_ok-d.d.now)) (sym replayed.are)
    (named_numbered replayed.format replayed.events replayed.follow c.args.name.now (sets.set_in c.in_ok-d.d.now) (subst (λ n. set_in n c.args.name.now ≡ Some (sets.set_in c.in_ok-d.d.now)) replayed.are c.in_ok-d.ensures.found))
    in c.in_ok-plan_of.ensures.applies c.args.self.now.held.numbers numbered c.args.self.now.held.journal.format

pub returns-clause-asks : goal.returns-clause-asks
returns-clause-asks g c = λ w d at named.
    let of = found_set w c.args.self.now.held (g.H.Host.state c.args.host.now) at c.args.name.now (sets.set_in c.in_ok-d.d.now) d c.in_ok-d.ensures.found named
    in plan_asks w c.args.self.now.held (g.H.Host.state c.args.host.now) at c.args.name.now c.args.p c.args.q c.in_ok-d.ensures.allowed d c.in_ok-plan_of.field-0.event named
    (c.in_ok-plan_of.ensures.world at.at.told w d of).0

pub returns-clause-report : goal.returns-clause-report
returns-clause-report g c = λ w d at named.
    let of = found_set w c.args.self.now.held (g.H.Host.state c.args.host.now) at c.args.name.now (sets.set_in c.in_ok-d.d.now) d c.in_ok-d.ensures.found named
    in (c.in_ok-plan_of.ensures.world at.at.told w d of).1
