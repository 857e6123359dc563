use Rattle.std.proofs.Common.{rules, ◌≡◌, ◌∙◌, ap, subst, sym}
use Rattle.std.specs.Prelude.{None, Some}
use Rattle.std.specs.List.{AllZip}
use Rattle.ov_fetch.specs.Extents.{page_bytes}
use Rattle.ov_catalog.specs.Applying.{set_numbered}
use Rattle.ov_catalog.specs.Sets as sets
use Rattle.ov_core.specs.Held.{IsReplayed}
use Rattle.ov_optimize.specs.Planned.{IsPlanned}
use Rattle.ov_optimize.proofs.VersionLists.{parts_refuse_plan}
use Rattle.ov_optimize.proofs.Worlds.{made_is, spared}
use Rattle.ov_store.specs.Planning.{IsPlanBy, IsPlanRefused, of_read}
use Rattle.ov_store.specs.Scanning.{set_in}
use Rattle.ov_store.specs.Thresholds.{IsUnreadied}
use Rattle.ov_store.proofs.Begun.{read_refused}
use Rattle.ov_store.proofs.Chosen.{read_unreadied}
use Rattle.ov_store.proofs.Deciding.{world_named}
use Rattle.ov_store.proofs.Numbers.{named_numbered}
use Rattle.ov_store.proofs.Plans.{never_refused, plan_asks}
use Rattle.ov_store.proofs.Seeing.{found_set}
use Rattle.ov_store.proofs.Whole.{the_set}
use Rattle.ov_store.proofs.store.Store.plan_from.Goals as goal

-- ---- it may begin

pub returns-in_err-d-clause-why : goal.returns-in_err-d-clause-why
returns-in_err-d-clause-why g c = absurd (never_refused c.in_err-d.field-0.0 c.requires.allowed c.in_err-d.ensures.why)

pub returns-in_err-d-clause-refused : goal.returns-in_err-d-clause-refused
returns-in_err-d-clause-refused g c = λ w at. absurd (never_refused c.in_err-d.field-0.0 c.requires.allowed c.in_err-d.ensures.why)

pub plan_with-requires-clause-lists : goal.plan_with-requires-clause-lists
plan_with-requires-clause-lists g c = (c.requires.listed (sets.set_in c.in_ok-d.d.now) c.in_ok-d.ensures.found).are

pub plan_with-requires-clause-split : goal.plan_with-requires-clause-split
plan_with-requires-clause-split g c = c.requires.split (sets.set_in c.in_ok-d.d.now) c.in_ok-d.ensures.found

-- ---- what it reads is damaged, or there is no memory

pub returns-in_err-plan_with-clause-why : goal.returns-in_err-plan_with-clause-why
returns-in_err-plan_with-clause-why g c =
    let fact : IsUnreadied (g.H.Host.state c.args.host.now) (g.H.Host.state c.plan_with.new.host) (set_in c.args.self.now.held.numbers c.args.name.now) (of_read c.in_err-plan_with.field-0.0)
    = read_unreadied (set_in c.args.self.now.held.numbers c.args.name.now) (sets.set_in c.in_ok-d.d.now) (g.H.Host.state c.args.host.now) (g.H.Host.state c.plan_with.new.host) c.in_err-plan_with.field-0.0
    c.in_ok-d.ensures.found (search rules) c.in_err-plan_with.ensures.refuses
    in search (rules, fact)

pub returns-in_err-plan_with-clause-refused : goal.returns-in_err-plan_with-clause-refused
returns-in_err-plan_with-clause-refused g c = λ w at.
    let area = page_bytes (g.H.Host.state c.args.host.now)
    in let s = sets.set_in c.in_ok-d.d.now
    in let there = world_named w c.args.self.now.held (g.H.Host.state c.args.host.now) at c.args.name.now s c.in_ok-d.ensures.found
    in let of = found_set w c.args.self.now.held (g.H.Host.state c.args.host.now) at c.args.name.now s there.0 c.in_ok-d.ensures.found there.1
    in let e = c.in_err-plan_with.field-0.0
    in let fact : IsPlanRefused c.args.name.now None (of_read c.in_err-plan_with.field-0.0)
    = read_refused c.args.name.now None e (spared w there.0 area s of e (parts_refuse_plan e area s (c.in_err-plan_with.ensures.refuses at.at.told)))
    in search (rules, fact)

-- ---- it is ready

pub returns-clause-by : goal.returns-clause-by
returns-clause-by g c = λ s named.
    let lists = c.requires.listed (sets.set_in c.in_ok-d.d.now) c.in_ok-d.ensures.found
    in subst (λ x. IsPlanBy x c.args.p c.args.q (g.H.Host.state c.args.host.now) c.in_ok-plan_with.field-0) (the_set (sets.set_in c.in_ok-d.d.now) s (sym c.in_ok-d.ensures.found ∙ named))
    (record { made = c.in_ok-plan_with.ensures.made; read = λ told. c.in_ok-plan_with.ensures.says told (lists.read told) })

pub returns-clause-applies : goal.returns-clause-applies
returns-clause-applies g c =
    let numbers : c.self.inside.core.numbers ≡ c.args.self.now.held.numbers = ap (λ kept. kept.held.numbers) c.self.view_is
    in let replayed : IsReplayed c.args.self.now.held.numbers = subst (λ n. IsReplayed n) numbers c.is_replayed.ensures
    in let numbered : set_numbered (sets.set_in c.in_ok-d.d.now).number c.args.self.now.held.numbers ≡ Some (sets.set_in c.in_ok-d.d.now)
    = subst (λ n. set_numbered (sets.set_in c.in_ok-d.d.now).number n ≡ Some (sets.set_in c.in_ok-d.d.now)) (sym replayed.are)
    (named_numbered replayed.format replayed.events replayed.follow c.args.name.now (sets.set_in c.in_ok-d.d.now) (subst (λ n. set_in n c.args.name.now ≡ Some (sets.set_in c.in_ok-d.d.now)) replayed.are c.in_ok-d.ensures.found))
    in c.in_ok-plan_with.ensures.applies c.args.self.now.held.numbers numbered c.args.self.now.held.journal.format

pub returns-clause-asks : goal.returns-clause-asks
returns-clause-asks g c = λ w d at named.
    let area = page_bytes (g.H.Host.state c.args.host.now)
    in let s = sets.set_in c.in_ok-d.d.now
    in let of = found_set w c.args.self.now.held (g.H.Host.state c.args.host.now) at c.args.name.now s d c.in_ok-d.ensures.found named
    in let lists = c.requires.listed s c.in_ok-d.ensures.found
    in plan_asks w c.args.self.now.held (g.H.Host.state c.args.host.now) at c.args.name.now c.args.p c.args.q c.requires.allowed d c.in_ok-plan_with.field-0.event named
    (made_is w d area s of c.args.p c.args.q c.in_ok-plan_with.field-0 c.in_ok-plan_with.ensures.made (c.in_ok-plan_with.ensures.says at.at.told (lists.read at.at.told))).0

pub returns-clause-report : goal.returns-clause-report
returns-clause-report g c = λ w d at named.
    let area = page_bytes (g.H.Host.state c.args.host.now)
    in let s = sets.set_in c.in_ok-d.d.now
    in let of = found_set w c.args.self.now.held (g.H.Host.state c.args.host.now) at c.args.name.now s d c.in_ok-d.ensures.found named
    in let lists = c.requires.listed s c.in_ok-d.ensures.found
    in (made_is w d area s of c.args.p c.args.q c.in_ok-plan_with.field-0 c.in_ok-plan_with.ensures.made (c.in_ok-plan_with.ensures.says at.at.told (lists.read at.at.told))).1
