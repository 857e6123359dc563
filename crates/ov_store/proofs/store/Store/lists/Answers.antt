use Rattle.std.proofs.Common.{rules, ◌≡◌, ◌∙◌, sym, ap, subst}
use Rattle.std.specs.Prelude.{Some}
use Rattle.std.specs.List.{AllZip}
use Rattle.ov_host.specs.declared.area.Extent.{Extent}
use Rattle.ov_fetch.specs.Extents.{page_bytes}
use Rattle.ov_catalog.specs.Numbers.{Numbers}
use Rattle.ov_catalog.specs.Sets as sets
use Rattle.ov_optimize.specs.Damages.{IsListDamage}
use Rattle.ov_optimize.proofs.VersionLists.{lists_refuse_plan}
use Rattle.ov_optimize.proofs.Worlds as worlds
use Rattle.ov_store.specs.Errors.{of_fetch}
use Rattle.ov_store.specs.Scanning.{IsUndamaged, set_in}
use Rattle.ov_store.specs.Thresholds.{AreListsOf, IsUnlisted}
use Rattle.ov_store.proofs.Chosen.{read_unlisted}
use Rattle.ov_store.proofs.Seeing.{found_set, spared}
use Rattle.ov_store.proofs.Unhurt.{lists_whole}
use Rattle.ov_store.proofs.Whole.{the_set}
use Rattle.ov_store.proofs.store.Store.lists.Goals as goal

pub returns-in_err-all_lists-clause-why : goal.returns-in_err-all_lists-clause-why
returns-in_err-all_lists-clause-why g c =
    let found : set_in c.args.self.now.held.numbers c.args.name.now ≡ Some (sets.set_in c.in-Some.d.now)
    = subst (λ (n : Numbers Extent Extent). set_in n c.args.name.now ≡ Some (sets.set_in c.in-Some.d.now)) (c.catalog.ensures ∙ ap (λ kept. kept.held.numbers) c.self.view_is) (sym c.in-Some.ensures.found)
    in let fact : IsUnlisted (set_in c.args.self.now.held.numbers c.args.name.now) (g.H.Host.state c.args.host.now) (g.H.Host.state c.all_lists.new.host) (of_fetch c.in_err-all_lists.field-0.0)
    = read_unlisted (set_in c.args.self.now.held.numbers c.args.name.now) (sets.set_in c.in-Some.d.now) (g.H.Host.state c.args.host.now) (g.H.Host.state c.all_lists.new.host) c.in_err-all_lists.field-0.0 found
    (search rules) c.in_err-all_lists.ensures.answer
    in search (rules, fact)

pub returns-in_err-all_lists-clause-world : goal.returns-in_err-all_lists-clause-world
returns-in_err-all_lists-clause-world g c = λ w d at named.
    let found : set_in c.args.self.now.held.numbers c.args.name.now ≡ Some (sets.set_in c.in-Some.d.now)
    = subst (λ (n : Numbers Extent Extent). set_in n c.args.name.now ≡ Some (sets.set_in c.in-Some.d.now)) (c.catalog.ensures ∙ ap (λ kept. kept.held.numbers) c.self.view_is) (sym c.in-Some.ensures.found)
    in let area = page_bytes (g.H.Host.state c.args.host.now)
    in let s = sets.set_in c.in-Some.d.now
    in let e = c.in_err-all_lists.field-0.0
    in let of = found_set w c.args.self.now.held (g.H.Host.state c.args.host.now) at c.args.name.now s d found named
    in let fact : IsUndamaged (of_fetch c.in_err-all_lists.field-0.0)
    = spared e (worlds.spared w d area s of e (lists_refuse_plan e area s (c.in_err-all_lists.ensures.answer at.at.told)))
    in search (rules, fact)

pub returns-clause-listed : goal.returns-clause-listed
returns-clause-listed g c = λ s named.
    let found : set_in c.args.self.now.held.numbers c.args.name.now ≡ Some (sets.set_in c.in-Some.d.now)
    = subst (λ (n : Numbers Extent Extent). set_in n c.args.name.now ≡ Some (sets.set_in c.in-Some.d.now)) (c.catalog.ensures ∙ ap (λ kept. kept.held.numbers) c.self.view_is) (sym c.in-Some.ensures.found)
    in subst (λ x. AreListsOf x (g.H.Host.state c.args.host.now) c.in_ok-all_lists.field-0.items) (the_set (sets.set_in c.in-Some.d.now) s (sym found ∙ named))
    (record { are = c.in_ok-all_lists.ensures.listed; read = λ told. c.in_ok-all_lists.ensures.answer told })

pub returns-clause-undamaged : goal.returns-clause-undamaged
returns-clause-undamaged g c = λ s told named page.
    let found : set_in c.args.self.now.held.numbers c.args.name.now ≡ Some (sets.set_in c.in-Some.d.now)
    = subst (λ (n : Numbers Extent Extent). set_in n c.args.name.now ≡ Some (sets.set_in c.in-Some.d.now)) (c.catalog.ensures ∙ ap (λ kept. kept.held.numbers) c.self.view_is) (sym c.in-Some.ensures.found)
    in let area = page_bytes (g.H.Host.state c.args.host.now)
    in subst (λ x. IsListDamage (page_bytes (g.H.Host.state c.args.host.now)) x page → ⊥) (the_set (sets.set_in c.in-Some.d.now) s (sym found ∙ named))
    (lists_whole area (sets.set_in c.in-Some.d.now) c.in_ok-all_lists.field-0.items (c.in_ok-all_lists.ensures.answer told) page)

pub returns-clause-world : goal.returns-clause-world
returns-clause-world g c = λ w d at named.
    let found : set_in c.args.self.now.held.numbers c.args.name.now ≡ Some (sets.set_in c.in-Some.d.now)
    = subst (λ (n : Numbers Extent Extent). set_in n c.args.name.now ≡ Some (sets.set_in c.in-Some.d.now)) (c.catalog.ensures ∙ ap (λ kept. kept.held.numbers) c.self.view_is) (sym c.in-Some.ensures.found)
    in let area = page_bytes (g.H.Host.state c.args.host.now)
    in let s = sets.set_in c.in-Some.d.now
    in let of = found_set w c.args.self.now.held (g.H.Host.state c.args.host.now) at c.args.name.now s d found named
    in worlds.lists_are w d area s of c.in_ok-all_lists.field-0.items (c.in_ok-all_lists.ensures.answer at.at.told)
