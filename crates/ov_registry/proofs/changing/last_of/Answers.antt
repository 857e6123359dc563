use Rattle.std.proofs.Common.{◌≡◌, ◌∙◌, length, sym, ap, subst, arith}
use Rattle.std.specs.Prelude.{Some, None}
use Rattle.std.specs.Option.{option_map}
use Rattle.std.proofs.lemmas.List.{length-map}
use Rattle.ov_host.specs.declared.area.Extent.{Extent}
use Rattle.ov_catalog.specs.Numbers.{Numbers}
use Rattle.ov_catalog.specs.Sets as sets
use Rattle.ov_store.specs.Committing.{Set}
use Rattle.ov_store.specs.Scanning.{set_in}
use Rattle.ov_registry.proofs.changing.last_of.Goals as goal

pub returns-in-Some-clause-last : goal.returns-in-Some-clause-last
returns-in-Some-clause-last c =
    let named : set_in c.args.store.now.held.numbers c.args.name.now ≡ Some (sets.set_in c.in-Some.d.now)
    = subst (λ (n : Numbers Extent Extent). set_in n c.args.name.now ≡ Some (sets.set_in c.in-Some.d.now)) c.catalog.ensures (sym c.in-Some.ensures.found)
    in ap Some c.last_version.ensures ∙ sym (ap (option_map (λ (set : Set). length set.versions)) named)

pub returns-in-Some-clause-some : goal.returns-in-Some-clause-some
returns-in-Some-clause-some c =
    omega (arith, c.in-Some.ensures.sound.some, c.last_version.ensures, length-map c.in-Some.d.now.versions.items sets.version_in)

pub returns-in-None-clause-last : goal.returns-in-None-clause-last
returns-in-None-clause-last c =
    let none : set_in c.args.store.now.held.numbers c.args.name.now ≡ None
    = subst (λ (n : Numbers Extent Extent). set_in n c.args.name.now ≡ None) c.catalog.ensures (sym c.in-None.ensures.found)
    in sym (ap (option_map (λ (set : Set). length set.versions)) none)
