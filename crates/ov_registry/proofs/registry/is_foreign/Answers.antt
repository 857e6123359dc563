use Rattle.std.proofs.Common.{◌≡◌, ◌∙◌, List, ℕ, sym, ap, subst}
use Rattle.std.specs.Prelude.{not, Some, None}
use Rattle.ov_host.specs.declared.area.Extent.{Extent}
use Rattle.ov_catalog.specs.Numbers.{Numbers}
use Rattle.ov_catalog.specs.Sets as sets
use Rattle.ov_model.specs.Registry.{is_foreign, is_same_schema}
use Rattle.ov_store.specs.Scanning.{set_in}
use Rattle.ov_store.proofs.Deciding.{counts, none_named, world_named}
use Rattle.ov_registry.specs.Last.{name_of, schema_of}
use Rattle.ov_registry.proofs.registry.is_foreign.Goals as goal

pub returns-in-Some-clause-world : goal.returns-in-Some-clause-world
returns-in-Some-clause-world c = λ w s at.
    let held = c.args.store.now.held
    in let name = name_of c.args.which
    in let set = sets.set_in c.in-Some.d.now
    in let named : set_in held.numbers name ≡ Some set
    = subst (λ (m : List ℕ). set_in held.numbers m ≡ Some set) c.name.ensures
    (subst (λ (n : Numbers Extent Extent). set_in n c.name.result.now ≡ Some set) c.catalog.ensures (sym c.in-Some.ensures.found))
    in let there = world_named w held s at name set named
    in let schema = (counts w held s at name there.0 there.1 set named).schema
    in ap not (c.is_same_schema.ensures ∙ (λ i. is_same_schema (schema i) (c.in_ok-own.ensures i)))
    ∙ sym (ap (is_foreign (schema_of c.args.which)) there.1)

pub returns-clause-world : goal.returns-clause-world
returns-clause-world c = λ w s at.
    let held = c.args.store.now.held
    in let name = name_of c.args.which
    in let none : set_in held.numbers name ≡ None
    = subst (λ (m : List ℕ). set_in held.numbers m ≡ None) c.name.ensures
    (subst (λ (n : Numbers Extent Extent). set_in n c.name.result.now ≡ None) c.catalog.ensures (sym c.in-None.ensures.found))
    in sym (ap (is_foreign (schema_of c.args.which)) (none_named w held s at name none))
