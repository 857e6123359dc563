use Rattle.std.proofs.Common.{◌≡◌, ◌∙◌, sym, subst}
use Rattle.std.specs.Prelude.{Some}
use Rattle.ov_host.specs.declared.area.Extent.{Extent}
use Rattle.ov_catalog.specs.Numbers.{Numbers}
use Rattle.ov_catalog.specs.Sets as sets
use Rattle.ov_listing.proofs.ShowingLayout.{read_of_parts}
use Rattle.ov_store.specs.Scanning.{set_in}
use Rattle.ov_choose.proofs.Costs.{cost_shown}
use Rattle.ov_choose.proofs.allowing.present_cost.Goals as goal

pub returns-clause-world : goal.returns-clause-world
returns-clause-world c = λ w d t at named.
    let found : set_in c.args.store.now.held.numbers c.args.name.now ≡ Some (sets.set_in c.in-Some.d.now)
    = subst (λ (n : Numbers Extent Extent). set_in n c.args.name.now ≡ Some (sets.set_in c.in-Some.d.now)) c.catalog.ensures (sym c.in-Some.ensures.found)
    in c.cost.ensures ∙ sym (read_of_parts c.in-Some.d.now.layout.parts) ∙ cost_shown w c.args.store.now.held t at c.args.name.now (sets.set_in c.in-Some.d.now) d found named
