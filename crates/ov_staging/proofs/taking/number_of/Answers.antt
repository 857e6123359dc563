use Rattle.std.proofs.Common.{◌≡◌, sym, ap, subst}
use Rattle.std.specs.Prelude.{Some, None}
use Rattle.ov_host.specs.declared.area.Extent.{Extent}
use Rattle.ov_catalog.specs.Numbers.{Numbers}
use Rattle.ov_catalog.specs.Sets as sets
use Rattle.ov_store.specs.Scanning.{set_in}
use Rattle.ov_staging.specs.Taking.{number_in}
use Rattle.ov_staging.proofs.taking.number_of.Goals as goal

pub returns-in-Some : goal.returns-in-Some
returns-in-Some c =
    let named : set_in c.args.store.now.held.numbers c.args.cvd.now ≡ Some (sets.set_in c.in-Some.d.now)
    = subst (λ (n : Numbers Extent Extent). set_in n c.args.cvd.now ≡ Some (sets.set_in c.in-Some.d.now)) c.catalog.ensures (sym c.in-Some.ensures.found)
    in sym (ap number_in named)

pub returns-in-None : goal.returns-in-None
returns-in-None c =
    let none : set_in c.args.store.now.held.numbers c.args.cvd.now ≡ None
    = subst (λ (n : Numbers Extent Extent). set_in n c.args.cvd.now ≡ None) c.catalog.ensures (sym c.in-None.ensures.found)
    in sym (ap number_in none)
