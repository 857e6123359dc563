use Rattle.std.proofs.Common.{List, ap, ◌∙◌}
use Rattle.ov_host.specs.declared.area.Extent.{Extent}
use Rattle.ov_catalog.specs.declared.cvd.Cvd.{Cvd}
use Rattle.ov_catalog.specs.Numbers.{Numbers, SetNumbers}
use Rattle.ov_catalog.specs.Sets.{sets_in}
use Rattle.ov_catalog.proofs.RoomLemmas.{sets-stay}
use Rattle.ov_catalog.proofs.SetLemmas.{stay-in}
use Rattle.ov_catalog.proofs.catalog.Catalog.drop_set.Goals as goal

pub invariant_of-self : goal.invariant_of-self
invariant_of-self c =
    let inside = c.self.inside in
    (rw c.drop_from.ensures.left (sets-stay c.args.cvd inside.next inside.sets.items c.self.invariant.0), tt, tt)

pub returns-clause-dropped : goal.returns-clause-dropped
returns-clause-dropped c =
    let inside = c.self.inside in
    let all = ap (λ (ds : List Cvd). sets_in ds) c.drop_from.ensures.left ∙ stay-in c.args.cvd inside.sets.items in
    rw (← c.self.view_is) (ap {B = Numbers Extent Extent} (λ (sets : List (SetNumbers Extent Extent)). record { next = inside.next; sets = sets }) all)
