use Rattle.std.proofs.Common.{◌≡◌, sym, subst}
use Rattle.std.specs.Prelude.{Some}
use Rattle.std.specs.List.{AllZip}
use Rattle.ov_host.specs.declared.area.Extent.{Extent}
use Rattle.ov_catalog.specs.Numbers.{Numbers}
use Rattle.ov_catalog.specs.Sets as sets
use Rattle.ov_fetch.specs.Extents.{page_bytes}
use Rattle.ov_optimize.specs.Reading.{IsListAt, all_vids}
use Rattle.ov_store.specs.Scanning.{set_in}
use Rattle.ov_store.proofs.Seeing.{found_set}
use Rattle.ov_choose.proofs.Tables.{whole_by}
use Rattle.ov_choose.proofs.picking.table_of.Goals as goal

pub returns-in-Err-clause-world : goal.returns-in-Err-clause-world
returns-in-Err-clause-world g c = λ w d at named. whole_by c.in-Err.off c.unread.result (c.in-Err.ensures.world w d at named) c.unread.ensures

pub returns-clause-world : goal.returns-clause-world
returns-clause-world g c = λ w d at named.
    let found : set_in c.args.store.now.held.numbers c.args.name.now ≡ Some (sets.set_in c.in-Some.d.now)
    = subst (λ (n : Numbers Extent Extent). set_in n c.args.name.now ≡ Some (sets.set_in c.in-Some.d.now)) c.catalog.ensures (sym c.in-Some.ensures.found)
    in let area = page_bytes (g.H.Host.state c.args.host.now)
    in let s = sets.set_in c.in-Some.d.now
    in let of = found_set w c.args.store.now.held (g.H.Host.state c.args.host.now) at c.args.name.now s d found named
    in c.in_ok-offers.ensures.world w d area of
    (subst (AllZip (IsListAt area s) (all_vids s)) (sym c.deref.ensures.value) ((c.in-Ok.ensures.listed s found).read at.at.told))
