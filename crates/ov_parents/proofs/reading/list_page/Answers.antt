use Rattle.std.proofs.Common.{sym, ap}
use Rattle.ov_host.specs.declared.area.Extent.{Extent}
use Rattle.ov_read.proofs.Numbered.{there, list_is}
use Rattle.ov_parents.proofs.reading.list_page.Goals as goal

pub returns : goal.returns
returns c =
    let d = c.args.d.now in
    sym (ap (λ (e : Extent). e.page) (list_is d c.args.vid c.index.result.now (there d c.args.vid c.requires) c.index.ensures))
