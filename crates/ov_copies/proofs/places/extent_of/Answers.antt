use Rattle.std.proofs.Common.{sym}
use Rattle.ov_read.proofs.Numbered.{list_is, there}
use Rattle.ov_copies.proofs.places.extent_of.Goals as goal

pub returns : goal.returns
returns c = sym (list_is c.args.d.now c.args.vid c.index.result.now (there c.args.d.now c.args.vid c.requires) c.index.ensures)
