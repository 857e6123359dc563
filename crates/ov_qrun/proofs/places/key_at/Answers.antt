use Rattle.std.proofs.Common.{◌∙◌, ap}
use Rattle.ov_terms.specs.Seeing.{cell_of}
use Rattle.ov_qrun.proofs.Ordering.{cell-there}
use Rattle.ov_qrun.proofs.places.key_at.Goals as goal

pub returns-in-Some : goal.returns-in-Some
returns-in-Some c =
    ap cell_of c.in-Some.ensures.lookup.1 ∙ cell-there cell_of c.args.keys.now c.args.at c.in-Some.seen.now c.in-Some.ensures.lookup.3.0
