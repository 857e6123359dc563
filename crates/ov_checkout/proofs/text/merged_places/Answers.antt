use Rattle.ov_checkout.proofs.Standing.{merge_stands}
use Rattle.ov_checkout.proofs.text.merged_places.Goals as goal

pub returns-clause-stand : goal.returns-clause-stand
returns-clause-stand c = merge_stands c.args.schema.now c.args.scan.now.records c.args.scan.now.picks c.in_ok-places.places c.requires.stand c.in_ok-places.ensures.first
