use Rattle.ov_match.proofs.Named.{costs_named, places_named}
use Rattle.ov_match.proofs.laws.costs_agree.Goals as goal

pub returns : goal.returns
returns c = record { modification = costs_named; places = places_named }
