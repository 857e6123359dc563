use Rattle.ov_host.specs.declared.area.Extent.{Extent}
use Rattle.ov_catalog.proofs.Moving.{snapshot_numbers, snapshot_replayed, world_replayed}
use Rattle.ov_catalog.proofs.laws.a_snapshot_says_the_world.Goals as goal

pub returns-clause-numbers : goal.returns-clause-numbers
returns-clause-numbers c = snapshot_replayed {L = Extent} {S = Extent}

pub returns-clause-world : goal.returns-clause-world
returns-clause-world c = world_replayed

pub returns-clause-spelled : goal.returns-clause-spelled
returns-clause-spelled c = snapshot_numbers
