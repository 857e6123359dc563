use Rattle.ov_new_version.proofs.Served.{joined_serves}
use Rattle.ov_new_version.proofs.serving.a_joined_partition_serves_a_parent.Goals as goal

pub returns : goal.returns
returns c = joined_serves
