use Rattle.ov_new_version.proofs.Undamaged.{read_whole}
use Rattle.ov_new_version.proofs.serving.a_partition_that_is_read_is_whole.Goals as goal

pub returns : goal.returns
returns c = read_whole
