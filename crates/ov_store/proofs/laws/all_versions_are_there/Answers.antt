use Rattle.ov_store.specs.Scanning.{set_in}
use Rattle.ov_store.proofs.Whole.{off_is}
use Rattle.ov_store.proofs.laws.all_versions_are_there.Goals as goal

pub returns : goal.returns
returns c = λ n name. off_is (set_in n name)
