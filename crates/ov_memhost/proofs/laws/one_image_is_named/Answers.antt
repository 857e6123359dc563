use Rattle.ov_memhost.proofs.Allowed.{named_one}
use Rattle.ov_memhost.proofs.laws.one_image_is_named.Goals as goal

pub returns : goal.returns
returns c = named_one
