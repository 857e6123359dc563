use Rattle.ov_memhost.proofs.Allowed.{named_stop}
use Rattle.ov_memhost.proofs.laws.named_images_are_left_by_stops.Goals as goal

pub returns : goal.returns
returns c kept call cut pages journal pick start image = named_stop kept call cut start pages journal pick image
