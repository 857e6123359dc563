use Rattle.ov_catalog.proofs.Ascending.{order_is_by_rid}
use Rattle.ov_catalog.proofs.telling.order_is_by_rid.Goals as goal

pub returns : goal.returns
returns c = order_is_by_rid
