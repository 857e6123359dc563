use Rattle.ov_value.specs.Order.{key_cmp_total, key_cmp-ties_decide}
use Rattle.ov_value.proofs.laws.key_order.Goals as goal

pub returns : goal.returns
returns c = record { total = key_cmp_total; ties = key_cmp-ties_decide }
