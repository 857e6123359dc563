use Rattle.std.proofs.Common.{[]}
use Rattle.ov_gen.proofs.Orders.{in-order, not-repeated}
use Rattle.ov_gen.proofs.laws.ascending_rows_are_in_order.Goals as goal

pub returns-clause-order : goal.returns-clause-order
returns-clause-order c = λ schema rows are. in-order schema rows are

pub returns-clause-once : goal.returns-clause-once
returns-clause-once c = λ schema rows are. not-repeated schema [] rows 1 _ are
