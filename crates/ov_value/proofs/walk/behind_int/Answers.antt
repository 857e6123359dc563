use Rattle.std.proofs.Common.{arith}
use Rattle.std.proofs.lemmas.List.{take_rest}
use Rattle.ov_value.proofs.Found.{int_found}
use Rattle.ov_value.proofs.walk.behind_int.Goals as goal

pub returns-clause-found : goal.returns-clause-found
returns-clause-found c = rw (take_rest c.args.bytes.now 8) (int_found c.args.bytes.now (λ i. omega (arith, c.type_inv.bytes i)) c.if-bytes-lt8.false)
