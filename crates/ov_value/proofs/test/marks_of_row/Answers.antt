use Rattle.std.proofs.Common.{subst}
use Rattle.ov_value.specs.Reading.{Spelled}
use Rattle.ov_value.proofs.Standing.{plain_row, plain_can}
use Rattle.ov_value.proofs.test.marks_of_row.Goals as goal

pub returns-in-None-clause-none : goal.returns-in-None-clause-none
returns-in-None-clause-none c row spelled =
    c.in-None.ensures.none (plain_can c.args.columns.now c.args.bytes.now row (subst (λ m. Spelled c.args.columns.now m c.args.bytes.now row) c.if-marked.false spelled))

pub returns-in-Some-clause-found : goal.returns-in-Some-clause-found
returns-in-Some-clause-found c = rw c.if-marked.false (plain_row c.args.columns.now c.args.bytes.now c.in-Some.ensures.found)
