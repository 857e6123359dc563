-- The next record is the first of those that are left.
use Rattle.std.proofs.Common.{refl}
use Rattle.csv.specs.declared.parser.State.TheVariants as st
use Rattle.ov_csv.proofs.Between.{records_after-next, records_after-none}
use Rattle.ov_csv.proofs.PlainLemmas.{none_left, on_err}
use Rattle.ov_csv.proofs.lines.Lines.next.Goals as goal

pub returns-in_err-more-clause-err : goal.returns-in_err-more-clause-err
returns-in_err-more-clause-err c = on_err c.from_residual.result _ none_left

pub returns-in-Some-2-clause-ok : goal.returns-in-Some-2-clause-ok
returns-in-Some-2-clause-ok c =
    let next = rw c.in-Some-2.is at c.in_ok-more.ensures in
    rw (← c.self.view_is, c.in-Some.is) (records_after-next st.StartRecord c.in-Some.rest.now (c.cut.new.self, st.StartRecord, c.in-Some-2.more.now) refl next.0)

pub returns-in-None-clause-ok : goal.returns-in-None-clause-ok
returns-in-None-clause-ok c =
    let next = rw c.in-None.is at c.in_ok-more.ensures in
    (rw (← c.self.view_is, c.in-Some.is) (records_after-none st.StartRecord c.in-Some.rest.now next), none_left)
