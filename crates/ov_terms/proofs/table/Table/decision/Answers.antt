-- What is said of one row of the version is said of all.
use Rattle.ov_terms.proofs.OfVersions.{of-any-row}
use Rattle.ov_terms.proofs.table.Table.decision.Goals as goal

pub returns : goal.returns
returns c = λ row.
    of-any-row c.args.self.now c.args.vid c.args.cond.now c.truth.result row (c.is_of_version.ensures c.if-not-is_of_version.false)
    (rw c.from_ref.ensures.value at c.truth.ensures)
