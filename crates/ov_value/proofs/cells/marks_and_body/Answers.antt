use Rattle.std.proofs.Common.{◌≤◌, length, true, subst, sym, arith}
use Rattle.ov_value.specs.Spelling.{kept}
use Rattle.ov_value.specs.Reading.{BeginWithMarks}
use Rattle.ov_value.specs.Decoding.{row_of, AreRow}
use Rattle.ov_value.proofs.MarkLemmas.{spelled_marks}
use Rattle.ov_value.proofs.Standing.{begin_is}
use Rattle.ov_value.proofs.cells.marks_and_body.Goals as goal

-- a row with marks begins with them
pub unreachable-requires : goal.unreachable-requires
unreachable-requires c =
    let are : AreRow c.requires.0 true c.args.bytes.now = subst (λ m. AreRow c.requires.0 m c.args.bytes.now) c.if-not-marked.false c.requires.3 in
    let own = spelled_marks c.requires.0 c.args.bytes.now (row_of c.requires.0 true c.args.bytes.now) are in
    let few : length (kept (row_of c.requires.0 true c.args.bytes.now)) ≤ c.args.most = omega (arith, own.0, c.requires.1) in
    c.in-None.ensures.none _ _ _ few own.1

pub returns-clause-nulls : goal.returns-clause-nulls
returns-clause-nulls c =
    let begin : BeginWithMarks c.args.bytes.now c.in-Some.field-0-0 c.in-Some.nulls c.in-Some.rest.now = c.in-Some.ensures.found.1 in
    rw c.if-not-marked.false (sym (begin_is _ _ _ _ begin).0)

pub returns-clause-body : goal.returns-clause-body
returns-clause-body c =
    let begin : BeginWithMarks c.args.bytes.now c.in-Some.field-0-0 c.in-Some.nulls c.in-Some.rest.now = c.in-Some.ensures.found.1 in
    rw c.if-not-marked.false (sym (begin_is _ _ _ _ begin).1)
