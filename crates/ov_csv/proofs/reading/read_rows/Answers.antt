-- A row more, a refusal or the end, at the record that was read.
use Rattle.std.proofs.Common.{◌≡◌, ◌+◌, length, map, arith}
use Rattle.std.proofs.lemmas.List.{length-map}
use Rattle.std.proofs.lemmas.Result.{err_from_is_err_and}
use Rattle.ov_segment.specs.declared.numbered.Record.{Record}
use Rattle.ov_csv.proofs.Lists.{answer-row, answer-refused, answer-end}
use Rattle.ov_csv.proofs.reading.read_rows.Goals as goal

pub returns-in_err-keep_row-clause-err : goal.returns-in_err-keep_row-clause-err
returns-in_err-keep_row-clause-err c =
    let taken = rw c.if-branch.true at c.in_ok-next.ensures.ok in
    let nth : c.len.result + 1 ≡ length (map (λ (r : Record). r.row) c.loop-draft.table.records) + 1 = omega (arith, c.len.ensures.count, length-map c.loop-draft.table.records (λ (r : Record). r.row)) in
    let p = err_from_is_err_and c.from_residual-in_err-keep_row.result c.from_residual-in_err-keep_row.ensures.1 in
    rw (p.1, p.2)
    (answer-refused _ _ _ _ _ _ _ _ nth c.loop-draft.invariant.answer taken c.in_err-keep_row.ensures.err)

pub loop-draft-preserved : goal.loop-draft-preserved
loop-draft-preserved c =
    let taken = rw c.if-branch.true at c.in_ok-next.ensures.ok in
    let nth : c.len.result + 1 ≡ length (map (λ (r : Record). r.row) c.loop-draft.table.records) + 1 = omega (arith, c.len.ensures.count, length-map c.loop-draft.table.records (λ (r : Record). r.row)) in
    record {
      columns = c.in_ok-keep_row.ensures.columns;
      answer = rw c.in_ok-keep_row.ensures.ok (answer-row _ _ _ _ _ _ _ nth c.loop-draft.invariant.answer taken c.in_ok-keep_row.ensures.none);
    }

pub returns-clause-ok : goal.returns-clause-ok
returns-clause-ok c =
    let ended = rw c.if-branch.false at c.in_ok-next.ensures.ok in
    answer-end _ _ _ _ _ c.loop-draft.invariant.answer ended.0
