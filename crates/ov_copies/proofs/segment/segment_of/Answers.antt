use Rattle.std.proofs.Common.{◌<◌, ◌≤◌, ◌++◌, ◌∙◌, ℕ, List, length, get_or, take, sym, ap, subst, arith}
use Rattle.ov_value.specs.Spelling.{row_spelling}
use Rattle.ov_segment.specs.declared.numbered.Record.{Record}
use Rattle.ov_segment.specs.Segments.{record_bytes, segment_spelling}
use Rattle.ov_copies.proofs.Spelling.{none, one_of, spelled_more}
use Rattle.ov_copies.proofs.segment.segment_of.Goals as goal

pub append_record-requires : goal.append_record-requires
append_record-requires c =
    let records : List Record = c.args.records.now.records in
    let low : c.loop-i.i < length records = omega (arith, c.loop-i-test.true, c.len-i-end.ensures.count) in
    subst (λ row. length (row_spelling row).bytes ≤ 65536) (sym (c.row.ensures none)) (c.requires c.loop-i.i none low)

pub loop-i-preserved : goal.loop-i-preserved
loop-i-preserved c =
    let records : List Record = c.args.records.now.records in
    let low : c.loop-i.i < length records = omega (arith, c.loop-i-test.true, c.len-i-end.ensures.count) in
    c.in_ok-append_record.ensures
    ∙ ap (λ (bytes : List ℕ). bytes ++ record_bytes (record { rid = c.rid.result; row = c.row.result })) c.loop-i.invariant
    ∙ ap (λ (r : Record). segment_spelling (take c.loop-i.i records) ++ record_bytes r) (one_of c.rid.result c.row.result (get_or records c.loop-i.i none) (c.rid.ensures none) (c.row.ensures none))
    ∙ sym (spelled_more records c.loop-i.i low)
