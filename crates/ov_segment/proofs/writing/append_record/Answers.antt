use Rattle.std.proofs.Common.{◌≡◌, ◌+◌, ◌^◌, if◌then◌else◌, length, refl, sym, ◌∙◌, ap}
use Rattle.std.specs.Int.{w32, to_be_bytes}
use Rattle.ov_value.specs.Spelling.{row_spelling}
use Rattle.ov_segment.specs.Segments.{with_mark, record_bytes}
use Rattle.ov_segment.proofs.RecordLemmas.{appended}
use Rattle.ov_segment.proofs.writing.append_record.Goals as goal
use Rattle.ov_segment.proofs.writing.append_record.Goals.{then-is_marked, else-is_marked}

pub returns : goal.returns
unfolding record_bytes
returns c =
    let mark : c.if-is_marked.mark ≡ (if (row_spelling c.args.row.now).marked then 2 ^ 31 else 0) =
    elim c.if-is_marked.branch [
      | then-is_marked w ↦ rw (w.mark-is, sym c.is_marked.ensures ∙ w.if-is_marked.true) refl
      | else-is_marked w ↦ rw (w.mark-is, sym c.is_marked.ensures ∙ w.if-is_marked.false) refl
    ] in
    let len : length c.bytes-spelled.result.now ≡ length (row_spelling c.args.row.now).bytes = ap length c.bytes-spelled.ensures in
    let number : to_be_bytes w32 (length c.bytes-spelled.result.now + c.if-is_marked.mark) ≡ to_be_bytes w32 (with_mark (row_spelling c.args.row.now).marked (length (row_spelling c.args.row.now).bytes)) =
    λ i. to_be_bytes w32 (len i + mark i) in
    rw (c.in_ok-extend_from_slice-3.ensures.items, c.in_ok-extend_from_slice-2.ensures.items, c.to_be_bytes-2.ensures, c.in_ok-extend_from_slice.ensures.items, c.to_be_bytes.ensures, number, c.bytes-spelled.ensures)
    (appended c.args.bytes.now.items (to_be_bytes w32 c.args.rid)
    (to_be_bytes w32 (with_mark (row_spelling c.args.row.now).marked (length (row_spelling c.args.row.now).bytes))) (row_spelling c.args.row.now).bytes)
