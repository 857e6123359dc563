use Rattle.std.proofs.Common.{◌≡◌, ◌+◌, ◌^◌, if◌then◌else◌, length, refl, sym, ◌∙◌, arith}
use Rattle.std.specs.Int.{w32, to_be_bytes}
use Rattle.ov_value.specs.Spelling.{row_spelling}
use Rattle.ov_segment.specs.Segments.{with_mark, record_bytes}
use Rattle.ov_segment.proofs.RecordLemmas.{short_row, appended}
use Rattle.ov_segment.proofs.writing.append_one.Goals as goal
use Rattle.ov_segment.proofs.writing.append_one.Goals.{then-is_marked, else-is_marked}

pub append_row-requires-clause-short : goal.append_row-requires-clause-short
append_row-requires-clause-short c = short_row c.args.one.now.row c.requires.small

pub returns : goal.returns
unfolding record_bytes
returns c =
    let mark : c.if-is_marked.mark ≡ (if (row_spelling c.args.one.now.row).marked then 2 ^ 31 else 0) =
    elim c.if-is_marked.branch [
      | then-is_marked w ↦ rw (w.mark-is, sym c.is_marked.ensures ∙ w.if-is_marked.true) refl
      | else-is_marked w ↦ rw (w.mark-is, sym c.is_marked.ensures ∙ w.if-is_marked.false) refl
    ] in
    let len : c.row_len.result ≡ length (row_spelling c.args.one.now.row).bytes = omega (arith, c.row_len.ensures, c.requires.small) in
    let number : to_be_bytes w32 (c.row_len.result + c.if-is_marked.mark) ≡ to_be_bytes w32 (with_mark (row_spelling c.args.one.now.row).marked (length (row_spelling c.args.one.now.row).bytes)) =
    λ i. to_be_bytes w32 (len i + mark i) in
    rw (c.in_ok-append_row.ensures.bytes, c.in_ok-extend_from_slice-2.ensures.items, c.to_be_bytes-2.ensures, c.in_ok-extend_from_slice.ensures.items, c.to_be_bytes.ensures, number)
    (appended c.args.bytes.now.items (to_be_bytes w32 c.args.one.now.rid)
    (to_be_bytes w32 (with_mark (row_spelling c.args.one.now.row).marked (length (row_spelling c.args.one.now.row).bytes))) (row_spelling c.args.one.now.row).bytes)
