use Rattle.std.proofs.Common.{◌≡◌, ◌<◌, ◌≤◌, ◌+◌, ◌-◌, ◌%◌, ◌^◌, nat_le, length, take, drop, arith, sym, ap, subst, ◌∙◌}
use Rattle.ov_value.specs.Spelling.{IsSpelling}
use Rattle.ov_segment.specs.Reading.{rid_at, len_at, marked_at, InBounds, Begins}
use Rattle.ov_segment.proofs.RecordLemmas.{record_again}
use Rattle.ov_segment.proofs.at.record_at.Goals as goal

-- the row that was read makes the record that stands in front
pub returns-in-Some : goal.returns-in-Some
returns-in-Some c =
    let rid = c.rid_of-rid.ensures in
    let number = c.number_of-number.ensures in
    let found = rw c.in-Some.is at c.in_ok-read_row_slice.ensures.found in
    let less : (8 + c.number_of-number.result % 2 ^ 31) - 8 ≡ c.number_of-number.result % 2 ^ 31 = omega arith in
    let spelled : IsSpelling c.in-Some.row (marked_at c.args.bytes.now) (take (len_at c.args.bytes.now) (drop 8 c.args.bytes.now)) =
    subst (λ n. IsSpelling c.in-Some.row (nat_le (2 ^ 31) n) (take (n % 2 ^ 31) (drop 8 c.args.bytes.now))) number
    (found.1.0, ap (λ n. take n (drop 8 c.args.bytes.now)) (sym less) ∙ found.1.1) in
    let bounds : InBounds c.args.last c.args.bytes.now = record {
      above = subst (λ n. c.args.last < n) rid c.if-rid-last.false;
      below = subst (λ n. n ≤ 2 ^ 31) rid c.if-rid-gt-GREATEST.false;
      small = subst (λ n. n % 2 ^ 31 ≤ 65536) number c.if-len-gt-LONGEST.false;
    } in
    let whole : 8 + len_at c.args.bytes.now ≤ length c.args.bytes.now = subst (λ n. 8 + n % 2 ^ 31 ≤ length c.args.bytes.now) number c.if-bytes-end.false in
    let begins = record_again c.args.schema.now c.args.last c.args.bytes.now c.in-Some.row (λ i. omega (arith, c.type_inv.bytes i)) c.if-bytes-lt8.false bounds whole found.0 spelled in (
      subst (λ n. Begins c.args.schema.now c.args.last c.args.bytes.now (record { rid = n; row = c.in-Some.row }) (drop (8 + c.number_of-number.result % 2 ^ 31) c.args.bytes.now)) (sym rid)
          (subst (λ n. Begins c.args.schema.now c.args.last c.args.bytes.now (record { rid = rid_at c.args.bytes.now; row = c.in-Some.row }) (drop (8 + n % 2 ^ 31) c.args.bytes.now)) (sym number) begins),
      omega arith,
      c.if-bytes-end.false,
    )
