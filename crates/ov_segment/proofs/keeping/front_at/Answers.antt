use Rattle.std.proofs.Common.{◌≡◌, ◌<◌, ◌≤◌, ◌+◌, ◌-◌, ◌%◌, ◌^◌, nat_le, length, take, drop, arith, sym, ap, subst, ◌∙◌, length-take}
use Rattle.std.proofs.lemmas.List.{length-drop}
use Rattle.ov_value.specs.Spelling.{IsSpelling}
use Rattle.ov_value.specs.Decoding.{row_of}
use Rattle.ov_value.proofs.MarkLemmas.{row_spelled}
use Rattle.ov_segment.specs.Reading.{rid_at, len_at, marked_at, InBounds, Begins}
use Rattle.ov_segment.proofs.RecordLemmas.{record_again}
use Rattle.ov_segment.proofs.keeping.front_at.Goals as goal

-- the row of the bytes makes the record that stands in front
pub returns-then-spells_row : goal.returns-then-spells_row
returns-then-spells_row c =
    let rid = c.rid_of-rid.ensures in
    let number = c.number_of-number.ensures in
    let bytes = take ((8 + c.number_of-number.result % 2 ^ 31) - 8) (drop 8 c.args.bytes.now) in
    let marked = nat_le (2 ^ 31) c.number_of-number.result in
    let row = row_of c.args.schema.now.columns marked bytes in
    let found = c.spells_row.ensures.found c.if-spells_row.true in
    let less : (8 + c.number_of-number.result % 2 ^ 31) - 8 ≡ c.number_of-number.result % 2 ^ 31 = omega arith in
    let spelled : IsSpelling row (marked_at c.args.bytes.now) (take (len_at c.args.bytes.now) (drop 8 c.args.bytes.now)) =
    subst (λ n. IsSpelling row (nat_le (2 ^ 31) n) (take (n % 2 ^ 31) (drop 8 c.args.bytes.now))) number
    (found.1.0, ap (λ n. take n (drop 8 c.args.bytes.now)) (sym less) ∙ found.1.1) in
    let bounds : InBounds c.args.last c.args.bytes.now = record {
      above = subst (λ n. c.args.last < n) rid c.if-rid-last.false;
      below = subst (λ n. n ≤ 2 ^ 31) rid c.if-rid-gt-GREATEST.false;
      small = subst (λ n. n % 2 ^ 31 ≤ 65536) number c.if-len-gt-LONGEST.false;
    } in
    let whole : 8 + len_at c.args.bytes.now ≤ length c.args.bytes.now = subst (λ n. 8 + n % 2 ^ 31 ≤ length c.args.bytes.now) number c.if-bytes-end.false in
    let begins = record_again c.args.schema.now c.args.last c.args.bytes.now row (λ i. omega (arith, c.type_inv.bytes i)) c.if-bytes-lt8.false bounds whole found.0 spelled in
    let len : length bytes ≡ c.number_of-number.result % 2 ^ 31 =
    omega (arith, length-take ((8 + c.number_of-number.result % 2 ^ 31) - 8) (drop 8 c.args.bytes.now), length-drop 8 c.args.bytes.now, c.if-bytes-end.false) in
    let end : 8 + len_at c.args.bytes.now ≡ 8 + length bytes = ap (λ n. 8 + n % 2 ^ 31) (sym number) ∙ ap (λ n. 8 + n) (sym len) in
    record {
      begins = subst (λ n. Begins c.args.schema.now c.args.last c.args.bytes.now (record { rid = n; row = row }) (drop (8 + length bytes) c.args.bytes.now)) (sym rid)
          (subst (λ n. Begins c.args.schema.now c.args.last c.args.bytes.now (record { rid = rid_at c.args.bytes.now; row = row }) (drop n c.args.bytes.now)) end begins);
      are = row_spelled c.args.schema.now marked bytes row found.0 found.1;
      within = omega (arith, len, c.if-bytes-end.false);
    }
