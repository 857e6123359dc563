use Rattle.std.proofs.Common.{◌≡◌, sym, subst, List, ℕ, Option, Some}
use Rattle.std.specs.Prelude.{IfSome}
use Rattle.ov_value.specs.Shapes.{Shape}
use Rattle.ov_segment.specs.declared.numbered.Record.{Record}
use Rattle.ov_segment.specs.Segments.{AreRecords, segment_spelling}
use Rattle.ov_segment.proofs.WrittenLemmas.{records_ascend, records_fit, records_small}
use Rattle.test_bytes.proofs.segments.written_again.Goals as goal

are_read : (schema : Shape) (bytes : List ℕ) (read : Option (List Record)) (records slice : List Record) → read ≡ Some records → slice ≡ records → IfSome read (λ rs. AreRecords schema 0 rs × (bytes ≡ segment_spelling rs)) → AreRecords schema 0 slice
are_read schema bytes read records slice is same found =
    let P : Option (List Record) → Type 0 = λ r. IfSome r (λ rs. AreRecords schema 0 rs × (bytes ≡ segment_spelling rs))
    in let there : P (Some records) = subst P is found
    in subst (AreRecords schema 0) (sym same) there.0

pub segment_bytes-requires-clause-rids : goal.segment_bytes-requires-clause-rids
segment_bytes-requires-clause-rids c =
    records_ascend c.args.schema.now 0 c.as_slice.result.now
    (are_read c.args.schema.now c.args.bytes.now c.in_ok-records.field-0 c.in-Some.records c.as_slice.result.now c.in-Some.is c.as_slice.ensures c.in_ok-records.ensures.found)

pub segment_bytes-requires-clause-fit : goal.segment_bytes-requires-clause-fit
segment_bytes-requires-clause-fit c =
    records_fit c.args.schema.now 0 c.as_slice.result.now
    (are_read c.args.schema.now c.args.bytes.now c.in_ok-records.field-0 c.in-Some.records c.as_slice.result.now c.in-Some.is c.as_slice.ensures c.in_ok-records.ensures.found)

pub segment_bytes-requires-clause-small : goal.segment_bytes-requires-clause-small
segment_bytes-requires-clause-small c =
    records_small c.args.schema.now 0 c.as_slice.result.now
    (are_read c.args.schema.now c.args.bytes.now c.in_ok-records.field-0 c.in-Some.records c.as_slice.result.now c.in-Some.is c.as_slice.ensures c.in_ok-records.ensures.found)
