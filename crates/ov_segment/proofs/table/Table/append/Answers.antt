use Rattle.std.proofs.Common.{◌≡◌, ◌++◌, List, length, map, ap, sym, subst, ◌∙◌, arith}
use Rattle.ov_value.specs.declared.column.Column.{Column}
use Rattle.ov_segment.specs.Tables.{Content, AreAt, records_at, joined, moved_by}
use Rattle.ov_segment.proofs.TableLemmas.{records_more}
use Rattle.ov_segment.proofs.MovedLemmas.{are_joined, records_joined}
use Rattle.ov_segment.proofs.table.Table.append.Goals.{In-Ok-extend_from_slice}
use Rattle.ov_segment.proofs.table.Table.append.Goals as goal

pub returns-in-Err-moved_places-clause-err : goal.returns-in-Err-moved_places-clause-err
returns-in-Err-moved_places-clause-err c =
    let columns = c.self.inside.columns.items in
    let same : records_at columns c.extend_from_slice.new.self.items c.self.inside.places.items ≡ records_at columns c.self.inside.bytes.items c.self.inside.places.items =
    ap (λ l. records_at columns l c.self.inside.places.items) c.in-Ok.ensures.items ∙ records_more columns c.self.inside.bytes.items _ c.self.inside.places.items c.self.invariant in
    (λ i. record { columns = columns; records = same i }) ∙ c.self.view_is

placed : (c : In-Ok-extend_from_slice) → c.extend_from_slice-2.new.self.items ≡ c.self.inside.places.items ++ map (moved_by (length c.self.inside.bytes.items)) c.other.inside.places.items
placed c =
    let base : c.len-base.result ≡ length c.self.inside.bytes.items = omega (arith, c.len-base.ensures) in
    c.in-Ok-extend_from_slice.ensures.items
    ∙ ap (λ l. c.self.inside.places.items ++ l) (c.deref-3.ensures.value ∙ c.in-Ok-moved_places.ensures
    ∙ (λ i. map (moved_by (base i)) (c.deref-2.ensures.value i)))

bytes_are : (c : In-Ok-extend_from_slice) → c.extend_from_slice.new.self.items ≡ c.self.inside.bytes.items ++ c.other.inside.bytes.items
bytes_are c = c.in-Ok.ensures.items ∙ ap (λ l. c.self.inside.bytes.items ++ l) c.deref.ensures.value

same_columns : (c : In-Ok-extend_from_slice) → c.self.inside.columns.items ≡ c.other.inside.columns.items
same_columns c = ap (λ (t : Content). t.columns) c.self.view_is ∙ c.requires ∙ sym (ap (λ (t : Content). t.columns) c.other.view_is)

pub invariant_of-self-in-Ok-extend_from_slice : goal.invariant_of-self-in-Ok-extend_from_slice
invariant_of-self-in-Ok-extend_from_slice c =
    let k = (goal.at.invariant_of-self-in-Ok-extend_from_slice c).In-Ok-extend_from_slice in
    rw (bytes_are k, placed k)
    (are_joined _ _ _ _ _ c.self.invariant (subst (λ (l : List Column). AreAt l c.other.inside.bytes.items c.other.inside.places.items) (sym (same_columns k)) c.other.invariant))

pub returns-in-Ok-extend_from_slice-clause-ok : goal.returns-in-Ok-extend_from_slice-clause-ok
returns-in-Ok-extend_from_slice-clause-ok c =
    let k = (goal.at.returns-in-Ok-extend_from_slice-clause-ok c).In-Ok-extend_from_slice in
    let columns = c.self.inside.columns.items in
    let more : records_at columns c.extend_from_slice.new.self.items c.extend_from_slice-2.new.self.items
    ≡ records_at columns c.self.inside.bytes.items c.self.inside.places.items ++ records_at c.other.inside.columns.items c.other.inside.bytes.items c.other.inside.places.items =
    (λ i. records_at columns (bytes_are k i) (placed k i))
    ∙ records_joined columns _ _ _ _ c.self.invariant (subst (λ (l : List Column). AreAt l c.other.inside.bytes.items c.other.inside.places.items) (sym (same_columns k)) c.other.invariant)
    ∙ (λ i. records_at columns c.self.inside.bytes.items c.self.inside.places.items ++ records_at (same_columns k i) c.other.inside.bytes.items c.other.inside.places.items) in
    (λ i. record { columns = columns; records = more i }) ∙ (λ i. joined (c.self.view_is i) (c.other.view_is i))

pub returns-clause-err : goal.returns-clause-err
returns-clause-err c =
    let columns = c.self.inside.columns.items in
    let same : records_at columns c.extend_from_slice.new.self.items c.extend_from_slice-2.new.self.items ≡ records_at columns c.self.inside.bytes.items c.self.inside.places.items =
    (λ i. records_at columns (c.in-Ok.ensures.items i) (c.in-Err-extend_from_slice.ensures.items i))
    ∙ records_more columns c.self.inside.bytes.items _ c.self.inside.places.items c.self.invariant in
    (λ i. record { columns = columns; records = same i }) ∙ c.self.view_is
