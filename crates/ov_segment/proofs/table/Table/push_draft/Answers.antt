use Rattle.std.proofs.Common.{◌≡◌, ◌∷◌, [], ◌++◌, ℕ, List, length, drop, ap, sym, subst, ◌∙◌, arith, length-append}
use Rattle.ov_value.specs.declared.column.Column.{Column}
use Rattle.ov_value.specs.declared.value.Value.{Value}
use Rattle.ov_value.specs.Spelling.{row_spelling, IsRow}
use Rattle.ov_value.specs.Decoding.{row_of, AreRow}
use Rattle.ov_segment.specs.Drafts.{IsWhole}
use Rattle.ov_segment.specs.Tables.{Content, records_at, AreAt, pushed}
use Rattle.ov_segment.proofs.TableLemmas.{Added, are_more, records_more, added_at, front_split, row_spelled_here}
use Rattle.ov_segment.proofs.table.Table.push_draft.Goals.{In-Ok-push}
use Rattle.ov_segment.proofs.table.Table.push_draft.Goals as goal

pub invariant_of-self : goal.invariant_of-self
invariant_of-self c =
    subst (λ (l : List ℕ). AreAt c.self.inside.columns.items l c.self.inside.places.items) (sym (front_split c.self.inside.bytes.items c.append_to.new.bytes.items c.in-Err.ensures.front))
    (are_more _ _ (drop (length c.self.inside.bytes.items) c.append_to.new.bytes.items) _ c.self.invariant)

pub invariant_of-self-in-Err-push : goal.invariant_of-self-in-Err-push
invariant_of-self-in-Err-push c = rw (c.in-Ok.ensures.bytes c.requires.row.0 c.requires.row.1, c.in-Err-push.ensures.items) (are_more _ _ (row_spelling c.requires.row.0).bytes _ c.self.invariant)

pub returns-in-Err-clause-err : goal.returns-in-Err-clause-err
returns-in-Err-clause-err c =
    let columns = c.self.inside.columns.items in
    let split = front_split c.self.inside.bytes.items c.append_to.new.bytes.items c.in-Err.ensures.front in
    let same : records_at columns c.append_to.new.bytes.items c.self.inside.places.items ≡ records_at columns c.self.inside.bytes.items c.self.inside.places.items =
    ap (λ (l : List ℕ). records_at columns l c.self.inside.places.items) split
    ∙ records_more columns c.self.inside.bytes.items (drop (length c.self.inside.bytes.items) c.append_to.new.bytes.items) c.self.inside.places.items c.self.invariant in
    (λ i. record { columns = columns; records = same i }) ∙ c.self.view_is

pub returns-in-Err-push-clause-err : goal.returns-in-Err-push-clause-err
returns-in-Err-push-clause-err c =
    let columns = c.self.inside.columns.items in
    let same : records_at columns c.append_to.new.bytes.items c.push.new.self.items ≡ records_at columns c.self.inside.bytes.items c.self.inside.places.items =
    (λ i. records_at columns (c.in-Ok.ensures.bytes c.requires.row.0 c.requires.row.1 i) (c.in-Err-push.ensures.items i))
    ∙ records_more columns c.self.inside.bytes.items (row_spelling c.requires.row.0).bytes c.self.inside.places.items c.self.invariant in
    (λ i. record { columns = columns; records = same i }) ∙ c.self.view_is

columns_are : (c : In-Ok-push) → c.self.inside.columns.items ≡ c.args.schema.now.columns
columns_are c = ap (λ (t : Content). t.columns) c.self.view_is ∙ c.requires.columns

added : (c : In-Ok-push) (row : List Value) → IsWhole c.args.draft.now row → IsRow c.args.schema.now row
    → Added c.self.inside.columns.items c.self.inside.bytes.items (row_spelling row).bytes c.self.inside.places.items
    (record { start = c.len-start.result; end = c.len-end.result; rid = c.args.rid; marked = c.in-Ok.marked })
added c row whole is =
    let here = row_spelled_here c.args.schema.now row is in
    let bytes = (row_spelling row).bytes in
    added_at c.self.inside.columns.items c.self.inside.bytes.items bytes c.self.inside.places.items _ c.self.invariant (omega (arith, c.len-start.ensures))
    (omega (arith, c.len-end.ensures, ap (λ (l : List ℕ). length l) (c.in-Ok.ensures.bytes row whole), length-append c.self.inside.bytes.items bytes))
    (subst (λ (l : List Column). AreRow l c.in-Ok.marked bytes) (sym (columns_are c)) (subst (λ m. AreRow c.args.schema.now.columns m bytes) (sym (c.in-Ok.ensures.marked row whole)) here.0))

pub invariant_of-self-2 : goal.invariant_of-self-2
invariant_of-self-2 c = rw (c.in-Ok.ensures.bytes c.requires.row.0 c.requires.row.1, c.in-Ok-push.ensures.items) (added (goal.at.invariant_of-self-2 c).In-Ok-push c.requires.row.0 c.requires.row.1 c.requires.row.2).are

pub returns-clause-ok : goal.returns-clause-ok
returns-clause-ok c = λ row whole is.
    let here = row_spelled_here c.args.schema.now row is in
    let k = (goal.at.returns-clause-ok c).In-Ok-push in
    let columns = c.self.inside.columns.items in
    let bytes = (row_spelling row).bytes in
    let same : row_of columns c.in-Ok.marked bytes ≡ row = (λ i. row_of (columns_are k i) (c.in-Ok.ensures.marked row whole i) bytes) ∙ sym here.1 in
    let more : records_at columns c.append_to.new.bytes.items c.push.new.self.items ≡ records_at columns c.self.inside.bytes.items c.self.inside.places.items ++ record { rid = c.args.rid; row = row } ∷ [] =
    (λ i. records_at columns (c.in-Ok.ensures.bytes row whole i) (c.in-Ok-push.ensures.items i)) ∙ (added k row whole is).records_are
    ∙ ap (λ (r : List Value). records_at columns c.self.inside.bytes.items c.self.inside.places.items ++ record { rid = c.args.rid; row = r } ∷ []) same in
    (λ i. record { columns = columns; records = more i }) ∙ (λ i. pushed (c.self.view_is i) (record { rid = c.args.rid; row = row }))
