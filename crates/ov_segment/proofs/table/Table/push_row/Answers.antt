use Rattle.std.proofs.Common.{◌≡◌, ◌∷◌, [], ◌++◌, ℕ, List, length, drop, ap, sym, subst, ◌∙◌, arith, length-append}
use Rattle.ov_value.specs.declared.column.Column.{Column}
use Rattle.ov_value.specs.declared.value.Value.{Value}
use Rattle.ov_value.specs.Spelling.{row_spelling}
use Rattle.ov_value.specs.Decoding.{row_of, AreRow}
use Rattle.ov_segment.specs.Tables.{Content, records_at, AreAt, pushed}
use Rattle.ov_segment.proofs.TableLemmas.{Added, are_more, records_more, added_at, front_split, row_spelled_here}
use Rattle.ov_segment.proofs.table.Table.push_row.Goals.{In-Ok-push}
use Rattle.ov_segment.proofs.table.Table.push_row.Goals as goal

pub invariant_of-self : goal.invariant_of-self
invariant_of-self c =
    subst (λ (l : List ℕ). AreAt c.self.inside.columns.items l c.self.inside.places.items) (sym (front_split c.self.inside.bytes.items c.append_row.new.bytes.items c.in-Err.ensures.front))
    (are_more _ _ (drop (length c.self.inside.bytes.items) c.append_row.new.bytes.items) _ c.self.invariant)

pub returns-in-Err-clause-err : goal.returns-in-Err-clause-err
returns-in-Err-clause-err c =
    let columns = c.self.inside.columns.items in
    let split = front_split c.self.inside.bytes.items c.append_row.new.bytes.items c.in-Err.ensures.front in
    let same : records_at columns c.append_row.new.bytes.items c.self.inside.places.items ≡ records_at columns c.self.inside.bytes.items c.self.inside.places.items =
    ap (λ (l : List ℕ). records_at columns l c.self.inside.places.items) split
    ∙ records_more columns c.self.inside.bytes.items (drop (length c.self.inside.bytes.items) c.append_row.new.bytes.items) c.self.inside.places.items c.self.invariant in
    (λ i. record { columns = columns; records = same i }) ∙ c.self.view_is

pub returns-in-Err-push-clause-err : goal.returns-in-Err-push-clause-err
returns-in-Err-push-clause-err c =
    let columns = c.self.inside.columns.items in
    let same : records_at columns c.append_row.new.bytes.items c.push.new.self.items ≡ records_at columns c.self.inside.bytes.items c.self.inside.places.items =
    (λ i. records_at columns (c.in-Ok.ensures.bytes i) (c.in-Err-push.ensures.items i))
    ∙ records_more columns c.self.inside.bytes.items (row_spelling c.args.row.now).bytes c.self.inside.places.items c.self.invariant in
    (λ i. record { columns = columns; records = same i }) ∙ c.self.view_is

columns_are : (c : In-Ok-push) → c.self.inside.columns.items ≡ c.args.schema.now.columns
columns_are c = ap (λ (t : Content). t.columns) c.self.view_is ∙ c.requires.columns

added : (c : In-Ok-push)
    → Added c.self.inside.columns.items c.self.inside.bytes.items (row_spelling c.args.row.now).bytes c.self.inside.places.items
    (record { start = c.len-start.result; end = c.len-end.result; rid = c.args.rid; marked = c.in-Ok.marked })
added c =
    let here = row_spelled_here c.args.schema.now c.args.row.now c.requires.row in
    let bytes = (row_spelling c.args.row.now).bytes in
    added_at c.self.inside.columns.items c.self.inside.bytes.items bytes c.self.inside.places.items _ c.self.invariant (omega (arith, c.len-start.ensures))
    (omega (arith, c.len-end.ensures, ap (λ (l : List ℕ). length l) c.in-Ok.ensures.bytes, length-append c.self.inside.bytes.items bytes))
    (subst (λ (l : List Column). AreRow l c.in-Ok.marked bytes) (sym (columns_are c)) (subst (λ m. AreRow c.args.schema.now.columns m bytes) (sym c.in-Ok.ensures.marked) here.0))

pub invariant_of-self-2 : goal.invariant_of-self-2
invariant_of-self-2 c = rw (c.in-Ok.ensures.bytes, c.in-Ok-push.ensures.items) (added (goal.at.invariant_of-self-2 c).In-Ok-push).are

pub returns-clause-ok : goal.returns-clause-ok
returns-clause-ok c =
    let here = row_spelled_here c.args.schema.now c.args.row.now c.requires.row in
    let k = (goal.at.returns-clause-ok c).In-Ok-push in
    let columns = c.self.inside.columns.items in
    let bytes = (row_spelling c.args.row.now).bytes in
    let is : row_of columns c.in-Ok.marked bytes ≡ c.args.row.now = (λ i. row_of (columns_are k i) (c.in-Ok.ensures.marked i) bytes) ∙ sym here.1 in
    let more : records_at columns c.append_row.new.bytes.items c.push.new.self.items ≡ records_at columns c.self.inside.bytes.items c.self.inside.places.items ++ record { rid = c.args.rid; row = c.args.row.now } ∷ [] =
    (λ i. records_at columns (c.in-Ok.ensures.bytes i) (c.in-Ok-push.ensures.items i)) ∙ (added k).records_are
    ∙ ap (λ (r : List Value). records_at columns c.self.inside.bytes.items c.self.inside.places.items ++ record { rid = c.args.rid; row = r } ∷ []) is in
    (λ i. record { columns = columns; records = more i }) ∙ (λ i. pushed (c.self.view_is i) (record { rid = c.args.rid; row = c.args.row.now }))
