use Rattle.std.proofs.Common.{◌≡◌, ◌∷◌, [], ◌++◌, List, ap, sym, subst, ◌∙◌, arith}
use Rattle.ov_value.specs.declared.column.Column.{Column}
use Rattle.ov_value.specs.Decoding.{row_of, AreRow}
use Rattle.ov_segment.specs.declared.numbered.Record.{Record}
use Rattle.ov_segment.specs.Tables.{Content, records_at, pushed}
use Rattle.ov_segment.proofs.TableLemmas.{Added, are_more, records_more, added_at}
use Rattle.ov_segment.proofs.table.Table.push.Goals.{In-Ok}
use Rattle.ov_segment.proofs.table.Table.push.Goals as goal

pub invariant_of-self-in-Err : goal.invariant_of-self-in-Err
invariant_of-self-in-Err c = rw (c.in_ok-extend_from_slice.ensures.items, c.in-Err.ensures.items) (are_more _ _ c.args.bytes.now _ c.self.invariant)

pub returns-in-Err-clause-err : goal.returns-in-Err-clause-err
returns-in-Err-clause-err c =
    let columns = c.self.inside.columns.items in
    let same : records_at columns c.extend_from_slice.new.self.items c.push.new.self.items ≡ records_at columns c.self.inside.bytes.items c.self.inside.places.items =
    (λ i. records_at columns (c.in_ok-extend_from_slice.ensures.items i) (c.in-Err.ensures.items i)) ∙ records_more columns c.self.inside.bytes.items c.args.bytes.now c.self.inside.places.items c.self.invariant in
    (λ i. record { columns = columns; records = same i }) ∙ c.self.view_is

added : (c : In-Ok) → Added c.self.inside.columns.items c.self.inside.bytes.items c.args.bytes.now c.self.inside.places.items (record { start = c.len-start.result; end = c.len-end.result; rid = c.args.rid; marked = c.args.marked })
added c =
    added_at _ _ c.args.bytes.now _ _ c.self.invariant (omega (arith, c.len-start.ensures)) (omega (arith, c.len-end.ensures, c.in_ok-extend_from_slice.ensures.len))
    (subst (λ (l : List Column). AreRow l c.args.marked c.args.bytes.now) (sym (ap (λ (t : Content). t.columns) c.self.view_is)) c.requires)

pub invariant_of-self-2 : goal.invariant_of-self-2
invariant_of-self-2 c = rw (c.in_ok-extend_from_slice.ensures.items, c.in-Ok.ensures.items) (added (goal.at.invariant_of-self-2 c).In-Ok).are

pub returns-clause-ok : goal.returns-clause-ok
returns-clause-ok c =
    let columns = c.self.inside.columns.items in
    let r : Record = record { rid = c.args.rid; row = row_of columns c.args.marked c.args.bytes.now } in
    let more : records_at columns c.extend_from_slice.new.self.items c.push.new.self.items ≡ records_at columns c.self.inside.bytes.items c.self.inside.places.items ++ r ∷ [] =
    (λ i. records_at columns (c.in_ok-extend_from_slice.ensures.items i) (c.in-Ok.ensures.items i)) ∙ (added (goal.at.returns-clause-ok c).In-Ok).records_are in
    (λ i. record { columns = columns; records = more i })
    ∙ (λ i. pushed (c.self.view_is i) (record { rid = c.args.rid; row = row_of (c.self.view_is i).columns c.args.marked c.args.bytes.now }))
