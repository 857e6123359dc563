use Rattle.std.proofs.Common.{◌≡◌, ◌==◌, ℕ, ◌≤◌, ◌+◌, ◌++◌, ◌∙◌, List, length, map, ap, sym, subst}
use Rattle.std.specs.List.{All}
use Rattle.ov_value.specs.declared.column.Column.{Column}
use Rattle.ov_segment.specs.declared.numbered.Record.{Record}
use Rattle.ov_segment.specs.Tables.{Content, AreAt, longer, records_at}
use Rattle.ov_segment.proofs.TableLemmas.{records_longer, some_longer}
use Rattle.ov_segment.proofs.table.Table.widened.Goals as goal

pub invariant_of-result : goal.invariant_of-result
invariant_of-result c =
    let columns = c.self.inside.columns.items in
    let bytes = c.self.inside.bytes.items in
    let places = c.self.inside.places.items in
    let added = c.args.added.now in
    let all : c.in_ok-columns.columns.items ≡ columns ++ added = rw c.deref.ensures.value at c.in_ok-columns.ensures in
    let short : All (λ r. length r.row + length added ≤ 64) (records_at columns bytes places) =
    subst (λ (rs : List Record). All (λ r. length r.row + length added ≤ 64) rs) (sym (ap (λ (t : Content). t.records) c.self.view_is)) c.requires in
    subst (λ (l : List Column). AreAt l bytes places) (sym all)
    (some_longer columns added bytes places (ap (λ (n : ℕ). n == 0) (sym c.self.inside.places.ok.0) ∙ sym c.is_empty.ensures ∙ c.if-is_empty.false) c.self.invariant short)

pub returns : goal.returns
returns c =
    let columns = c.self.inside.columns.items in
    let bytes = c.self.inside.bytes.items in
    let places = c.self.inside.places.items in
    let added = c.args.added.now in
    let all : c.in_ok-columns.columns.items ≡ columns ++ added = rw c.deref.ensures.value at c.in_ok-columns.ensures in
    ap (λ (l : List Column). records_at l bytes places) all ∙ records_longer columns added bytes places c.self.invariant.at
    ∙ ap (λ (t : Content). map (longer (length added)) t.records) c.self.view_is
