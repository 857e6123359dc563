use Rattle.std.proofs.Common.{◌<◌, ◌∙◌, List, [], length, map, get_or, ap, sym, subst}
use Rattle.std.proofs.lemmas.List.{get_or-map, length-map}
use Rattle.ov_value.specs.declared.value.Value.{Value}
use Rattle.ov_segment.specs.declared.numbered.Record.{Record}
use Rattle.ov_segment.proofs.row_table.RowTable.row.Goals as goal

pub returns : goal.returns
returns c =
    let none : Record = record { rid = 0; row = [] } in
    let rows = c.self.inside.table.records in
    let there : c.args.i < length (map (λ (r : Record). r.row) rows) = subst (λ (l : List (List Value)). c.args.i < length l) (sym c.self.view_is) c.requires in
    c.row.ensures none
    ∙ sym (get_or-map (λ (r : Record). r.row) rows c.args.i none [] (subst (λ n. c.args.i < n) (length-map rows (λ (r : Record). r.row)) there))
    ∙ ap (λ (l : List (List Value)). get_or l c.args.i []) c.self.view_is
