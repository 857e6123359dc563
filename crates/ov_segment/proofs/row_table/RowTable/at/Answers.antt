use Rattle.std.proofs.Common.{◌<◌, ◌∙◌, List, [], length, map, get_or, ap, sym, subst}
use Rattle.std.specs.List.{All}
use Rattle.ov_value.specs.declared.value.Value.{Value}
use Rattle.ov_segment.specs.declared.numbered.Record.{Record}
use Rattle.ov_segment.proofs.MovedLemmas.{rows_chosen}
use Rattle.ov_segment.proofs.row_table.RowTable.at.Goals as goal

pub returns : goal.returns
returns c =
    ap (map (λ (r : Record). r.row)) (c.in_ok-table.ensures.records (record { rid = 0; row = [] }))
    ∙ rows_chosen c.self.inside.table.records c.args.order.now (subst (λ (l : List (List Value)). All (λ i. i < length l) c.args.order.now) (sym c.self.view_is) c.requires)
    ∙ ap (λ (l : List (List Value)). map (λ i. get_or l i []) c.args.order.now) c.self.view_is
