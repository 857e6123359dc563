use Rattle.std.proofs.Common.{◌++◌, ◌∙◌, List, ap, map, get_or}
use Rattle.ov_segment.specs.declared.numbered.Record.{Record}
use Rattle.ov_segment.proofs.record_table.RecordTable.copies_at.Goals as goal

pub returns : goal.returns
returns c = λ none.
    c.in_ok-copy_all.ensures none
    ∙ ap (λ l. l ++ map (λ i. get_or c.self.inside.table.records i none) c.args.order.now) c.in_ok-table.ensures.records
    ∙ ap (λ (l : List Record). map (λ i. get_or l i none) c.args.order.now) c.self.view_is
