use Rattle.std.proofs.Common.{◌∙◌, List, ap, map, get_or}
use Rattle.ov_segment.specs.declared.numbered.Record.{Record}
use Rattle.ov_segment.proofs.record_table.RecordTable.at.Goals as goal

pub returns : goal.returns
returns c = λ none. c.in_ok-table.ensures.records none ∙ ap (λ (l : List Record). map (λ i. get_or l i none) c.args.order.now) c.self.view_is
