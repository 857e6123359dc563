use Rattle.std.proofs.Common.{◌∙◌, [], sym}
use Rattle.std.proofs.lemmas.List.{get_or-map}
use Rattle.ov_segment.specs.declared.numbered.Record.{Record}
use Rattle.ov_registry.proofs.rows.row_from.Goals as goal

pub returns : goal.returns
returns c =
    let none : Record = record { rid = 0; row = [] } in
    c.in_ok-row.ensures ∙ c.cells.ensures none ∙ sym (get_or-map (λ (r : Record). r.row) c.args.records.now c.args.place none [] c.requires)
