use Rattle.std.proofs.Common.{◌≡◌, ◌∙◌, ◌+◌, ◌++◌, [], ◌∷◌, map, take, sym, ap, subst}
use Rattle.std.proofs.lemmas.List.{map-append, take_more}
use Rattle.std.proofs.lemmas.List.Elements.{All-more}
use Rattle.ov_segment.specs.Tables.{Content}
use Rattle.ov_segment.specs.declared.numbered.Record.{Record}
use Rattle.ov_store.specs.Beginning.{IsShort}
use Rattle.ov_value.specs.Spelling.{IsRow}
use Rattle.ov_registry.proofs.tables.table_of.Goals as goal

pub loop-row-preserved : goal.loop-row-preserved
loop-row-preserved c =
    let rows = c.args.rows.now
    in let i = c.loop-row.row-index
    in let row = c.row-item.result
    in let more : take (i + 1) rows ≡ take i rows ++ row ∷ [] = take_more rows i row c.loop-row-test.true ∙ ap (λ x. take i rows ++ x ∷ []) (sym c.row-item.is)
    in record {
      columns = ap (λ (t : Content). t.columns) c.in_ok-push_row.ensures.ok ∙ c.loop-row.invariant.columns;
      rows = ap (λ (t : Content). map (λ (r : Record). r.row) t.records) c.in_ok-push_row.ensures.ok
          ∙ map-append (λ (r : Record). r.row) c.loop-row.table.records (record { rid = 0; row = row } ∷ [])
          ∙ (λ j. c.loop-row.invariant.rows j ++ row ∷ [])
          ∙ sym more;
      fit = All-more (IsRow c.args.schema.now) rows i row c.loop-row-test.true c.loop-row.invariant.fit
          (subst (IsRow c.args.schema.now) c.row-item.is (c.is_whole.ensures.row c.if-not-is_whole.false));
      short = All-more IsShort rows i row c.loop-row-test.true c.loop-row.invariant.short (subst IsShort c.row-item.is (c.is_whole.ensures.short c.if-not-is_whole.false));
    }
