use Rattle.std.proofs.Common.{ℕ, ◌++◌, [], ◌∷◌, get_or, map, take, sym, ◌∙◌, ap, append_assoc}
use Rattle.std.proofs.lemmas.List.{map-append, take_all, take_more}
use Rattle.ov_segment.specs.declared.numbered.Record.{Record}
use Rattle.ov_segment.specs.Tables.{Content}
use Rattle.ov_segment.proofs.record_table.copy_all.Goals as goal

pub loop-i-preserved : goal.loop-i-preserved
loop-i-preserved c =
    let order = c.args.order.now in
    let k = c.loop-i.i-index in
    record {
      columns = ap (λ (t : Content). t.columns) (c.in_ok-copy_from.ensures.ok (record { rid = 0; row = [] })) ∙ c.loop-i.invariant.columns;
      so_far = λ none.
          let at : ℕ → Record = λ i. get_or c.args.other.now.records i none in
          ap (λ (t : Content). t.records) (c.in_ok-copy_from.ensures.ok none)
          ∙ ap (λ l. l ++ at (get_or order k 0) ∷ []) (c.loop-i.invariant.so_far none)
          ∙ append_assoc c.args.table.now.records (map at (take k order)) (at (get_or order k 0) ∷ [])
          ∙ ap (λ l. c.args.table.now.records ++ l) (sym (ap (map at) (take_more order k 0 c.loop-i-test.true) ∙ map-append at (take k order) (get_or order k 0 ∷ [])));
    }

pub returns : goal.returns
returns c = λ none.
    c.loop-i.invariant.so_far none
    ∙ ap (λ l. c.args.table.now.records ++ map (λ i. get_or c.args.other.now.records i none) l) (take_all c.loop-i.i-index c.args.order.now c.loop-i-test.false)
