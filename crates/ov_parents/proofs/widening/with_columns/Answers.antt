use Rattle.std.proofs.Common.{◌≡◌, ◌++◌, ◌∷◌, [], List, length, map, sym, subst, ap, ◌∙◌}
use Rattle.std.specs.List.{All}
use Rattle.std.proofs.lemmas.List.{append_assoc}
use Rattle.std.proofs.lemmas.List.Elements.{All-head, All-tail}
use Rattle.std.specs.Vec.Iter.{into_iter_items}
use Rattle.ov_segment.specs.Tables.{longer}
use Rattle.ov_segment.specs.declared.numbered.Record.{Record}
use Rattle.ov_parents.proofs.Longer.{HasRoom, all_room}
use Rattle.ov_parents.proofs.widening.with_columns.Goals as goal

pub loop-table-init : goal.loop-table-init
loop-table-init c =
    let whole = c.into_iter-table-iterator.ensures.into_iter_gives.0 in
    let n = length c.args.added.now in
    record {
      can = tt;
      ends = tt;
      within = subst (All (HasRoom n)) (sym whole) (all_room c.requires.fit.0 n c.args.records.items c.requires.fit.2 c.requires.fit.1);
      each = ap (λ (made : List (List Record)). made ++ map (map (longer n)) (into_iter_items c.into_iter-table-iterator.result)) c.in_ok-wide.ensures.items ∙ ap (map (map (longer n))) whole;
    }

pub widened-requires : goal.widened-requires
widened-requires c =
    let steps = c.in-Some.ensures.steps.0 in
    let n = length c.args.added.now in
    let rest = into_iter_items c.next.new.self in
    All-head (HasRoom n) c.in-Some.table rest (subst (All (HasRoom n)) steps c.loop-table.invariant.within)

pub loop-table-preserved : goal.loop-table-preserved
loop-table-preserved c =
    let steps = c.in-Some.ensures.steps.0 in
    let n = length c.args.added.now in
    let rest = into_iter_items c.next.new.self in
    let before = c.loop-table.invariant in
    record {
      can = tt;
      ends = tt;
      within = All-tail (HasRoom n) c.in-Some.table rest (subst (All (HasRoom n)) steps before.within);
      each = ap (λ (made : List (List Record)). made ++ map (map (longer n)) rest) (c.in_ok-push.ensures.items ∙ ap (λ (made : List Record). c.loop-table.wide.items ++ made ∷ []) c.in_ok-widened.ensures)
          ∙ append_assoc c.loop-table.wide.items (map (longer n) c.in-Some.table ∷ []) (map (map (longer n)) rest)
          ∙ ap (λ (ahead : List (List Record)). c.loop-table.wide.items ++ map (map (longer n)) ahead) (sym steps) ∙ before.each;
    }
