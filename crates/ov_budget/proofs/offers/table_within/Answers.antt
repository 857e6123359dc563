use Rattle.std.proofs.Common.{◌≤◌, All, length, map, sym, ◌∙◌, ap, subst, arith}
use Rattle.std.specs.Option.{option_map}
use Rattle.ov_graph.specs.Splits.{IsDivision}
use Rattle.ov_budget.specs.Offers.{IsSplitAt, numbered}
use Rattle.ov_budget.specs.Sizes.{AreVids, IsSized, part_of}
use Rattle.ov_budget.specs.declared.sizes.Sized.{Sized}
use Rattle.ov_budget.proofs.Divided.{parts_there}
use Rattle.ov_budget.proofs.Listing.{line_is, sized_few, sized_short}
use Rattle.ov_budget.proofs.Offering.{best_more, hundred_lines, lines_more, whole_table}
use Rattle.ov_budget.proofs.offers.table_within.Goals as goal

pub all_sized-requires-clause-there : goal.all_sized-requires-clause-there
all_sized-requires-clause-there c =
    subst (λ n. All (λ part. AreVids n part.items) c.in_ok-parts.field-0.parts.items) (sym c.requires.listed)
    (parts_there c.args.tree.now.nodes.items _ _ c.in_ok-parts.field-0.parts.items c.in_ok-parts.ensures.division)

pub line_of-line-requires-clause-few : goal.line_of-line-requires-clause-few
line_of-line-requires-clause-few c =
    omega (
      arith,
      ap length c.deref-in-loop-p.ensures.value,
      sized_few c.args.tree.now.nodes.items _ _ c.in_ok-parts.field-0.parts.items c.in_ok-parts.ensures.division
          c.in_ok-sized.sized.items c.in_ok-sized.ensures.parts c.requires.sound.few,
    )

pub line_of-line-requires-clause-short : goal.line_of-line-requires-clause-short
line_of-line-requires-clause-short c =
    subst (λ sized. All (λ (one : Sized). length one.part.items ≤ 65535) sized) (sym c.deref-in-loop-p.ensures.value)
    (sized_short c.args.tree.now.nodes.items _ _ c.in_ok-parts.field-0.parts.items c.in_ok-parts.ensures.division
    c.in_ok-sized.sized.items c.in_ok-sized.ensures.parts c.requires.sound.few)

pub loop-p-preserved : goal.loop-p-preserved
loop-p-preserved c =
    let nodes = c.args.tree.now.nodes.items in
    let lists = c.args.lists.now in
    let p = c.loop-p.p in
    let read = c.deref-in-loop-p.ensures.value in
    let again = c.deref-in-loop-p-2.ensures.value in
    let line = c.line_of-line.result in
    let depth = c.line_of-line.ensures.depth ∙ c.in_ok-parts.ensures.depth in
    let is = line_is nodes lists p c.deref-in-loop-p.result.now line
    (subst (All (IsSized lists)) (sym read) c.in_ok-sized.ensures.sizes) (ap (λ sized. map part_of sized) read ∙ c.in_ok-sized.ensures.parts ∙ c.in_ok-parts.ensures.parts)
    depth c.line_of-line.ensures.partitions c.line_of-line.ensures.stored c.line_of-line.ensures.cost in
    let parts = ap (λ sized. map part_of sized) again ∙ c.in_ok-sized.ensures.parts in
    let split : IsSplitAt nodes p line.depth (map part_of c.deref-in-loop-p-2.result.now) = record {
      least = omega (arith, c.loop-p-test.true);
      most = c.loop-p.invariant.few;
      parts_are = parts ∙ c.in_ok-parts.ensures.parts;
      depth_is = depth;
      division = subst (IsDivision nodes p 100) (sym parts) c.in_ok-parts.ensures.division;
    } in
    record {
      few = omega (arith, c.loop-p.invariant.few);
      lines_are = lines_more nodes lists p c.loop-p.lines.items _ line c.loop-p-test.true c.loop-p.invariant.few is c.loop-p.invariant.lines_are c.in_ok-push.ensures.items;
      sizes = c.in_ok-sized.ensures.sizes;
      best_is = best_more nodes lists c.args.budget p line (option_map numbered c.loop-p.best) _ c.loop-p-test.true c.loop-p.invariant.few is c.loop-p.invariant.best_is c.in_ok-best.ensures.best;
      split = c.in_ok-best.ensures.split nodes split c.loop-p.invariant.split;
    }

pub returns-clause-hundred : goal.returns-clause-hundred
returns-clause-hundred c =
    hundred_lines c.args.tree.now.nodes.items c.args.lists.now c.loop-p.p c.reverse.new.self.items
    (omega (arith, c.loop-p-test.false)) (c.reverse.ensures.items ∙ c.loop-p.invariant.lines_are)

pub returns-clause-lines : goal.returns-clause-lines
returns-clause-lines c =
    whole_table c.args.tree.now.nodes.items c.args.lists.now c.loop-p.p c.reverse.new.self.items
    (omega (arith, c.loop-p-test.false)) (c.reverse.ensures.items ∙ c.loop-p.invariant.lines_are)
