use Rattle.std.proofs.Common.{◌≤◌, ◌+◌, All, length, map, sym, ◌∙◌, ap, subst, arith}
use Rattle.ov_budget.specs.Sizes.{AreVids, IsSized, part_of}
use Rattle.ov_budget.specs.declared.sizes.Sized.{Sized}
use Rattle.ov_budget.proofs.Divided.{parts_there}
use Rattle.ov_budget.proofs.Listing.{all_lines, line_is, line_more, sized_few, sized_short}
use Rattle.ov_budget.proofs.thresholds.table.Goals as goal

pub all_sized-requires-clause-there : goal.all_sized-requires-clause-there
all_sized-requires-clause-there c =
    subst (λ n. All (λ part. AreVids n part.items) c.in_ok-split.split.parts.items) (sym c.requires.listed)
    (parts_there c.args.tree.now.nodes.items _ _ c.in_ok-split.split.parts.items c.in_ok-split.ensures.division)

pub line_of-requires-clause-few : goal.line_of-requires-clause-few
line_of-requires-clause-few c =
    omega (
      arith,
      ap length c.deref-in-loop-before.ensures.value,
      sized_few c.args.tree.now.nodes.items _ _ c.in_ok-split.split.parts.items c.in_ok-split.ensures.division
          c.in_ok-sized.sized.items c.in_ok-sized.ensures.parts c.requires.sound.few,
    )

pub line_of-requires-clause-short : goal.line_of-requires-clause-short
line_of-requires-clause-short c =
    subst (λ sized. All (λ (one : Sized). length one.part.items ≤ 65535) sized) (sym c.deref-in-loop-before.ensures.value)
    (sized_short c.args.tree.now.nodes.items _ _ c.in_ok-split.split.parts.items c.in_ok-split.ensures.division
    c.in_ok-sized.sized.items c.in_ok-sized.ensures.parts c.requires.sound.few)

pub loop-before-preserved : goal.loop-before-preserved
loop-before-preserved c =
    let nodes = c.args.tree.now.nodes.items in
    let lists = c.args.lists.now in
    let p = c.loop-before.before + 1 in
    let read = c.deref-in-loop-before.ensures.value in
    let line = c.line_of.result in
    let is = line_is nodes lists p c.deref-in-loop-before.result.now line
    (subst (All (IsSized lists)) (sym read) c.in_ok-sized.ensures.sizes) (ap (λ sized. map part_of sized) read ∙ c.in_ok-sized.ensures.parts ∙ c.in_ok-split.ensures.parts)
    (c.line_of.ensures.depth ∙ c.in_ok-split.ensures.depth) c.line_of.ensures.partitions c.line_of.ensures.stored c.line_of.ensures.cost in
    record {
      lines_are = line_more nodes lists c.loop-before.before c.loop-before.lines.items _ line c.loop-before.invariant.lines_are is c.in_ok-push.ensures.items;
      sizes = c.in_ok-sized.ensures.sizes;
    }

pub returns-clause-lines : goal.returns-clause-lines
returns-clause-lines c =
    all_lines c.args.tree.now.nodes.items c.args.lists.now c.loop-before.before c.loop-before.lines.items
    (omega (arith, c.loop-before-test.false, c.loop-before.auto.before-end)) c.loop-before.invariant.lines_are
