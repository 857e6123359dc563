use Rattle.std.proofs.Common.{sym, ◌∙◌}
use Rattle.ov_catalog.proofs.WholeMarks.{and-is, and-not, placed-seen}
use Rattle.ov_catalog.proofs.whole_parts.are_placed.Goals as goal

pub returns-then-are_lists : goal.returns-then-are_lists
returns-then-are_lists c =
    let lists = rw c.deref.ensures.value at c.are_lists.ensures in
    c.are_stored.ensures ∙ sym (placed-seen c.args.d.now ∙ and-is _ _ (sym lists ∙ c.if-are_lists.true))

pub returns-else-are_lists : goal.returns-else-are_lists
returns-else-are_lists c =
    let lists = rw c.deref.ensures.value at c.are_lists.ensures in
    c.if-are_lists.false ∙ sym (placed-seen c.args.d.now ∙ and-not _ _ (sym lists ∙ c.if-are_lists.false))
