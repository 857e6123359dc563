use Rattle.std.proofs.Common.{◌∙◌, map, sym, ap}
use Rattle.ov_model.specs.declared.reply.Reply.TheVariants as says
use Rattle.ov_catalog.specs.Sets.{part_in}
use Rattle.ov_listing.specs.Listed.{part_line}
use Rattle.ov_listing.proofs.ShowingLayout.{lines_of_parts, read_of_parts}
use Rattle.ov_listing.proofs.layout.layout_of.Goals as goal

pub returns : goal.returns
returns c = λ i. says.Layout
    ((c.in_ok-part_lines.ensures ∙ ap (map (λ part. part_line (part_in part))) c.parts.ensures.parts ∙ sym (lines_of_parts c.args.d.now.layout.parts)) i)
    (c.running.ensures i)
    (c.stored.ensures i)
    ((c.cost.ensures ∙ sym (read_of_parts c.args.d.now.layout.parts)) i)
