use Rattle.std.proofs.Common.{sym, ◌∙◌}
use Rattle.ov_catalog.proofs.RoomLemmas.{if-ok}
use Rattle.ov_catalog.proofs.WholeMarks.{parts-not, parts-rest}
use Rattle.ov_catalog.proofs.whole_parts.are_parts.Goals as goal

pub returns-then-may_be_parts : goal.returns-then-may_be_parts
returns-then-may_be_parts c =
    if-ok c.are_in_one.result _ _ (λ are is. is ∙ parts-rest c.args.d.now (sym c.may_be_parts.ensures ∙ c.if-may_be_parts.true)) c.are_in_one.ensures

pub returns-else-may_be_parts : goal.returns-else-may_be_parts
returns-else-may_be_parts c = parts-not c.args.d.now (sym c.may_be_parts.ensures ∙ c.if-may_be_parts.false)
