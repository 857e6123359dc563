use Rattle.std.proofs.Common.{sym, ◌∙◌}
use Rattle.ov_value.proofs.MarkLemmas.{length-mark_bytes}
use Rattle.ov_value.proofs.writing.marks_len.Goals as goal

pub returns-then-has_null : goal.returns-then-has_null
returns-then-has_null c = length-mark_bytes c.args.values.now (sym c.has_null.ensures ∙ c.if-has_null.true)
