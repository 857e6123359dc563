use Rattle.ov_cmd.proofs.Boundaries.{at_no_blank}
use Rattle.ov_cmd.proofs.next.without_blanks.Goals as goal

pub range_from-requires : goal.range_from-requires
range_from-requires c = λ _. rw (c.blanks-start.ensures.is, c.as_bytes.ensures.value) (at_no_blank c.args.text.now c.utf8.text)
