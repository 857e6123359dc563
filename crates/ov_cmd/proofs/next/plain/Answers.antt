use Rattle.ov_cmd.proofs.Boundaries.{at_blank}
use Rattle.ov_cmd.proofs.next.plain.Goals as goal

pub range-requires-clause-end_boundary : goal.range-requires-clause-end_boundary
range-requires-clause-end_boundary c = rw (c.word_len-end.ensures, c.as_bytes.ensures.value) (at_blank c.args.text.now)

pub range_from-requires : goal.range_from-requires
range_from-requires c = λ _. rw (c.word_len-end.ensures, c.as_bytes.ensures.value) (at_blank c.args.text.now)
