use Rattle.ov_cmd.proofs.Boundaries.{at_second}
use Rattle.ov_cmd.proofs.next.next_word.Goals as goal

pub range_from-requires : goal.range_from-requires
range_from-requires c = λ _.
    at_second c.without_blanks-text.result.now c.without_blanks-text.utf8
    (rw c.as_bytes.ensures.value at c.in-len1-up.len_at_least)
    (rw c.as_bytes.ensures.value at c.if-first-eq34.true)
