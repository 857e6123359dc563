use Rattle.ov_lex.proofs.Runs.{stands_at, reads_on}
use Rattle.ov_lex.proofs.lex.tokens.Goals as goal

pub loop-at-preserved : goal.loop-at-preserved
loop-at-preserved c =
    let stands = stands_at c.as_bytes-bytes.result.now c.loop-at.at c.in-Some.kind c.in-Some.len c.in-Some.ensures in
    rw c.in_ok-push.ensures.items (reads_on c.as_bytes-bytes.result.now c.loop-at.found.items _ c.past_blanks-at-in-loop-at.result c.loop-at.invariant stands c.past_blanks-at-in-loop-at.ensures.blank c.past_blanks-at-in-loop-at.ensures.stops)
