use Rattle.ov_cmd.proofs.Boundaries.{behind_quote, closed_text}
use Rattle.ov_cmd.proofs.next.quoted.Goals as goal

pub range_from-behind-requires : goal.range_from-behind-requires
range_from-behind-requires c = λ _.
    behind_quote c.args.text.now c.loop-i.i c.utf8.text
    (rw c.as_bytes-b-items.ensures.value at c.loop-i-test.true)
    (rw c.as_bytes-b-items.ensures.value at (c.closes.ensures.yes c.if-closes.true).1)

pub text_of-requires : goal.text_of-requires
text_of-requires c =
    closed_text c.loop-i.word.items c.args.text.now c.loop-i.escaped c.loop-i.i c.utf8.text (c.closes.ensures.yes c.if-closes.true).0
    (rw c.as_bytes-b-items.ensures.value at c.loop-i-test.true)
    (rw c.as_bytes-b-items.ensures.value at (c.closes.ensures.yes c.if-closes.true).1)
    c.loop-i.invariant
