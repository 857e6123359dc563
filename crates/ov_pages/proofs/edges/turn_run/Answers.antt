use Rattle.std.proofs.Common.{false, arith}
use Rattle.ov_pages.proofs.TurnLemmas.{turns}
use Rattle.ov_pages.proofs.edges.turn_run.Goals as goal

pub turn-requires-2-clause-ascend : goal.turn-requires-2-clause-ascend
turn-requires-2-clause-ascend c =
    let one = turns c.args.first false 0 c.args.edges.now.items c.requires.sound.ascend in
    rw c.turn.ensures.turned (one.ascend 0 c.requires.sound.ascend (omega arith) (omega (arith, c.requires.order, c.requires.limit)))

pub turn-requires-2-clause-room : goal.turn-requires-2-clause-room
turn-requires-2-clause-room c =
    let one = turns c.args.first false 0 c.args.edges.now.items c.requires.sound.ascend in
    let longer = one.longer in
    rw c.turn.ensures.turned (omega (arith, longer, c.turn.ensures.capacity, c.requires.room))
