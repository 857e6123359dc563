use Rattle.ov_layout.proofs.PlacedLemmas.{ids-ascend}
use Rattle.ov_layout.proofs.NewLemmas.{new-joined}
use Rattle.ov_catalog.proofs.PartLemmas.{join-in, join-numbered, join-others-out, join-placed, join-stay, join-zero}
use Rattle.ov_catalog.proofs.placing.join.Goals as goal

pub returns-clause-parts : goal.returns-clause-parts
returns-clause-parts c =
    let parts = c.args.layout.now.parts in
    let new = c.args.new.now in
    rw c.join.ensures (join-in new.vid new.added c.args.id new.segment 1 parts (ids-ascend 1 _ _ c.parts.ensures.sound.sound))

pub returns-clause-new : goal.returns-clause-new
returns-clause-new c =
    let new = c.args.new.now in
    rw c.join.ensures (new-joined new.vid c.args.id new.added new.segment c.args.layout.now.parts c.requires.new)

pub returns-clause-stay : goal.returns-clause-stay
returns-clause-stay c vid h =
    let new = c.args.new.now in
    rw c.join.ensures (join-stay new.vid new.added c.args.id new.segment c.args.layout.now.parts vid h)

pub returns-clause-placed : goal.returns-clause-placed
returns-clause-placed c =
    let new = c.args.new.now in
    rw c.join.ensures (join-placed new.vid new.added c.args.id new.segment c.args.layout.now.parts c.requires.there)

pub returns-clause-others : goal.returns-clause-others
returns-clause-others c vid other h =
    let new = c.args.new.now in
    rw c.join.ensures (join-others-out new.vid new.added c.args.id new.segment c.args.layout.now.parts vid other h)

pub returns-clause-numbered : goal.returns-clause-numbered
returns-clause-numbered c other part ne h =
    let new = c.args.new.now in
    rw c.join.ensures (join-numbered new.vid new.added c.args.id new.segment c.args.layout.now.parts other part ne h)

pub returns-clause-zero : goal.returns-clause-zero
returns-clause-zero c =
    let new = c.args.new.now in
    rw c.join.ensures (join-zero c.args.layout.now.next new.vid new.added c.args.id new.segment c.args.layout.now.parts c.parts.ensures.sound.sound)
