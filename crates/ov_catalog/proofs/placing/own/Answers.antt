use Rattle.ov_layout.proofs.NewLemmas.{new-own}
use Rattle.ov_catalog.proofs.PartLemmas.{own-in, own-numbered, own-others, own-placed, own-stay, own-zero}
use Rattle.ov_catalog.proofs.placing.own.Goals as goal

pub returns-clause-parts : goal.returns-clause-parts
returns-clause-parts c =
    let new = c.args.new.now in
    rw c.own.ensures (own-in c.args.layout.now.next new.vid new.added new.segment c.args.layout.now.parts)

pub returns-clause-new : goal.returns-clause-new
returns-clause-new c =
    let new = c.args.new.now in
    rw c.own.ensures (new-own new.vid c.args.layout.now.next new.added new.segment c.args.layout.now.parts c.requires.new)

pub returns-clause-stay : goal.returns-clause-stay
returns-clause-stay c vid h =
    let new = c.args.new.now in
    rw c.own.ensures (own-stay c.args.layout.now.next new.vid new.added new.segment c.args.layout.now.parts vid h)

pub returns-clause-placed : goal.returns-clause-placed
returns-clause-placed c =
    let new = c.args.new.now in
    rw c.own.ensures (own-placed c.args.layout.now.next new.vid new.added new.segment c.args.layout.now.parts)

pub returns-clause-others : goal.returns-clause-others
returns-clause-others c vid other h =
    let new = c.args.new.now in
    rw c.own.ensures (own-others c.args.layout.now.next new.vid new.added new.segment c.args.layout.now.parts vid other h)

pub returns-clause-numbered : goal.returns-clause-numbered
returns-clause-numbered c id part h =
    let new = c.args.new.now in
    rw c.own.ensures (own-numbered c.args.layout.now.next new.vid new.added new.segment c.args.layout.now.parts id part h)

pub returns-clause-zero : goal.returns-clause-zero
returns-clause-zero c =
    let new = c.args.new.now in
    let sound = c.parts.ensures.sound.sound in
    rw c.own.ensures (own-zero c.args.layout.now.next new.vid new.added new.segment c.args.layout.now.parts sound)
