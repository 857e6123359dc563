use Rattle.std.proofs.lemmas.List.Elements.{All-set}
use Rattle.ov_catalog.specs.Ready.{IsSet}
use Rattle.ov_catalog.proofs.SetLemmas.{find-at, change-at, set-numbers}
use Rattle.ov_catalog.proofs.wide.wide_in.Goals as goal

pub widen-requires-clause-room : goal.widen-requires-clause-room
widen-requires-clause-room c =
    let d = c.index-sets-at.result in
    let found = c.in-Some.ensures in
    c.requires.room c.in-Some.at d found.0 (found.1 d)

pub widen-requires-clause-applies : goal.widen-requires-clause-applies
widen-requires-clause-applies c =
    let d = c.index-sets-at.result in
    let found = c.in-Some.ensures in
    rw (find-at c.args.cvd 0 c.in-Some.at c.args.sets.now d c.requires.ascend found.0 (found.1 d)) at c.requires.applies

pub returns-in-Some-clause-committed : goal.returns-in-Some-clause-committed
returns-in-Some-clause-committed c columns kept =
    let d = c.index-sets-at.result in
    let found = c.in-Some.ensures in
    let is = rw (find-at c.args.cvd 0 c.in-Some.at c.args.sets.now d c.requires.ascend found.0 (found.1 d)) at kept in
    change-at c.args.cvd 0 c.in-Some.at _ c.args.sets.now d c.widen.new.d c.requires.ascend found.0 (found.1 d) (c.widen.ensures.committed columns is)

pub returns-in-Some-clause-numbers : goal.returns-in-Some-clause-numbers
returns-in-Some-clause-numbers c =
    let d = c.index-sets-at.result in
    let found = c.in-Some.ensures in
    set-numbers c.args.sets.now c.in-Some.at d c.widen.new.d found.0 c.widen.ensures.number

pub returns-in-Some-clause-sound : goal.returns-in-Some-clause-sound
returns-in-Some-clause-sound c = All-set IsSet c.args.sets.now c.in-Some.at c.widen.new.d c.widen.ensures.set c.requires.sound
