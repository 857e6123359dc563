use Rattle.std.proofs.Common.{ap}
use Rattle.std.proofs.lemmas.List.Elements.{All-set}
use Rattle.ov_host.specs.declared.area.Extent.{Extent}
use Rattle.ov_catalog.specs.Numbers.{SetNumbers}
use Rattle.ov_catalog.specs.Ready.{IsSet}
use Rattle.ov_catalog.proofs.SetLemmas.{find-at, change-at, set-numbers}
use Rattle.ov_catalog.proofs.copies.copy_in.Goals as goal

pub copy-requires-clause-room : goal.copy-requires-clause-room
copy-requires-clause-room c =
    let d = c.index-sets-at.result in
    let found = c.in-Some.ensures in
    c.requires.room c.in-Some.at d found.0 (found.1 d)

pub copy-requires-clause-applies : goal.copy-requires-clause-applies
copy-requires-clause-applies c =
    let d = c.index-sets-at.result in
    let found = c.in-Some.ensures in
    rw (find-at c.args.cvd 0 c.in-Some.at c.args.sets.now d c.requires.ascend found.0 (found.1 d)) at c.requires.applies

pub returns-in-Some-clause-copied : goal.returns-in-Some-clause-copied
returns-in-Some-clause-copied c =
    let d = c.index-sets-at.result in
    let found = c.in-Some.ensures in
    change-at c.args.cvd 0 c.in-Some.at _ c.args.sets.now d c.copy.new.d c.requires.ascend found.0 (found.1 d) c.copy.ensures.copied

pub returns-in-Some-clause-numbers : goal.returns-in-Some-clause-numbers
returns-in-Some-clause-numbers c =
    let d = c.index-sets-at.result in
    let found = c.in-Some.ensures in
    set-numbers c.args.sets.now c.in-Some.at d c.copy.new.d found.0 (ap (λ (s : SetNumbers Extent Extent). s.number) c.copy.ensures.copied)

pub returns-in-Some-clause-sound : goal.returns-in-Some-clause-sound
returns-in-Some-clause-sound c = All-set IsSet c.args.sets.now c.in-Some.at c.copy.new.d c.copy.ensures.set c.requires.sound
