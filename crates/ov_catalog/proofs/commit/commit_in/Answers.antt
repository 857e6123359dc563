use Rattle.std.proofs.Common.{ap}
use Rattle.std.proofs.lemmas.List.Elements.{All-set}
use Rattle.ov_host.specs.declared.area.Extent.{Extent}
use Rattle.ov_catalog.specs.Numbers.{SetNumbers}
use Rattle.ov_catalog.specs.Ready.{IsSet}
use Rattle.ov_catalog.proofs.SetLemmas.{find-at, change-at, set-numbers}
use Rattle.ov_catalog.proofs.commit.commit_in.Goals as goal

pub commit-requires-clause-room : goal.commit-requires-clause-room
commit-requires-clause-room c =
    let d = c.index-sets-at.result in
    let found = c.in-Some.ensures in
    c.requires.room c.in-Some.at d found.0 (found.1 d)

pub commit-requires-clause-applies : goal.commit-requires-clause-applies
commit-requires-clause-applies c =
    let d = c.index-sets-at.result in
    let found = c.in-Some.ensures in
    rw (find-at c.args.cvd 0 c.in-Some.at c.args.sets.now d c.requires.ascend found.0 (found.1 d)) at c.requires.applies

pub returns-in-Some-clause-committed : goal.returns-in-Some-clause-committed
returns-in-Some-clause-committed c =
    let d = c.index-sets-at.result in
    let found = c.in-Some.ensures in
    change-at c.args.cvd 0 c.in-Some.at _ c.args.sets.now d c.commit.new.d c.requires.ascend found.0 (found.1 d) c.commit.ensures.committed

pub returns-in-Some-clause-numbers : goal.returns-in-Some-clause-numbers
returns-in-Some-clause-numbers c =
    let d = c.index-sets-at.result in
    let found = c.in-Some.ensures in
    set-numbers c.args.sets.now c.in-Some.at d c.commit.new.d found.0 (ap (λ (s : SetNumbers Extent Extent). s.number) c.commit.ensures.committed)

pub returns-in-Some-clause-sound : goal.returns-in-Some-clause-sound
returns-in-Some-clause-sound c = All-set IsSet c.args.sets.now c.in-Some.at c.commit.new.d c.commit.ensures.set c.requires.sound
