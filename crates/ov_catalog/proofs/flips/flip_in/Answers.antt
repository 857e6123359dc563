use Rattle.std.proofs.Common.{ap, ◌∙◌, append-nil}
use Rattle.std.proofs.lemmas.List.Elements.{All-set}
use Rattle.ov_host.specs.declared.area.Extent.{Extent}
use Rattle.ov_catalog.specs.Numbers.{SetNumbers}
use Rattle.ov_catalog.specs.Ready.{IsSet}
use Rattle.ov_catalog.proofs.SetLemmas.{find-at, change-at, filter-at, set-numbers}
use Rattle.ov_catalog.proofs.TurnLemmas.{flipped-number}
use Rattle.ov_catalog.proofs.flips.flip_in.Goals as goal

pub flip-requires-clause-room : goal.flip-requires-clause-room
flip-requires-clause-room c =
    let d = c.index-sets-at.result in
    let found = c.in-Some.ensures in
    c.requires.room c.in-Some.at d found.0 (found.1 d)

pub flip-requires-clause-applies : goal.flip-requires-clause-applies
flip-requires-clause-applies c =
    let d = c.index-sets-at.result in
    let found = c.in-Some.ensures in
    rw (find-at c.args.cvd 0 c.in-Some.at c.args.sets.now d c.requires.ascend found.0 (found.1 d)) at c.requires.applies

pub returns-in-Some-clause-flipped : goal.returns-in-Some-clause-flipped
returns-in-Some-clause-flipped c =
    let d = c.index-sets-at.result in
    let found = c.in-Some.ensures in
    change-at c.args.cvd 0 c.in-Some.at _ c.args.sets.now d c.flip.new.d c.requires.ascend found.0 (found.1 d) c.flip.ensures.flipped

pub returns-in-Some-clause-numbers : goal.returns-in-Some-clause-numbers
returns-in-Some-clause-numbers c =
    let d = c.index-sets-at.result in
    let found = c.in-Some.ensures in
    set-numbers c.args.sets.now c.in-Some.at d c.flip.new.d found.0 (ap (λ (s : SetNumbers Extent Extent). s.number) c.flip.ensures.flipped ∙ flipped-number _)

pub returns-in-Some-clause-sound : goal.returns-in-Some-clause-sound
returns-in-Some-clause-sound c = All-set IsSet c.args.sets.now c.in-Some.at c.flip.new.d c.flip.ensures.set c.requires.sound

pub flip-requires-clause-behind : goal.flip-requires-clause-behind
flip-requires-clause-behind c =
    let d = c.index-sets-at.result in
    let found = c.in-Some.ensures in
    let one = filter-at c.args.cvd 0 c.in-Some.at c.args.sets.now d c.requires.ascend found.0 (found.1 d) in
    rw (one, append-nil) at c.requires.behind

pub returns-in-Some-clause-freed : goal.returns-in-Some-clause-freed
returns-in-Some-clause-freed c =
    let d = c.index-sets-at.result in
    let found = c.in-Some.ensures in
    let one = filter-at c.args.cvd 0 c.in-Some.at c.args.sets.now d c.requires.ascend found.0 (found.1 d) in
    rw (one, append-nil) c.flip.ensures.freed
