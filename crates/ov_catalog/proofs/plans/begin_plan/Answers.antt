use Rattle.std.proofs.Common.{ap}
use Rattle.std.proofs.lemmas.List.Elements.{All-set}
use Rattle.ov_host.specs.declared.area.Extent.{Extent}
use Rattle.ov_catalog.specs.Numbers.{SetNumbers}
use Rattle.ov_catalog.specs.Ready.{IsSet}
use Rattle.ov_catalog.proofs.SetLemmas.{change-at, change-none, set-numbers}
use Rattle.ov_catalog.proofs.plans.begin_plan.Goals as goal

pub begin-requires-clause-can : goal.begin-requires-clause-can
begin-requires-clause-can c =
    let d = c.index-sets-at.result in
    let found = c.in-Some.ensures in
    c.requires.begins c.in-Some.at d found.0 (found.1 d)

pub returns-in-Some-clause-planned : goal.returns-in-Some-clause-planned
returns-in-Some-clause-planned c =
    let d = c.index-sets-at.result in
    let found = c.in-Some.ensures in
    change-at c.args.cvd 0 c.in-Some.at _ c.args.sets.now d c.begin.new.d c.requires.ascend found.0 (found.1 d) c.begin.ensures.planned

pub returns-in-Some-clause-numbers : goal.returns-in-Some-clause-numbers
returns-in-Some-clause-numbers c =
    let d = c.index-sets-at.result in
    let found = c.in-Some.ensures in
    set-numbers c.args.sets.now c.in-Some.at d c.begin.new.d found.0 (ap (λ (s : SetNumbers Extent Extent). s.number) c.begin.ensures.planned)

pub returns-in-Some-clause-sound : goal.returns-in-Some-clause-sound
returns-in-Some-clause-sound c = All-set IsSet c.args.sets.now c.in-Some.at c.begin.new.d c.begin.ensures.set c.requires.sound

pub returns-in_default-clause-planned : goal.returns-in_default-clause-planned
returns-in_default-clause-planned c = change-none c.args.cvd _ _ c.in_default.ensures
