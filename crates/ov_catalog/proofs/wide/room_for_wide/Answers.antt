use Rattle.std.proofs.Common.{ap, ◌∙◌}
use Rattle.std.proofs.lemmas.List.Elements.{All-set}
use Rattle.ov_host.specs.declared.area.Extent.{Extent}
use Rattle.ov_catalog.specs.Numbers.{SetNumbers}
use Rattle.ov_catalog.specs.Raw.{place_in}
use Rattle.ov_catalog.specs.Ready.{IsSet}
use Rattle.ov_catalog.proofs.SetLemmas.{find-at, set-same}
use Rattle.ov_catalog.proofs.RoomLemmas.{fits-set, on-ok}
use Rattle.ov_catalog.proofs.wide.room_for_wide.Goals as goal

pub returns-clause-answer : goal.returns-clause-answer
returns-clause-answer c =
    let d = c.index-sets-at.result in
    let found = c.in-Some.ensures in
    rw (find-at c.args.cvd 0 c.in-Some.at c.args.sets.now d c.requires.ascend found.0 (found.1 d)) c.room_in.ensures.answer

pub returns-clause-made : goal.returns-clause-made
returns-clause-made c =
    let d = c.index-sets-at.result in
    let found = c.in-Some.ensures in
    rw (find-at c.args.cvd 0 c.in-Some.at c.args.sets.now d c.requires.ascend found.0 (found.1 d)) c.room_in.ensures.made

pub returns-clause-same : goal.returns-clause-same
returns-clause-same c = set-same c.args.sets.now c.in-Some.at c.index-sets-at.result c.room_in.new.d c.in-Some.ensures.0 c.room_in.ensures.same

pub returns-clause-sound : goal.returns-clause-sound
returns-clause-sound c = All-set IsSet c.args.sets.now c.in-Some.at c.room_in.new.d c.room_in.ensures.set c.requires.sound

pub returns-clause-room : goal.returns-clause-room
returns-clause-room c =
    let d = c.index-sets-at.result in
    let found = c.in-Some.ensures in
    let number = ap (λ (s : SetNumbers Extent Extent). s.number) c.room_in.ensures.same ∙ found.1 d in
    on-ok c.room_in.result _ _ (fits-set c.args.cvd (place_in c.args.new.now.place) 0 c.args.sets.now c.in-Some.at d c.room_in.new.d c.requires.ascend found.0 (found.1 d) number) c.room_in.ensures.room
