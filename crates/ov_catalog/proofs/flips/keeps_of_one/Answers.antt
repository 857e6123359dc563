use Rattle.std.proofs.Common.{get_or, map}
use Rattle.ov_catalog.specs.declared.cvd.Cvd.{Cvd}
use Rattle.ov_catalog.specs.Ready.{IsSet}
use Rattle.ov_catalog.specs.Sets.{part_in, plan_in}
use Rattle.ov_catalog.specs.Sources.{MayFlip}
use Rattle.ov_catalog.proofs.KeptLemmas.{fits-all, fits-none, may-keep}
use Rattle.ov_catalog.proofs.RoomLemmas.{only-at}
use Rattle.ov_catalog.proofs.flips.keeps_of_one.Goals as goal

pub returns-in-Some : goal.returns-in-Some
returns-in-Some c =
    let sets = c.args.sets.now in
    let d = c.index-sets-at.result in
    let found = c.in-Some.ensures in
    let own : Cvd = get_or sets c.in-Some.at d in
    let is : IsSet own = c.requires.sound c.in-Some.at d found.0 in
    fits-all c.args.cvd 0 sets c.requires.ascend
    (only-at (λ x. MayFlip (plan_in x.plan) (map part_in x.layout.parts)) c.args.cvd 0 sets c.in-Some.at d c.requires.ascend found.0 (found.1 d)
    (may-keep own is own.layout.next c.parts.ensures.sound.sound own.plan is.plan))

pub returns-in_default : goal.returns-in_default
returns-in_default c = fits-none c.args.cvd c.args.sets.now c.in_default.ensures
