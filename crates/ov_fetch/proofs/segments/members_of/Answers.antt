use Rattle.std.proofs.Common.{subst}
use Rattle.std.specs.Option.{SomeIff}
use Rattle.ov_member.specs.Rids.{AreRids}
use Rattle.ov_fetch.proofs.Running.{ascend_rise}
use Rattle.ov_fetch.proofs.segments.members_of.Goals as goal

pub unreachable-requires : goal.unreachable-requires
unreachable-requires c =
    let none = subst (λ found. SomeIff found (AreRids c.args.rids.now) c.args.rids.now) c.in-None.is c.in_ok-members.ensures in
    none (ascend_rise 0 c.args.rids.now c.requires)
