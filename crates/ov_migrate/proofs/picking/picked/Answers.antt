use Rattle.std.proofs.Common.{sym, subst, ◌∙◌}
use Rattle.std.specs.Option.{SomeIff}
use Rattle.ov_member.specs.Lists.{Spells}
use Rattle.ov_member.specs.Rids.{AreRids}
use Rattle.ov_migrate.proofs.Walking.{picked_rise, spelled_rise}
use Rattle.ov_migrate.proofs.picking.picked.Goals as goal

pub unreachable-requires : goal.unreachable-requires
unreachable-requires c =
    let rids = c.args.rids.now in
    let spells = subst (λ bytes. Spells bytes rids) (sym c.as_slice.ensures) c.in_ok-bytes.ensures.spells in
    let found = c.in_ok-found.ensures rids spells in
    let none = subst (λ found. SomeIff found (AreRids c.deref.result.now) c.deref.result.now) c.in-None.is c.in_ok-members.ensures in
    none (subst AreRids (sym (c.deref.ensures.value ∙ found)) (picked_rise c.args.most c.args.from rids (spelled_rise _ rids spells)))
