use Rattle.ov_catalog.proofs.SeenLemmas.{set-within}
use Rattle.ov_catalog.proofs.targets.may_be.Goals as goal

pub is_source-requires : goal.is_source-requires
is_source-requires c =
    let d = c.args.d.now in
    rw (c.parts.ensures.parts, c.requires.long) (set-within _ d.layout.next d.layout.parts c.parts.ensures.sound.sound c.requires.set.new)
