use Rattle.std.proofs.Common.{ap}
use Rattle.ov_layout.specs.Parts.{Partitions}
use Rattle.ov_catalog.proofs.WholeLemmas.{set-is, tested}
use Rattle.ov_catalog.proofs.WholeParts.{parts-sound}
use Rattle.ov_catalog.proofs.WholeVersions.{are-sound}
use Rattle.ov_catalog.proofs.wholes.set_of.Goals as goal

pub of-requires : goal.of-requires
of-requires c =
    let is = tested c.args.d c.requires.may in
    parts-sound c.args.d is.parts (are-sound c.args.d.versions.items is.versions).some

pub returns-clause-set : goal.returns-clause-set
returns-clause-set c =
    let made = c.in_ok-layout.ensures in
    rw c.threshold_of.ensures
    (set-is c.args.d c.args.schema c.in_ok-layout.layout c.requires.may c.requires.said (ap (λ (l : Partitions). l.parts) made) (ap (λ (l : Partitions). l.next) made))
