use Rattle.std.proofs.Common.{◌≡◌, drop}
use Rattle.std.specs.Prelude.{find, All}
use Rattle.ov_catalog.specs.Applying.{is_named}
use Rattle.ov_catalog.specs.Ready.{IsSet}
use Rattle.ov_catalog.specs.Sets.{sets_in}
use Rattle.ov_catalog.proofs.catalog.Catalog.cvd.Given as goal

abbrev pub invariant-loop-d : goal.invariant-loop-d
invariant-loop-d l = (find (is_named l.name) (sets_in l.sets) ≡ find (is_named l.name) (sets_in (drop l.d-index l.sets))) × All IsSet l.sets
