use Rattle.std.proofs.Common.{◌≡◌, drop}
use Rattle.std.specs.List.{list_any}
use Rattle.ov_catalog.specs.Applying.{is_named}
use Rattle.ov_catalog.specs.Sets.{sets_in}
use Rattle.ov_catalog.proofs.finding.has_name.Given as goal

abbrev pub invariant-loop-d : goal.invariant-loop-d
invariant-loop-d l = list_any (is_named l.name) (sets_in l.sets) ≡ list_any (is_named l.name) (sets_in (drop l.d-index l.sets))
