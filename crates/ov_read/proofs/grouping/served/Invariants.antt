use Rattle.std.proofs.Common.{◌≡◌, take}
use Rattle.std.specs.List.{filter_map}
use Rattle.ov_read.specs.Gathering.{place_at}
use Rattle.ov_read.proofs.grouping.served.Given as goal

abbrev pub invariant-loop-vid : goal.invariant-loop-vid
invariant-loop-vid l = l.group.items ≡ filter_map (place_at l.places) (take l.vid-index l.versions)
