use Rattle.std.proofs.Common.{◌≡◌, [], take}
use Rattle.ov_catalog.specs.Sets.{set_in}
use Rattle.ov_read.proofs.Listing.{HasLists}
use Rattle.ov_read.proofs.lists.read_lists.Given as goal

abbrev pub invariant-loop-vid : goal.invariant-loop-vid
invariant-loop-vid g l =
    HasLists (g.H.Host.state l.fn.host) (g.H.Host.state l.host) (set_in l.d) (take l.vid-index l.vids) l.lists.items
    × (l.vids ≡ [] → g.H.Host.state l.host ≡ g.H.Host.state l.fn.host)
