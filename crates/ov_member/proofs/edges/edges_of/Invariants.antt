use Rattle.std.proofs.Common.{◌≡◌, take}
use Rattle.ov_member.specs.Rids.{AreRids}
use Rattle.ov_member.specs.Edges.{AreEdges, rids_between}
use Rattle.ov_member.proofs.RidLemmas.{after}
use Rattle.ov_member.proofs.edges.edges_of.Given as goal

abbrev pub invariant-loop-rid : goal.invariant-loop-rid
invariant-loop-rid l = AreEdges l.edges.items × AreRids (take l.rid-index l.rids) × (rids_between l.edges.items ≡ take l.rid-index l.rids) × (l.least ≡ after 1 (take l.rid-index l.rids))
