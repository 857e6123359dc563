use Rattle.std.proofs.Common.{subst, sym}
use Rattle.ov_member.specs.Rids.{AreRids}
use Rattle.ov_member.proofs.EdgeLemmas.{RiseFrom-between}
use Rattle.ov_member.proofs.draft.MembersDraft.done.Goals as goal

pub returns-clause-set : goal.returns-clause-set
returns-clause-set c = subst AreRids (sym c.kept_by.ensures) (RiseFrom-between 0 _ c.self.invariant.ascend)
