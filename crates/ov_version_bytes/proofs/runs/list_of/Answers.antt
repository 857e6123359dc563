use Rattle.std.proofs.Common.{sym, ◌∙◌, subst}
use Rattle.ov_member.specs.Rids.{AreRids}
use Rattle.ov_version_bytes.proofs.runs.list_of.Goals as goal

-- these rids are a set
pub unreachable-requires : goal.unreachable-requires
unreachable-requires c =
    (rw c.in-None.is at c.in_ok-members.ensures) (subst AreRids (sym (c.as_slice.ensures.value ∙ c.in_ok-rids.ensures)) c.requires)
