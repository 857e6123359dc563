use Rattle.ov_member.proofs.EdgeLemmas.{RiseFrom-between}
use Rattle.ov_member.proofs.lists.read_list.Goals as goal

pub returns-in-Some : goal.returns-in-Some
returns-in-Some c =
    let read = rw c.in-Some.is at c.in_ok-edges_read.ensures in
    rw c.kept_by.ensures (record { found = read.1; none = tt; set = RiseFrom-between 0 _ read.0.ascend })
