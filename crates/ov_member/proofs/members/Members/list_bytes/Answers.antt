use Rattle.std.proofs.Common.{◌∙◌}
use Rattle.ov_member.proofs.ReadLemmas.{is_written}
use Rattle.ov_member.proofs.members.Members.list_bytes.Goals as goal

pub returns : goal.returns
returns c =
    let written = is_written _ _ _ c.self.invariant c.self.view_is (c.new.ensures ∙ rw c.deref.ensures.value at c.in_ok-bytes.ensures) in
    record { spells = written.spells; spelling = written.spelling }
