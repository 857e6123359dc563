use Rattle.ov_segment.proofs.DraftLemmas.{behind_one}
use Rattle.ov_segment.proofs.draft.push_marks.Goals as goal

pub returns-clause-bytes : goal.returns-clause-bytes
returns-clause-bytes c = rw (c.in_ok-extend_from_slice.ensures.items, c.in_ok-push.ensures.items, c.to_le_bytes.ensures) (behind_one _ _ _)
