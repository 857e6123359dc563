use Rattle.ov_catalog.specs.Raw.{place_in}
use Rattle.law_commits.proofs.Agreed.{nothing_off, event_applies}
use Rattle.law_commits.proofs.applying.a_commit_that_agrees_applies.Goals as goal

pub returns-clause-dataset : goal.returns-clause-dataset
returns-clause-dataset c = λ d schema vids message rows parents held place list segment may agree is_place are at_list at_segment.
    nothing_off d schema vids message rows parents may agree held (place_in place) list segment is_place are at_list at_segment

pub returns-clause-event : goal.returns-clause-event
returns-clause-event c = event_applies
