use Rattle.std.proofs.Common.{◌+◌, ℕ, List, [], ◌∷◌, ◌++◌, sym, ◌∙◌, ap}
use Rattle.ov_lyre.proofs.OrderFacts.{vids-more}
use Rattle.ov_optimize.proofs.listing.vids_to.Goals as goal

pub loop-vid-preserved : goal.loop-vid-preserved
loop-vid-preserved c = c.in_ok-push.ensures.items ∙ ap (λ (xs : List ℕ). xs ++ (c.loop-vid.vid + 1) ∷ []) c.loop-vid.invariant ∙ sym (vids-more c.loop-vid.vid)
