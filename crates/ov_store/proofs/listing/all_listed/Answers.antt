use Rattle.std.proofs.Common.{◌++◌, ◌+◌, [], ◌∷◌, ap, sym, ◌∙◌, arith}
use Rattle.ov_model.specs.Records.{counted}
use Rattle.ov_version_bytes.proofs.Counting.{counted_more}
use Rattle.ov_store.proofs.listing.all_listed.Goals as goal

pub loop-place-preserved : goal.loop-place-preserved
loop-place-preserved c =
    c.in_ok-push.ensures.items
    ∙ ap (λ vids. vids ++ (c.loop-place.place + 1) ∷ []) c.loop-place.invariant
    ∙ ap (λ vid. counted 1 c.loop-place.place ++ vid ∷ []) (omega arith)
    ∙ sym (counted_more 1 c.loop-place.place)
