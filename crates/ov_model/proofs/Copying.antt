-- What a copy brings.
use Rattle.std.proofs.Common.{◌≡◌, ◌+◌, List, [], ◌∷◌, ◌++◌, length, sym, ◌∙◌, ap}
use Rattle.std.proofs.lemmas.List.{append-nil, length-append, length-take}
use Rattle.std.proofs.lemmas.Grind.{flat_map-append}
use Rattle.std.specs.Prelude.{Some, min, take}
use Rattle.ov_model.specs.Lists.{joined}
use Rattle.ov_model.specs.Plans.{copied_for, copied_more, missing}
use Rattle.ov_model.specs.Records.{Rec}
use Rattle.ov_model.specs.World.{Dataset, Plan, copied_records}

one_more : (pieces : List (List Rec)) (piece : List Rec) → length (joined (pieces ++ piece ∷ [])) ≡ length (joined pieces) + length piece
one_more pieces piece =
    ap length (flat_map-append (λ xs. xs) pieces (piece ∷ []))
    ∙ length-append (joined pieces) (piece ++ [])
    ∙ ap (λ xs. length (joined pieces) + length xs) (append-nil piece)

pub copy_brings : (d : Dataset) (plan : Plan) → d.plan ≡ Some plan → copied_records (copied_more d).plan ≡ copied_records d.plan + min 256 (length (missing d plan))
copy_brings d plan is =
    ap (λ p. copied_records (copied_for d p)) is
    ∙ one_more plan.copied (take 256 (missing d plan))
    ∙ ap (λ n. length (joined plan.copied) + n) (length-take 256 (missing d plan))
    ∙ ap (λ p. copied_records p + min 256 (length (missing d plan))) (sym is)
