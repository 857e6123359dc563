-- A join is of the book.
use Rattle.std.proofs.Common.{◌≡◌, sym, ◌∙◌, ap}
use Rattle.std.specs.Prelude.{Result}
use Rattle.ov_model.specs.Act.{Session}
use Rattle.ov_model.specs.Book.{Cvd}
use Rattle.ov_model.specs.Joins.{join_deed, join_over, side_in, side_of}
use Rattle.ov_model.specs.World.{World, book}
use Rattle.ov_model.specs.declared.query.JoinQuery.{JoinQuery}
use Rattle.ov_model.specs.declared.query.Side.{Side}
use Rattle.ov_model.specs.declared.refusal.Refusal.{Refusal}
use Rattle.ov_model.proofs.Alike.{first_named, found_in_book}

side_of_book : (w v : World) (side : Side) → book w ≡ book v → side_of w side ≡ side_of v side
side_of_book w v side same =
    ap (side_in side) (found_in_book side.cvd w.sets ∙ ap (first_named side.cvd) same ∙ sym (found_in_book side.cvd v.sets))

pub join_of_book : (w v : World) (s : Session) (join : JoinQuery) → book w ≡ book v → join_deed w s join ≡ join_deed v s join
join_of_book w v s join same =
    ap (λ (left : Result Cvd Refusal). join_over s join left (side_of w join.right)) (side_of_book w v join.left same)
    ∙ ap (join_over s join (side_of v join.left)) (side_of_book w v join.right same)
