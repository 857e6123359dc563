use Rattle.std.proofs.Common.{◌++◌, ℕ, List, [], ◌∷◌, get_or, take, refl, sym, ◌∙◌, ap, arith}
use Rattle.std.proofs.lemmas.List.{append-nil}
use Rattle.ov_host.specs.declared.area.Extent.{Extent}
use Rattle.ov_catalog.specs.Events.{chosen}
use Rattle.ov_migrate.proofs.Kept.{chosen_more, one_found, one_none}
use Rattle.ov_migrate.proofs.keeping.kept_segments.Goals as goal
use Rattle.ov_migrate.proofs.keeping.kept_segments.Goals.{then-place-segments+in_ok-push, else-place-segments}

pub loop-place-preserved : goal.loop-place-preserved
loop-place-preserved c =
    let segments : List Extent = c.segments_at-segments.result.now in
    let kept : List ℕ = c.as_slice-kept.result.now in
    let k = c.loop-place.place-index in
    let place : ℕ = get_or kept k 0 in
    let none : Extent = record { page = 0; bytes = 0 } in
    let before : List Extent = chosen (take k kept) segments in
    let more = chosen_more segments kept k c.loop-place-test.true in
    elim c.if-place-segments.branch [
      | then-place-segments+in_ok-push w ↦
          ap (λ v. v.items) w.found-is
          ∙ w.in_ok-push.ensures.items
          ∙ ap (λ (l : List Extent). l ++ get_or segments place none ∷ []) c.loop-place.invariant
          ∙ ap (λ (l : List Extent). before ++ l) (sym (one_found segments place (get_or segments place none) none w.if-place-segments.true refl))
          ∙ sym more
      | else-place-segments w ↦
          ap (λ v. v.items) w.found-is
          ∙ c.loop-place.invariant
          ∙ sym (append-nil before)
          ∙ ap (λ (l : List Extent). before ++ l) (sym (one_none segments place (omega (arith, w.if-place-segments.false))))
          ∙ sym more
    ]
