use Rattle.std.proofs.Common.{◌≡◌, ◌<◌, ◌+◌, ◌/◌, ◌∷◌, ℕ, suc, List, length, get_or, sym, subst, ap, ◌∙◌, arith}
use Rattle.ov_value.proofs.LowBytes.{AreBytes, front_again, front_small, marks_whole}
use Rattle.ov_value.proofs.marked.marks_at.Goals as goal
use Rattle.ov_value.proofs.marked.marks_at.Goals.{then-width-most-via-then-width-most, then-width-most-via-else-width-most+then-rest-count}

pub returns-then-width-most-clause-none : goal.returns-then-width-most-clause-none
returns-then-width-most-clause-none c width nulls rest most begins =
    let whole = marks_whole c.in_ok-width.width.now c.in_ok-width.rest.now width nulls rest (sym c.in_ok-width.ensures.cases.0 ∙ begins.bytes_are) in
    elim c.then-width-most.branch [
      | then-width-most-via-then-width-most w ↦ omega (arith, whole.0)
      | then-width-most-via-else-width-most+then-rest-count w ↦
          let same : c.in_ok-width.width.now ≡ width = whole.0 in
          let short : length c.in_ok-width.rest.now < (c.in_ok-width.width.now + 7) / 8 = w.if-rest-count.true in
          absurd (omega (arith, whole.1, same, short))
    ]

pub returns-clause-found : goal.returns-clause-found
returns-clause-found c =
    let count : ℕ = (c.in_ok-width.width.now + 7) / 8 in
    let bytes : AreBytes c.in_ok-width.rest.now = λ i. subst (λ (l : List ℕ). get_or l (suc i) 0 < 256) c.in_ok-width.ensures.cases.0 (omega (arith, c.type_inv.bytes (suc i))) in (
      c.if-width-most.false,
      record {
        small = rw c.number_of.ensures (front_small c.in_ok-width.rest.now c.split_at.result.0.now _ bytes c.if-rest-count.false c.split_at.ensures.front);
        bytes_are = c.in_ok-width.ensures.cases.0 ∙ ap (λ (l : List ℕ). c.in_ok-width.width.now ∷ l)
            (rw (c.number_of.ensures, c.split_at.ensures.back) (front_again c.in_ok-width.rest.now c.split_at.result.0.now _ bytes c.if-rest-count.false c.split_at.ensures.front));
      },
    )
