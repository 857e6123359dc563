use Rattle.std.proofs.Common.{◌≡◌, ◌∷◌, ◌∙◌, [], List, ap, map}
use Rattle.std.specs.Prelude.{filter, if◌then◌else◌}
use Rattle.ov_model.specs.Answers.{Pair, here_for, holds, kept_pairs, limited, order_by, places, shown, sorted_by}
use Rattle.ov_terms.specs.Finding.{shown_by}
use Rattle.ov_terms.specs.Standing.{pairs_at}
use Rattle.ov_qrun.specs.Keys.{pairs_of, spot_order}
use Rattle.ov_qrun.proofs.Meaning.{limited-map}
use Rattle.ov_qrun.proofs.run.answer_rows.Goals as goal

pub returns : goal.returns
returns c = λ related pairs are.
    let plan = c.args.plan.now in
    let schema = plan.shape.now in
    let rows = c.args.table.now in
    let query = plan.query.now in
    let all = c.args.taken_spots.items in
    let order = λ (a b : List Pair). order_by query.order (here_for schema related a) (here_for schema related b) in
    let kept : pairs_at rows all ≡ kept_pairs query schema related pairs =
    are ∙ (λ i. filter (λ pair. c.requires.plan.filter related (pair ∷ []) i) pairs) in
    let groups = c.in_ok-groups.ensures related all
    (c.as_slice-2.ensures.value ∙ c.in_ok-sort_if.ensures
    ∙ ap (λ cols. if c.args.grouped then sorted_by (spot_order rows cols) all else all) c.as_slice.ensures.value) in
    let placed = rw c.as_slice-3.ensures.value at c.in_ok-places.ensures related in
    c.in_ok-rows.ensures
    ∙ ap (λ l. map (shown_by plan.items) (map (pairs_of rows) l)) (c.first_places-first.ensures ∙ ap (limited query.limit) c.as_slice-4.ensures.value)
    ∙ (λ i. map (λ group. c.requires.plan.items group i) (map (pairs_of rows) (limited query.limit c.in_ok-places.places.items)))
    ∙ ap (map (shown schema query.items))
    (limited-map (pairs_of rows) query.limit c.in_ok-places.places.items
    ∙ ap (limited query.limit) (placed ∙ ap (sorted_by order) (groups ∙ ap (places query schema related) kept)))
