use Rattle.std.proofs.Common.{◌∷◌, ◌∙◌, [], List, ap, sym, map}
use Rattle.std.specs.Prelude.{filter, if◌then◌else◌}
use Rattle.ov_model.specs.Answers.{Pair, grouped_pairs, here_for, holds, sorted_by}
use Rattle.ov_terms.specs.Finding.{found_holds}
use Rattle.ov_terms.specs.Standing.{pairs_at}
use Rattle.ov_qrun.specs.Keys.{spot_order}
use Rattle.ov_qrun.proofs.Meaning.{alone-places, held-places, if-false, if-true}
use Rattle.ov_qrun.proofs.run.taken.Goals as goal

pub returns-then-grouped : goal.returns-then-grouped
returns-then-grouped c = λ related all is.
    let plan = c.args.plan.now in
    let schema = plan.shape.now in
    let records = c.args.table.now in
    let query = plan.query.now in
    let kept = pairs_at records all in
    let having = λ (pairs : List Pair). holds (here_for schema related pairs) query.having in
    held-places (λ group. group.now) records (found_holds plan.having) c.in_ok-found.found.items c.as_slice.result.now (grouped_pairs schema query.groups kept)
    c.in_ok-found.ensures
    (ap (map (λ group. pairs_at records group.now)) c.as_slice.ensures.value
    ∙ c.in_ok-groups.ensures all (is ∙ if-true c.args.grouped (sorted_by (spot_order records plan.groups.items) all) all c.if-grouped.true))
    ∙ (λ i. filter (λ pairs. c.requires.plan.having related pairs i) (grouped_pairs schema query.groups kept))
    ∙ sym (ap (λ b. if b then filter having (grouped_pairs schema query.groups kept) else map (λ pair. pair ∷ []) kept) (sym c.requires.grouped ∙ c.if-grouped.true))

pub returns : goal.returns
returns c = λ related all is.
    let plan = c.args.plan.now in
    let schema = plan.shape.now in
    let records = c.args.table.now in
    let query = plan.query.now in
    let kept = pairs_at records all in
    let having = λ (pairs : List Pair). holds (here_for schema related pairs) query.having in
    alone-places (λ group. group.now) records c.in_ok-found-2.found.items c.args.spots.now c.in_ok-found-2.ensures
    ∙ ap (λ l. map (λ pair. pair ∷ []) (pairs_at records l)) (is ∙ if-false c.args.grouped (sorted_by (spot_order records plan.groups.items) all) all c.if-grouped.false)
    ∙ sym (ap (λ b. if b then filter having (grouped_pairs schema query.groups kept) else map (λ pair. pair ∷ []) kept) (sym c.requires.grouped ∙ c.if-grouped.false))
