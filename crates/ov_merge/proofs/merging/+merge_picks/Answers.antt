use Rattle.std.proofs.Common.{◌≡◌, ◌<◌, ◌/◌, length, take, drop, sym, ◌∙◌, subst, arith}
use Rattle.std.specs.List.{All}
use Rattle.std.proofs.lemmas.Result.{IfOk-weaker}
use Rattle.ov_model.specs.Lists.{joined}
use Rattle.ov_fetch.specs.Scans.{AllStand, InKeyOrder, rows_at}
use Rattle.ov_merge.specs.Places.{place_cmp, IsMerge}
use Rattle.ov_merge.specs.Walks.{both, once}
use Rattle.ov_merge.proofs.Merged.{places_total, in_order}
use Rattle.ov_merge.proofs.Picks.{all_take, all_drop, joined_halves, all_once, all_both, one_pick}
use Rattle.ov_merge.proofs.Walking.{merge_both, merge_once}
use Rattle.ov_merge.proofs.merging.+merge_picks.Goals as goal

-- either half has fewer versions
pub merge_picks-requires : goal.merge_picks-requires
merge_picks-requires t c =
    let front = sym c.split_at.ensures.front in
    let picks = c.args.picks.now in
    let half = length picks / 2 in (
      omega (arith, c.decreases),
      (
        c.requires.fit,
        (
          subst (All (AllStand c.args.records.now)) front (all_take (AllStand c.args.records.now) picks half c.requires.stand),
          subst (All (λ pick. InKeyOrder c.args.schema.now (rows_at c.args.records.now pick))) front
              (all_take (λ pick. InKeyOrder c.args.schema.now (rows_at c.args.records.now pick)) picks half c.requires.ordered),
        ),
      ),
    )

pub merge_picks-requires-in_default : goal.merge_picks-requires-in_default
merge_picks-requires-in_default t c =
    let back = sym c.split_at.ensures.back in
    let picks = c.args.picks.now in
    let half = length picks / 2 in (
      omega (arith, c.decreases),
      (
        c.requires.fit,
        (
          subst (All (AllStand c.args.records.now)) back (all_drop (AllStand c.args.records.now) picks half c.requires.stand),
          subst (All (λ pick. InKeyOrder c.args.schema.now (rows_at c.args.records.now pick))) back
              (all_drop (λ pick. InKeyOrder c.args.schema.now (rows_at c.args.records.now pick)) picks half c.requires.ordered),
        ),
      ),
    )

pub returns-in-len1-clause-stand : goal.returns-in-len1-clause-stand
returns-in-len1-clause-stand t c =
    let records = c.args.records.now in
    let R = place_cmp c.args.schema.now records in
    let pick : AllStand records c.as_slice.result.now =
    subst (AllStand records) (sym (c.as_slice.ensures ∙ c.pick-item.is)) (c.requires.stand 0 c.pick-item.result (omega arith)) in
    IfOk-weaker c.once.result (λ made. made.items ≡ once R c.as_slice.result.now) (λ places. AllStand records places.items)
    (λ made is. subst (AllStand records) (sym is) (all_once (λ place. place < length records) R c.as_slice.result.now pick)) c.once.ensures

pub returns-in-len1-clause-merge : goal.returns-in-len1-clause-merge
returns-in-len1-clause-merge t c =
    let records = c.args.records.now in
    let schema = c.args.schema.now in
    let R = place_cmp schema records in
    let pick : InKeyOrder schema (rows_at records c.as_slice.result.now) =
    subst (λ l. InKeyOrder schema (rows_at records l)) (sym (c.as_slice.ensures ∙ c.pick-item.is)) (c.requires.ordered 0 c.pick-item.result (omega arith)) in
    let long : length c.args.picks.now ≡ 1 = omega arith in
    let whole : joined c.args.picks.now ≡ c.as_slice.result.now = one_pick c.args.picks.now c.pick-item.result long c.pick-item.is ∙ sym c.as_slice.ensures in
    IfOk-weaker c.once.result (λ made. made.items ≡ once R c.as_slice.result.now) (λ places. IsMerge R (joined c.args.picks.now) places.items)
    (λ made is.
    subst (IsMerge R (joined c.args.picks.now)) (sym is)
    (subst (λ l. IsMerge R l (once R c.as_slice.result.now)) (sym whole)
    (merge_once R (places_total schema records) c.as_slice.result.now (in_order schema records c.as_slice.result.now pick)))) c.once.ensures

pub returns-in_ok-second-in_default-clause-stand :
    goal.returns-in_ok-second-in_default-clause-stand
returns-in_ok-second-in_default-clause-stand t c =
    let records = c.args.records.now in
    let R = place_cmp c.args.schema.now records in
    let first = c.as_slice-in_default.result.now in
    let second = c.as_slice-in_default-2.result.now in
    let stand_first : AllStand records first = subst (AllStand records) (sym c.as_slice-in_default.ensures.value) c.in_ok-first-in_default.ensures.stand in
    let stand_second : AllStand records second = subst (AllStand records) (sym c.as_slice-in_default-2.ensures.value) c.in_ok-second-in_default.ensures.stand in
    IfOk-weaker c.both.result (λ made. made.items ≡ both R first second) (λ places. AllStand records places.items)
    (λ made is. subst (AllStand records) (sym is) (all_both (λ place. place < length records) R first second stand_first stand_second)) c.both.ensures

pub returns-in_ok-second-in_default-clause-merge :
    goal.returns-in_ok-second-in_default-clause-merge
returns-in_ok-second-in_default-clause-merge t c =
    let records = c.args.records.now in
    let schema = c.args.schema.now in
    let R = place_cmp schema records in
    let picks = c.args.picks.now in
    let half = length picks / 2 in
    let first = c.as_slice-in_default.result.now in
    let second = c.as_slice-in_default-2.result.now in
    let front : IsMerge R (joined (take half picks)) first =
    subst (IsMerge R (joined (take half picks))) (sym c.as_slice-in_default.ensures.value)
    (subst (λ l. IsMerge R (joined l) c.in_ok-first-in_default.first.items) c.split_at.ensures.front c.in_ok-first-in_default.ensures.merge) in
    let back : IsMerge R (joined (drop half picks)) second =
    subst (IsMerge R (joined (drop half picks))) (sym c.as_slice-in_default-2.ensures.value)
    (subst (λ l. IsMerge R (joined l) c.in_ok-second-in_default.second.items) c.split_at.ensures.back c.in_ok-second-in_default.ensures.merge) in
    let made_of : IsMerge R (joined picks) (both R first second) =
    subst (λ l. IsMerge R l (both R first second)) (joined_halves picks half)
    (merge_both R (places_total schema records) (joined (take half picks)) (joined (drop half picks)) first second front back) in
    IfOk-weaker c.both.result (λ made. made.items ≡ both R first second) (λ places. IsMerge R (joined picks) places.items)
    (λ made is. subst (IsMerge R (joined picks)) (sym is) made_of) c.both.ensures
