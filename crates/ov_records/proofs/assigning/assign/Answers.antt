use Rattle.std.proofs.Common.{◌≡◌, true, false, map, sym, ◌∙◌, ap, subst}
use Rattle.std.specs.List.{zip}
use Rattle.ov_value.specs.Rows.{key_cmp}
use Rattle.ov_model.specs.Assigned.{assigned, fresh_rows}
use Rattle.ov_model.specs.Lists.{Rises}
use Rattle.ov_records.specs.Records.{lists_of, shared, WouldPass}
use Rattle.ov_records.specs.Found.{numbered, new_among}
use Rattle.ov_records.proofs.Commits.{are_records}
use Rattle.ov_records.proofs.Rids.{numbered_is, new_is}
use Rattle.ov_records.proofs.assigning.assign.Goals as goal

pub returns-then-would_pass-clause-cause : goal.returns-then-would_pass-clause-cause
returns-then-would_pass-clause-cause c = λ e.
    let fresh : c.count_new-fresh.result ≡ fresh_rows c.args.rows.now (lists_of c.args.parents.now) =
    c.count_new-fresh.ensures ∙ ap new_among (c.as_slice.ensures.value ∙ c.in_ok-shares.ensures.found) ∙ new_is c.args.rows.now (lists_of c.args.parents.now) in
    subst (WouldPass c.args.next) fresh (c.would_pass.ensures.0 c.if-would_pass.true)

pub returns-clause-rids : goal.returns-clause-rids
returns-clause-rids c =
    c.new.ensures ∙ c.in_ok-rids.ensures
    ∙ ap (λ l. numbered l c.args.next) (c.as_slice-2.ensures.value ∙ c.in_ok-shares.ensures.found)
    ∙ numbered_is c.args.rows.now (lists_of c.args.parents.now) c.args.next

pub returns-clause-weights : goal.returns-clause-weights
returns-clause-weights c =
    let parents = lists_of c.args.parents.now in
    let rids : c.new.result ≡ assigned c.args.rows.now parents c.args.next =
    c.new.ensures ∙ c.in_ok-rids.ensures
    ∙ ap (λ l. numbered l c.args.next) (c.as_slice-2.ensures.value ∙ c.in_ok-shares.ensures.found)
    ∙ numbered_is c.args.rows.now parents c.args.next in
    c.new-2.ensures ∙ c.in_ok-shares.ensures.weights c.args.next
    ∙ ap (λ l. map (shared (zip l c.args.rows.now)) parents) (sym rids)

pub returns-clause-fresh : goal.returns-clause-fresh
returns-clause-fresh c =
    c.count_new-fresh.ensures ∙ ap new_among (c.as_slice.ensures.value ∙ c.in_ok-shares.ensures.found) ∙ new_is c.args.rows.now (lists_of c.args.parents.now)

pub returns-clause-room : goal.returns-clause-room
returns-clause-room c = λ w.
    let fresh : c.count_new-fresh.result ≡ fresh_rows c.args.rows.now (lists_of c.args.parents.now) =
    c.count_new-fresh.ensures ∙ ap new_among (c.as_slice.ensures.value ∙ c.in_ok-shares.ensures.found) ∙ new_is c.args.rows.now (lists_of c.args.parents.now) in
    clash (sym c.if-would_pass.false ∙ c.would_pass.ensures.1 (subst (WouldPass c.args.next) (sym fresh) w))
  where
    clash : false ≡ true → ⊥
    clash e = cc

pub returns-clause-records : goal.returns-clause-records
returns-clause-records c = λ versions v rows lists next.
    let parents = lists_of c.args.parents.now in
    let rids : c.new.result ≡ assigned c.args.rows.now parents c.args.next =
    c.new.ensures ∙ c.in_ok-rids.ensures
    ∙ ap (λ l. numbered l c.args.next) (c.as_slice-2.ensures.value ∙ c.in_ok-shares.ensures.found)
    ∙ numbered_is c.args.rows.now parents c.args.next in
    let weights : c.new-2.result ≡ map (shared (zip c.new.result c.args.rows.now)) parents =
    c.new-2.ensures ∙ c.in_ok-shares.ensures.weights c.args.next
    ∙ ap (λ l. map (shared (zip l c.args.rows.now)) parents) (sym rids) in
    let fresh : c.count_new-fresh.result ≡ fresh_rows c.args.rows.now parents =
    c.count_new-fresh.ensures ∙ ap new_among (c.as_slice.ensures.value ∙ c.in_ok-shares.ensures.found) ∙ new_is c.args.rows.now parents in
    let same = sym rows in
    are_records c.args.schema.now versions v parents c.args.next c.new.result c.new-2.result c.count_new-fresh.result
    (subst (Rises (key_cmp c.args.schema.now)) same c.requires.rows)
    lists next
    (subst (λ l. c.new.result ≡ assigned l parents c.args.next) same rids)
    (subst (λ l. c.new-2.result ≡ map (shared (zip c.new.result l)) parents) same weights)
    (subst (λ l. c.count_new-fresh.result ≡ fresh_rows l parents) same fresh)
