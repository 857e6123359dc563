use Rattle.std.proofs.Common.{◌<◌, ℕ, List, length, sym, ◌∙◌, subst}
use Rattle.std.specs.List.Sorted.{IsPermutation}
use Rattle.std.proofs.lemmas.List.Sorted.{All-permutation}
use Rattle.ov_fetch.specs.Scans.{AllStand}
use Rattle.ov_read.specs.Picking.{IsPick}
use Rattle.ov_read.proofs.ordering.pick_of.Goals as goal

pub in_key_order-requires-clause-stand : goal.in_key_order-requires-clause-stand
in_key_order-requires-clause-stand c = subst (AllStand c.args.records.now.records) (sym c.deref.ensures.value) c.in_ok-places.ensures.stand

pub returns-clause-pick : goal.returns-clause-pick
returns-clause-pick c =
    let order : List ℕ = c.in_ok-order.order.items in
    subst (IsPick c.args.schema.now c.args.records.now.records c.args.rids.now) (sym c.new.ensures)
    (record { same = subst (λ (ps : List ℕ). IsPermutation ps order) (c.deref.ensures.value ∙ c.in_ok-places.ensures.places) c.in_ok-order.ensures.same; ordered = c.in_ok-order.ensures.ordered })

pub returns-clause-stand : goal.returns-clause-stand
returns-clause-stand c =
    let records = c.args.records.now.records in
    let stand = subst (AllStand records) (sym c.deref.ensures.value) c.in_ok-places.ensures.stand in
    subst (AllStand records) (sym c.new.ensures) (All-permutation (λ place. place < length records) _ _ c.in_ok-order.ensures.same stand)
