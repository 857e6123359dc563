use Rattle.std.proofs.Common.{◌≡◌, ◌∙◌, ℕ, List, subst, sym}
use Rattle.std.proofs.lemmas.Result.{IfOk-weaker}
use Rattle.ov_order.specs.Keyed.{KeysRise}
use Rattle.ov_merge.specs.Places.{place_cmp}
use Rattle.ov_merge.specs.Walks.{once}
use Rattle.ov_merge.proofs.Rising.{once_up}
use Rattle.ov_merge.proofs.once.once.Goals as goal

pub returns-then-do_keys_rise : goal.returns-then-do_keys_rise
returns-then-do_keys_rise c =
    let schema = c.args.schema.now in
    let records = c.args.records.now in
    let places : List ℕ = c.args.places.now in
    let rise : KeysRise schema records places = subst (λ rs. KeysRise schema rs places) c.table.ensures (c.do_keys_rise.ensures c.if-do_keys_rise.true) in
    IfOk-weaker c.from_slice.result (λ made. made.items ≡ places) (λ made. made.items ≡ once (place_cmp schema records) places)
    (λ made is. is ∙ sym (once_up (place_cmp schema records) places rise)) c.from_slice.ensures.items
