use Rattle.std.proofs.Common.{◌≡◌, ◌<◌, ◌+◌, ◌-◌, ◌∙◌, ℕ, List, get_or, ap, sym, length, arith}
use Rattle.ov_order.specs.declared.keyed.Keyed.{Keyed}
use Rattle.ov_order.specs.Keyed.{keyed_at}
use Rattle.ov_order.proofs.OrderLaws.{get_any, rise_more}
use Rattle.ov_order.proofs.rising.do_keys_rise.Goals as goal

pub loop-i-preserved : goal.loop-i-preserved
loop-i-preserved c =
    let schema = c.args.schema.now in
    let records = c.args.records.now.records in
    let places : List ℕ = c.args.places.now in
    let i : ℕ = c.loop-i.i in
    let next : Keyed = c.keyed_at-next.result in
    let less : i < length places = c.loop-i-test.true in
    let next_is : (none : ℕ) → next ≡ keyed_at schema records (get_or places i none) = λ none. c.keyed_at-next.ensures ∙ ap (keyed_at schema records) (get_any places i _ none less) in
    let back : i + 1 - 1 ≡ i = omega arith in
    record {
      last_is = λ none. next_is none ∙ ap (λ n. keyed_at schema records (get_or places n none)) (sym back);
      rise = rise_more schema records places i c.loop-i.last next (omega arith) c.loop-i.invariant.last_is next_is c.loop-i.invariant.rise (sym c.is_below.ensures ∙ c.if-not-is_below.false);
    }
