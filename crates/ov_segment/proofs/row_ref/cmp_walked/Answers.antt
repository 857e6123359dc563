use Rattle.std.proofs.Common.{◌≡◌, ◌<◌, ℕ, List, length, get_or, subst, sym, ◌∙◌}
use Rattle.ov_value.specs.declared.value.Value.{Value}
use Rattle.ov_segment.proofs.KeyLemmas.{is_equal, is_other, key_decided, key_goes_on, splits}
use Rattle.ov_segment.proofs.row_ref.cmp_walked.Goals as goal

pub loop-i-preserved : goal.loop-i-preserved
loop-i-preserved c =
    let a : List Value = c.args.a.now in
    let b : List Value = c.args.b.now in
    let key : List ℕ = c.args.schema.now.key in
    let i : ℕ = c.loop-i.i in
    let low : i < length key = subst (λ (l : List ℕ). i < length l) c.key-place-items.ensures.key c.loop-i-test.true in
    let place : get_or key i 0 ≡ i = subst (λ (l : List ℕ). get_or l i 0 ≡ i) c.key-place-items.ensures.key c.if-place-i.false in
    let first = splits a i _ c.next.new.self (sym c.loop-i.invariant.first ∙ c.in-Some-Some.ensures) in
    let second = splits b i _ c.next-in-loop-i.new.self (sym c.loop-i.invariant.second ∙ c.in-Some-Some.ensures') in
    record {
      first = sym first.behind;
      second = sym second.behind;
      same = c.loop-i.invariant.same ∙ key_goes_on a b key i 0 _ _ low place first.here second.here (sym c.compare-order.ensures ∙ is_equal c.compare-order.result (sym c.ne.ensures ∙ c.if-ne.false));
    }

pub returns-then-ne : goal.returns-then-ne
returns-then-ne c =
    let a : List Value = c.args.a.now in
    let b : List Value = c.args.b.now in
    let key : List ℕ = c.args.schema.now.key in
    let i : ℕ = c.loop-i.i in
    let low : i < length key = subst (λ (l : List ℕ). i < length l) c.key-place-items.ensures.key c.loop-i-test.true in
    let place : get_or key i 0 ≡ i = subst (λ (l : List ℕ). get_or l i 0 ≡ i) c.key-place-items.ensures.key c.if-place-i.false in
    let first = splits a i _ c.next.new.self (sym c.loop-i.invariant.first ∙ c.in-Some-Some.ensures) in
    let second = splits b i _ c.next-in-loop-i.new.self (sym c.loop-i.invariant.second ∙ c.in-Some-Some.ensures') in
    sym (c.loop-i.invariant.same ∙ key_decided a b key i 0 _ _ c.compare-order.result low place first.here second.here c.compare-order.ensures (is_other c.compare-order.result (sym c.ne.ensures ∙ c.if-ne.true)))
