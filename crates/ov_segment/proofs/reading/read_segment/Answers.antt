use Rattle.std.proofs.Common.{inl, inr, ◌≡◌, ◌≢◌, ◌++◌, ◌∷◌, [], ℕ, List, length, drop, arith, ap, sym, subst, ◌∙◌, Some}
use Rattle.std.proofs.lemmas.Bool.{eqb-true, eqb-false}
use Rattle.ov_segment.proofs.SegmentLemmas.{HasRead, tail_slice, read_next, read_none, read_only, begins_whole, begins_good}
use Rattle.ov_segment.proofs.reading.read_segment.Goals as goal

pub loop-rest-preserved : goal.loop-rest-preserved
loop-rest-preserved c =
    let reads = rw c.in-Record.is at c.in_ok-next.ensures in
    let next = read_next c.args.schema.now c.args.bytes.now c.loop-rest.records.items c.loop-rest.last c.loop-rest.rest.now c.in-Record.one (drop c.in_ok-next.len c.loop-rest.rest.now) c.loop-rest.invariant reads.0 in
    rw c.in_ok-push-in-Record.ensures.items
    (subst (λ (l : List ℕ). HasRead c.args.schema.now c.args.bytes.now (c.loop-rest.records.items ++ c.in-Record.one ∷ []) c.in-Record.one.rid l) (sym (tail_slice c.loop-rest.rest.now c.in_ok-next.len)) next)

pub returns-in-More : goal.returns-in-More
returns-in-More c =
    let some : length c.loop-rest.rest.now ≢ 0 = eqb-false (length c.loop-rest.rest.now) 0 (sym c.is_empty.ensures ∙ c.loop-rest-test.true) in
    record {
      found = tt;
      only = λ all are e. absurd (read_none c.args.schema.now c.args.bytes.now c.loop-rest.records.items c.loop-rest.last c.loop-rest.rest.now c.loop-rest.invariant (omega arith)
          (λ r after begins. elim c.in-More.is [
            | inl more ↦ begins_whole c.args.schema.now c.loop-rest.last c.loop-rest.rest.now r after begins (rw more at c.in_ok-next.ensures)
            | inr bad ↦ begins_good c.args.schema.now c.loop-rest.last c.loop-rest.rest.now r after begins (rw bad at c.in_ok-next.ensures)
          ]) all are e);
    }

pub returns-clause-only : goal.returns-clause-only
returns-clause-only c all are e =
    let ended : length c.loop-rest.rest.now ≡ 0 = eqb-true (length c.loop-rest.rest.now) 0 (sym c.is_empty.ensures ∙ c.loop-rest-test.false) in
    ap Some (c.new.ensures ∙ read_only c.args.schema.now c.args.bytes.now c.loop-rest.records.items c.loop-rest.last c.loop-rest.rest.now c.loop-rest.invariant ended all are e)
