use Rattle.std.proofs.Common.{◌≡◌, ◌<◌, ◌+◌, ◌++◌, ◌∷◌, [], length, sym, subst, ◌∙◌, append_assoc, arith}
use Rattle.std.proofs.lemmas.Bool.{eqb-true, eqb-false, false≢true}
use Rattle.std.proofs.lemmas.List.{take-append-drop, nil_from_length}
use Rattle.ov_member.proofs.ReadLemmas.{Reads, next_range, next_is_long, next_fits, reads_none, reads_on, reads_all}
use Rattle.ov_member.proofs.lists.edges_read.Goals as goal

pub loop-rest-init : goal.loop-rest-init
loop-rest-init c = reads_none _ _ c.in_ok-edges.ensures.items

pub returns-then-rest-lt-RANGE_BYTES : goal.returns-then-rest-lt-RANGE_BYTES
returns-then-rest-lt-RANGE_BYTES c = λ rids spells.
    let some = eqb-false _ _ (sym c.loop-rest-test.ensures) in
    let more : 0 < length c.loop-rest.rest.now = omega arith in
    let long = next_is_long _ _ (next_range _ _ _ rids _ c.loop-rest.invariant more spells) in
    omega arith

pub returns-then-not-follows : goal.returns-then-not-follows
returns-then-not-follows c = λ rids spells.
    let some = eqb-false _ _ (sym c.loop-rest-test.ensures) in
    let more : 0 < length c.loop-rest.rest.now = omega arith in
    let parts : c.loop-rest.rest.now ≡ c.split_at.result.0.now ++ c.split_at.result.1.now = sym (rw (c.split_at.ensures.front, c.split_at.ensures.back) (take-append-drop 8 c.loop-rest.rest.now)) in
    let fits = next_fits _ c.loop-rest.rest.now c.split_at.result.0.now c.split_at.result.1.now c.numbers_of-first.result.0 c.numbers_of-first.result.1 (next_range _ _ _ rids _ c.loop-rest.invariant more spells) (omega arith) (omega arith) parts c.numbers_of-first.ensures in
    false≢true (c.if-not-follows.ensures.1 fits)

pub loop-rest-preserved : goal.loop-rest-preserved
loop-rest-preserved c =
    let parts : c.loop-rest.rest.now ≡ c.split_at.result.0.now ++ c.split_at.result.1.now = sym (rw (c.split_at.ensures.front, c.split_at.ensures.back) (take-append-drop 8 c.loop-rest.rest.now)) in
    let first = c.numbers_of-first.result.0 in
    let count = c.numbers_of-first.result.1 in
    let on = reads_on _ c.loop-rest.edges.items c.loop-rest.rest.now c.split_at.result.0.now c.split_at.result.1.now c.loop-rest.past first count c.loop-rest.invariant parts c.numbers_of-first.ensures (omega arith) (omega arith) (omega arith) in
    let items : c.push-in-loop-rest.new.self.items ≡ c.loop-rest.edges.items ++ first ∷ (first + count) ∷ [] = c.in_ok-push-2.ensures.items ∙ rw c.in_ok-push.ensures.items (append_assoc c.loop-rest.edges.items (first ∷ []) ((first + count) ∷ [])) in
    rw items on

pub returns : goal.returns
returns c =
    let none : c.loop-rest.rest.now ≡ [] = nil_from_length c.loop-rest.rest.now (eqb-true _ _ (sym c.loop-rest-test.ensures)) in
    let reads = subst (Reads c.args.bytes.now c.loop-rest.edges.items c.loop-rest.past) none c.loop-rest.invariant in
    (reads.sound, reads_all _ _ _ reads)
