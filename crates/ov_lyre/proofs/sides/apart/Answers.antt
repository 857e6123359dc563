use Rattle.std.proofs.Common.{◌≡◌, ℕ, ◌-◌, ◌++◌, List, [], ◌∷◌, length-set, get_or, sym, ◌∙◌, ap, arith}
use Rattle.std.specs.Prelude.{Vec}
use Rattle.std.specs.declared.alloc.Global.{Global}
use Rattle.std.specs.List.{slice_index}
use Rattle.ov_lyre.specs.Parts.{lists_of}
use Rattle.std.proofs.lemmas.List.{get_or-map}
use Rattle.ov_lyre.proofs.PartFacts.{has-at}
use Rattle.ov_lyre.proofs.SidesFacts.{none-numbered, above-skip, above-push, below-skip, below-push}
use Rattle.ov_lyre.proofs.sides.apart.Goals.{then-number-eq0+in_ok-push, else-number-eq0+in_ok-push-2}
use Rattle.ov_lyre.proofs.sides.apart.Goals as goal

pub loop-vid-init : goal.loop-vid-init
loop-vid-init c = record {
  above = c.new-above.ensures.items;
  long = c.in_ok-below.ensures.long;
  below = none-numbered c.args.part.now c.args.numbers.now c.args.count c.in_ok-below.below.items c.in_ok-below.ensures.empty;
}

pub bounds-numbers-vid : goal.bounds-numbers-vid
bounds-numbers-vid c = c.requires.there (get_or c.args.part.now c.loop-vid.vid-index 0) (has-at c.args.part.now c.loop-vid.vid-index c.loop-vid-test.true)

pub overflow_sub-count : goal.overflow_sub-count
overflow_sub-count c = c.requires.within (get_or c.args.part.now c.loop-vid.vid-index 0) (has-at c.args.part.now c.loop-vid.vid-index c.loop-vid-test.true)

pub index_mut-requires : goal.index_mut-requires
index_mut-requires c =
    let within = c.requires.within (get_or c.args.part.now c.loop-vid.vid-index 0) (has-at c.args.part.now c.loop-vid.vid-index c.loop-vid-test.true) in
    let some = c.if-number-eq0.false in
    let long = c.loop-vid.invariant.long in
    omega (arith, within, some, long, c.loop-vid.below.ok)

pub loop-vid-preserved : goal.loop-vid-preserved
loop-vid-preserved c =
    let part = c.args.part.now in
    let numbers = c.args.numbers.now in
    let count = c.args.count in
    let k = c.loop-vid.vid-index in
    let there = c.loop-vid-test.true in
    let before = c.loop-vid.invariant in
    elim c.if-number-eq0.branch [
      | then-number-eq0+in_ok-push w ↦
          rw (w.above-is, w.below-is) (record {
            above = w.in_ok-push.ensures.items ∙ above-push part numbers count k there c.loop-vid.above.items w.if-number-eq0.true before.above;
            long = before.long;
            below = below-skip part numbers count k there (lists_of c.loop-vid.below.items) w.if-number-eq0.true before.below;
          })
      | else-number-eq0+in_ok-push-2 w ↦
          let within = c.requires.within (get_or part k 0) (has-at part k there) in
          let place = count - slice_index numbers (get_or part k 0) in
          let some = w.if-number-eq0.false in
          let long = before.long in
          let side_is : w.index_mut.result.now.items ≡ get_or (lists_of c.loop-vid.below.items) place [] =
          ap (λ (v : Vec ℕ Global). v.items) w.index_mut.ensures.value ∙ sym (get_or-map (λ (v : Vec ℕ Global). v.items) c.loop-vid.below.items place _ [] (omega (arith, within, some, long))) in
          let pushed = w.in_ok-push-2.ensures.items ∙ ap (λ (xs : List ℕ). xs ++ get_or part k 0 ∷ []) side_is in
          rw (w.above-is, w.below-is) (record {
            above = above-skip part numbers count k there c.loop-vid.above.items some before.above;
            long = length-set c.loop-vid.below.items place _ ∙ long;
            below = below-push part numbers count k there c.loop-vid.below.items _ long some within pushed before.below;
          })
    ]
