use Rattle.std.proofs.Common.{◌≡◌, ◌+◌, ◌<◌, [], ◌∷◌, true, false, drop, get_or, length, vec_len, vec_capacity, sym, ◌∙◌, ap, List, arith, append_assoc, length-append}
use Rattle.ov_host.specs.declared.area.Extent.{Extent}
use Rattle.ov_layout.specs.Parts.{has}
use Rattle.ov_layout.specs.Flips.{others}
use Rattle.ov_layout.proofs.FlipLemmas.{others-next}
use Rattle.ov_layout.proofs.flips.give_others.Goals.{then-not-is_among, else-not-is_among}
use Rattle.ov_layout.proofs.flips.give_others.Goals as goal

pub loop-place-preserved : goal.loop-place-preserved
loop-place-preserved c =
    let none : Extent = record { page = 0; bytes = 0 } in
    let k = c.loop-place.place in
    let extents = c.args.extents.now in
    let kept = c.args.kept.now in
    let extent = get_or extents k none in
    let rest = others (k + 1) kept (drop (k + 1) extents) in
    let next = others-next k kept extents none c.loop-place-test.true in
    let given = c.loop-place.invariant.given in
    let room = c.loop-place.invariant.room in
    elim c.if-not-is_among.branch [
      | then-not-is_among w ↦
          let absent : has kept k ≡ false = sym c.is_among.ensures ∙ w.if-not-is_among.true in
          let step : others k kept (drop k extents) ≡ extent ∷ rest = rw absent at next in
          let more : length (others k kept (drop k extents)) ≡ length rest + 1 = ap (λ (es : List Extent). length es) step ∙ omega arith in
          let within : vec_len c.loop-place.freed < vec_capacity c.loop-place.freed = omega arith in
          let ok = w.push.ensures.succeeds within in
          let items = rw ok at w.push.ensures.items in
          record {
            given = rw (w.freed-is, items) (append_assoc c.loop-place.freed.items (extent ∷ []) rest ∙ (rw step at given));
            room = rw (w.freed-is, items, length-append c.loop-place.freed.items (extent ∷ [])) (omega (arith, room, more, w.push.ensures.capacity));
            capacity = rw w.freed-is (omega (arith, c.loop-place.invariant.capacity, w.push.ensures.capacity));
          }
      | else-not-is_among w ↦
          let there : has kept k ≡ true = sym c.is_among.ensures ∙ w.if-not-is_among.false in
          let step : others k kept (drop k extents) ≡ rest = rw there at next in
          rw w.freed-is (record { given = rw step at given; room = rw step at room; capacity = c.loop-place.invariant.capacity })
    ]
