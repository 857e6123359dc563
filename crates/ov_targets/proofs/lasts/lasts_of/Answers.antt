use Rattle.std.proofs.Common.{◌≡◌, ◌+◌, ◌++◌, ◌∷◌, [], ℕ, List, length, map, take, get_or, sym, subst, ap, ◌∙◌, arith}
use Rattle.std.specs.Prelude.{if◌then◌else◌}
use Rattle.std.proofs.lemmas.List.{take_more, map-append, length-map, length-take}
use Rattle.ov_model.specs.World.{is_one}
use Rattle.ov_targets.specs.Emptying.{AreLasts, place_in}
use Rattle.ov_targets.specs.Targets.{versions_in}
use Rattle.ov_targets.proofs.Marks.{lasts_more}
use Rattle.ov_targets.proofs.lasts.lasts_of.Goals as goal

pub loop-at-preserved : goal.loop-at-preserved
loop-at-preserved c =
    let parts = c.args.parts.now in
    let at = c.loop-at.at in
    let part = c.index-parts-at.result in
    let here : get_or parts at part ≡ part = sym c.index-parts-at.is in
    let more : map versions_in (take (at + 1) parts) ≡ map versions_in (take at parts) ++ part.items ∷ [] =
    ap (map versions_in) (take_more parts at part c.loop-at-test.true)
    ∙ map-append versions_in (take at parts) (get_or parts at part ∷ [])
    ∙ ap (λ p. map versions_in (take at parts) ++ versions_in p ∷ []) here in
    let count : length (map versions_in (take at parts)) ≡ at =
    omega (arith, length-map (take at parts) versions_in, length-take at parts, c.loop-at-test.true) in
    let marked : (vid : ℕ) → place_in c.mark.new.lasts.items vid ≡ (if is_one part.items vid then at + 1 else place_in c.loop-at.lasts.items vid) =
    λ vid. c.mark.ensures.marked vid ∙ ap (λ (ns : List ℕ). if is_one ns vid then at + 1 else place_in c.loop-at.lasts.items vid) c.deref.ensures.value in
    record {
      long = omega (arith, c.mark.ensures.long, c.loop-at.invariant.long);
      are = subst (λ ps. AreLasts ps (place_in c.mark.new.lasts.items)) (sym more)
          (lasts_more (map versions_in (take at parts)) part.items (place_in c.loop-at.lasts.items) (place_in c.mark.new.lasts.items) at count c.loop-at.invariant.are marked);
    }
