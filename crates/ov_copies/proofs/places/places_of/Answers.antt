use Rattle.std.proofs.Common.{◌≡◌, ◌<◌, Some, length, get_or, ◌∙◌, subst, arith}
use Rattle.std.proofs.lemmas.List.{length-set}
use Rattle.ov_read.proofs.Placing.{PlacesTo, goes_on}
use Rattle.ov_copies.proofs.places.places_of.Goals as goal

pub loop-place-preserved : goal.loop-place-preserved
loop-place-preserved c =
    let versions = c.args.versions.now in
    let k = c.loop-place.place in
    let fits : get_or c.args.versions.now c.loop-place.place 0 < length c.loop-place.places.items = omega (arith, c.loop-place.invariant.count, c.requires.there c.loop-place.place 0 c.loop-place-test.true) in
    record {
      count = length-set c.loop-place.places.items (get_or versions k 0) (Some k) ∙ c.loop-place.invariant.count;
      are = goes_on versions c.loop-place.places.items k c.loop-place-test.true fits c.requires.once c.loop-place.invariant.are;
    }

pub returns : goal.returns
returns c =
    let versions = c.args.versions.now in
    let all : c.loop-place.place ≡ length c.args.versions.now = omega (arith, c.loop-place-test.false, c.loop-place.auto.place-end) in
    let h = subst (λ n. PlacesTo n versions c.loop-place.places.items) all c.loop-place.invariant.are in
    record { only = h.only; all = h.all }
