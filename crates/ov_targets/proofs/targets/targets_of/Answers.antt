use Rattle.std.proofs.Common.{◌≡◌, ◌<◌, ◌+◌, ◌∷◌, [], suc, length, map, get_or, drop, refl, sym, subst, ap, ◌∙◌, arith}
use Rattle.std.proofs.lemmas.List.{get_or-map, length-map, length-append}
use Rattle.ov_match.specs.Matching.{AllSound, NumbersAscend}
use Rattle.ov_targets.specs.Emptying.{AreLasts, candidates_in, place_in}
use Rattle.ov_targets.specs.Targets.{IsTarget, versions_in}
use Rattle.ov_targets.proofs.Buckets.{places_most, same_emptied, some_ascend, some_sound, vids_below}
use Rattle.ov_targets.proofs.Said.{AreFirst, begun_is, first_all, first_more}
use Rattle.ov_targets.proofs.targets.targets_of.Goals as goal

pub lasts_of-requires : goal.lasts_of-requires
lasts_of-requires c k d lt = vids_below (length c.args.lists.now) _ _ refl (c.requires.parts k d lt)

pub candidates_of-requires-clause-within : goal.candidates_of-requires-clause-within
candidates_of-requires-clause-within c k d lt =
    vids_below (length c.args.lists.now) _ _ (ap length c.deref.ensures.value ∙ c.in_ok-lasts.ensures.long) (c.requires.versions k d lt)

pub candidates_of-requires-clause-places : goal.candidates_of-requires-clause-places
candidates_of-requires-clause-places c vid =
    let parts = c.args.parts.now in
    let lasts = subst (λ ls. AreLasts (map versions_in parts) (place_in ls)) (sym c.deref.ensures.value) c.in_ok-lasts.ensures.lasts in
    omega (arith, places_most (map versions_in parts) (place_in c.deref.result.now) lasts vid, length-map parts versions_in)

pub target_of-requires-clause-numbers : goal.target_of-requires-clause-numbers
target_of-requires-clause-numbers c =
    let at = c.loop-at.at in
    let low : at < length c.in_ok-emptied.emptied.items = omega (arith, c.loop-at-test.true, c.in_ok-emptied.ensures.long) in
    let own = c.deref-in-loop-at-2.ensures.value ∙ ap candidates_in c.index.ensures
    ∙ sym (get_or-map candidates_in c.in_ok-emptied.emptied.items at c.index.result.now [] low) ∙ c.in_ok-emptied.ensures.emptied at c.loop-at-test.true in
    subst (NumbersAscend 0) (sym own) (some_ascend _ 0 c.args.partitions.items c.requires.numbers)

pub target_of-requires-clause-segments : goal.target_of-requires-clause-segments
target_of-requires-clause-segments c =
    let at = c.loop-at.at in
    let low : at < length c.in_ok-emptied.emptied.items = omega (arith, c.loop-at-test.true, c.in_ok-emptied.ensures.long) in
    let own = c.deref-in-loop-at-2.ensures.value ∙ ap candidates_in c.index.ensures
    ∙ sym (get_or-map candidates_in c.in_ok-emptied.emptied.items at c.index.result.now [] low) ∙ c.in_ok-emptied.ensures.emptied at c.loop-at-test.true in
    subst AllSound (sym own) (some_sound _ c.args.partitions.items c.requires.segments)

pub loop-at-preserved : goal.loop-at-preserved
loop-at-preserved c =
    let parts = c.args.parts.now in
    let lists = c.args.lists.now in
    let partitions = c.args.partitions.items in
    let vids = map versions_in parts in
    let at = c.loop-at.at in
    let t = c.in_ok-target_of.field-0 in
    let before = c.loop-at.invariant in
    let place = place_in c.deref.result.now in
    let lasts = subst (λ ls. AreLasts vids (place_in ls)) (sym c.deref.ensures.value) c.in_ok-lasts.ensures.lasts in
    let count : at < length vids = omega (arith, c.loop-at-test.true, length-map parts versions_in) in
    let low : at < length c.in_ok-emptied.emptied.items = omega (arith, c.loop-at-test.true, c.in_ok-emptied.ensures.long) in
    let own = c.deref-in-loop-at-2.ensures.value ∙ ap candidates_in c.index.ensures
    ∙ sym (get_or-map candidates_in c.in_ok-emptied.emptied.items at c.index.result.now [] low) ∙ c.in_ok-emptied.ensures.emptied at c.loop-at-test.true
    ∙ same_emptied vids place at partitions lasts count in
    let mine : c.deref-in-loop-at.result.now ≡ get_or vids at [] =
    c.deref-in-loop-at.ensures.value ∙ ap versions_in c.index-parts-at.is ∙ sym (get_or-map versions_in parts at c.index-parts-at.result [] c.loop-at-test.true) in
    let is : IsTarget lists partitions (get_or vids at []) (drop (at + 1) vids) t =
    begun_is lists partitions (get_or vids at []) (drop (at + 1) vids) _ _ t mine own c.requires.numbers c.in_ok-target_of.ensures in
    let next : at + 1 ≡ suc at = omega arith in
    let pushed = c.in_ok-push.ensures.items in
    record {
      long = ap length pushed ∙ omega (arith, length-append c.loop-at.targets.items (t ∷ []), before.long);
      first = subst (AreFirst lists partitions vids) (sym pushed)
          (first_more lists partitions vids c.loop-at.targets.items at t before.long count before.first
          (subst (λ n. IsTarget lists partitions (get_or vids at []) (drop n vids) t) next is));
    }

pub returns : goal.returns
returns c =
    let parts = c.args.parts.now in
    first_all c.args.lists.now c.args.partitions.items (map versions_in parts) c.loop-at.targets.items
    (omega (arith, c.loop-at.invariant.long, length-map parts versions_in, c.loop-at-test.false, c.loop-at.auto.at-end)) c.loop-at.invariant.first
