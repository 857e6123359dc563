use Rattle.std.proofs.Common.{◌≡◌, ◌<◌, ◌-◌, ◌++◌, [], suc, length, map, get_or, sym, subst, ap, ◌∙◌, arith}
use Rattle.std.specs.List.{All}
use Rattle.std.proofs.lemmas.List.{length-set}
use Rattle.std.proofs.lemmas.List.Elements.{All-tail}
use Rattle.std.specs.Vec.Iter.{into_iter_items}
use Rattle.ov_targets.specs.declared.candidates.Partition.{Partition}
use Rattle.ov_targets.specs.Emptying.{candidates_in, emptied_at, greatest, place_in}
use Rattle.ov_targets.specs.Targets.{AreBelow}
use Rattle.ov_targets.proofs.Buckets.{all_empty, bucket_more, bucket_none}
use Rattle.ov_targets.proofs.Marks.{greatest_below}
use Rattle.ov_targets.proofs.candidates.candidates_of.Goals as goal

pub loop-partition-init : goal.loop-partition-init
loop-partition-init c =
    let whole = c.into_iter-partition-iterator.ensures.into_iter_gives.0 in
    let place = place_in c.args.lasts.now in
    record {
      can = tt;
      ends = tt;
      long = c.in_ok-emptied.ensures.long;
      within = subst (All (λ (p : Partition). AreBelow (length c.args.lasts.now) p.versions.items)) (sym whole) c.requires.within;
      each = λ at lt. ap (λ l. l ++ emptied_at place at (into_iter_items c.into_iter-partition-iterator.result)) (all_empty c.in_ok-emptied.emptied.items at c.in_ok-emptied.ensures.empty)
          ∙ ap (emptied_at place at) whole;
    }

pub index_mut-requires : goal.index_mut-requires
index_mut-requires c =
    let most = greatest_below (place_in c.args.lasts.now) c.args.count c.deref.result.now c.requires.places in
    omega (arith, most, c.greatest_of-place.ensures, c.if-place-gt0.true, c.loop-partition.invariant.long, c.loop-partition.emptied.ok)

pub loop-partition-preserved-then-place-gt0 : goal.loop-partition-preserved-then-place-gt0
loop-partition-preserved-then-place-gt0 c =
    let place = place_in c.args.lasts.now in
    let lists = c.loop-partition.emptied.items in
    let p = c.in-Some.partition in
    let rest = into_iter_items c.next.new.self in
    let steps = c.in-Some.ensures.steps.0 in
    let i = c.greatest_of-place.result - 1 in
    let before = c.loop-partition.invariant in
    let most = greatest_below place c.args.count c.deref.result.now c.requires.places in
    let low : i < length lists = omega (arith, most, c.greatest_of-place.ensures, c.if-place-gt0.true, before.long) in
    let goes : greatest place p.versions.items ≡ suc i = ap (greatest place) (sym c.deref.ensures.value) ∙ omega (arith, c.greatest_of-place.ensures, c.if-place-gt0.true) in
    record {
      can = tt;
      ends = tt;
      long = omega (arith, length-set lists i c.push.new.self, before.long);
      within = All-tail (λ (q : Partition). AreBelow (length c.args.lasts.now) q.versions.items) p rest
          (subst (All (λ (q : Partition). AreBelow (length c.args.lasts.now) q.versions.items)) steps before.within);
      each = λ at lt. bucket_more place lists i c.index_mut.result.now c.push.new.self p rest low c.index_mut.ensures.value c.in_ok-push.ensures.items goes at
          ∙ ap (λ l. get_or (map candidates_in lists) at [] ++ emptied_at place at l) (sym steps) ∙ before.each at lt;
    }

pub loop-partition-preserved : goal.loop-partition-preserved
loop-partition-preserved c =
    let place = place_in c.args.lasts.now in
    let lists = c.loop-partition.emptied.items in
    let p = c.in-Some.partition in
    let rest = into_iter_items c.next.new.self in
    let steps = c.in-Some.ensures.steps.0 in
    let before = c.loop-partition.invariant in
    let none : greatest place p.versions.items ≡ 0 = ap (greatest place) (sym c.deref.ensures.value) ∙ omega (arith, c.greatest_of-place.ensures, c.if-place-gt0.false) in
    record {
      can = tt;
      ends = tt;
      long = before.long;
      within = All-tail (λ (q : Partition). AreBelow (length c.args.lasts.now) q.versions.items) p rest
          (subst (All (λ (q : Partition). AreBelow (length c.args.lasts.now) q.versions.items)) steps before.within);
      each = λ at lt. ap (λ l. get_or (map candidates_in lists) at [] ++ l) (sym (bucket_none place at p rest none))
          ∙ ap (λ l. get_or (map candidates_in lists) at [] ++ emptied_at place at l) (sym steps) ∙ before.each at lt;
    }
