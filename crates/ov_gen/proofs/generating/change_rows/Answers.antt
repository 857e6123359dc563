use Rattle.std.proofs.Common.{◌≡◌, ◌+◌, ◌/◌, ◌<◌, [], map, get_or, slice_set, pos, ap, sym, ◌∙◌, refl, arith, rules}
use Rattle.std.proofs.lemmas.List.{get_or_read}
use Rattle.ov_value.specs.declared.value.Value.TheVariants.{Int}
use Rattle.ov_model.specs.Book.{Row}
use Rattle.ov_model.specs.Generator.{with_number}
use Rattle.ov_gen.proofs.Growing.{begin-set, begin-there, begin-three, begin-with, changes-more}
use Rattle.ov_gen.proofs.generating.change_rows.Goals as goal

pub index_mut-requires : goal.index_mut-requires
index_mut-requires c =
    let below : c.draw-place.result < c.args.count = omega (arith, c.draw-place.ensures.below, c.from.ensures) in
    let end = c.requires.grown.0 in
    let h = begin-there c.args.count 1 end c.draw-place.result c.loop.rows.items below (c.loop.invariant.kept end c.requires.grown.1) in
    search (rules, h)

pub renumber-requires : goal.renumber-requires
renumber-requires c =
    let below : c.draw-place.result < c.args.count = omega (arith, c.draw-place.ensures.below, c.from.ensures) in
    let end = c.requires.grown.0 in
    let kept = c.loop.invariant.kept end c.requires.grown.1 in
    let there = begin-there c.args.count 1 end c.draw-place.result c.loop.rows.items below kept in
    let three = begin-three c.args.count 1 end c.draw-place.result c.loop.rows.items below kept in
    let here = get_or_read c.loop.rows.items c.draw-place.result c.index_mut.result.now there c.index_mut.ensures.value [] in
    record { two = rw here (rw three (omega arith)); small = omega (arith, c.draw-number.ensures.below) }

pub loop-preserved : goal.loop-preserved
loop-preserved c =
    let place = c.draw-place.result in
    let rows = c.loop.rows.items in
    let kept_of = c.loop.invariant.kept in
    let below : c.draw-place.result < c.args.count = omega (arith, c.draw-place.ensures.below, c.from.ensures) in
    let end = c.requires.grown.0 in
    let kept = kept_of end c.requires.grown.1 in
    let there = begin-there c.args.count 1 end place rows below kept in
    let here = get_or_read rows place c.index_mut.result.now there c.index_mut.ensures.value [] in
    let row : c.renumber.new.row ≡ slice_set (get_or rows place []) 1 (Int (pos c.draw-number.result)) = c.renumber.ensures ∙ ap (λ (r : Row). slice_set r 1 (Int (pos c.draw-number.result))) here in
    let changed : slice_set rows place c.renumber.new.row ≡ map (with_number (1 + place) c.draw-number.result) rows = ap (slice_set rows place) row ∙ sym (begin-set c.args.count 1 end place (1 + place) c.draw-number.result rows refl below kept) in
    let more = changes-more (1 + c.args.count / 100) c.loop.counter c.args.count (record { state = c.loop.state; is = rows }) c.loop-test.true in
    record {
      goes = grind (arith, c.loop.invariant.goes, c.loop.invariant.end, more, changed, c.from.ensures, c.draw-place.ensures.drawn, c.draw-place.ensures.state, c.draw-number.ensures.drawn, c.draw-number.ensures.state);
      end = refl;
      kept = λ other are. rw changed (begin-with c.args.count 1 other (1 + place) c.draw-number.result rows c.draw-number.ensures.below (kept_of other are));
    }
