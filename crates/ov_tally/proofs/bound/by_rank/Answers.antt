use Rattle.std.proofs.Common.{rules, ◌+◌, ◌*◌, ◌^◌, of_z, to_z, w64}
use Rattle.std.specs.Prelude.{pos, slice_index_or}
use Rattle.ov_tally.proofs.Bounds.{none_low, rank_more}
use Rattle.ov_tally.proofs.Marks.{none_within, within_up}
use Rattle.ov_tally.proofs.bound.by_rank.Goals as goal

pub loop-place-init : goal.loop-place-init
loop-place-init c = record {
  count = search rules;
  totals = λ p. none_low c.args.times.now c.args.ranks.now c.in_ok-sums.sums.items p c.in_ok-sums.ensures.all;
  within = none_within c.in_ok-sums.sums.items c.in_ok-sums.ensures.all;
}

pub loop-place-preserved : goal.loop-place-preserved
loop-place-preserved c =
    let time = to_z w64 (of_z w64 (slice_index_or c.args.times.now c.loop-place.place (pos 0))) in
    record {
      count = search rules;
      totals = λ p. rank_more c.args.times.now c.args.ranks.now c.loop-place.place p (slice_index_or c.args.ranks.now c.loop-place.place 0) time c.loop-place.sums.items c.add_at.new.sums.items (search rules) (search rules) c.add_at.ensures.low c.add_at.ensures.high (c.loop-place.invariant.totals p);
      within = within_up (c.loop-place.place * 2 ^ 63 + 2 ^ 63) ((c.loop-place.place + 1) * 2 ^ 63) c.add_at.new.sums.items (search rules) (c.add_at.ensures.within (c.loop-place.place * 2 ^ 63) c.loop-place.invariant.within);
    }
