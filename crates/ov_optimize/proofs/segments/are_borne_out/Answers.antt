use Rattle.std.proofs.Common.{◌≡◌, true, sym, ◌∙◌, rules, arith}
use Rattle.ov_optimize.proofs.RidSets.{sound_sets, together_agrees}
use Rattle.ov_optimize.proofs.segments.are_borne_out.Goals as goal

pub returns-clause-sound : goal.returns-clause-sound
returns-clause-sound c are tested =
    let yes_filled : c.are_filled.result ≡ true = search rules in
    sound_sets c.args.count c.args.last c.args.sets.now (omega (arith, c.ranges.count.fits)) are (c.are_filled.ensures.0 yes_filled)
    (together_agrees c.in_ok-together.together c.args.count c.args.last c.args.sets.now c.in_ok-together.ensures (sym c.is_some.ensures ∙ tested))
