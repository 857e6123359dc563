use Rattle.std.proofs.Common.{◌-◌, pos, arith, refl}
use Rattle.ov_rows.specs.declared.keyed.Keyed.{Keyed}
use Rattle.ov_rows.specs.Keyed.{by_key}
use Rattle.ov_rows.proofs.Fronts.{climbed, place_within}
use Rattle.ov_rows.proofs.Standing.{climb_more}
use Rattle.ov_rows.proofs.repeats.are_rising.Goals as goal

abbrev no_key : Keyed
no_key = record { front = pos 0; place = 0 }

pub stands_below-requires-clause-first : goal.stands_below-requires-clause-first
stands_below-requires-clause-first c = place_within c.args.rows.now c.args.keyed.now (c.loop-i.i - 1) _ c.requires.within (omega arith)

pub stands_below-requires-clause-second : goal.stands_below-requires-clause-second
stands_below-requires-clause-second c = place_within c.args.rows.now c.args.keyed.now c.loop-i.i _ c.requires.within (omega arith)

pub stands_below-requires-clause-tells : goal.stands_below-requires-clause-tells
stands_below-requires-clause-tells c = c.requires.tells (c.loop-i.i - 1) _ (omega arith) c.loop-i.i _ (omega arith)

pub loop-i-preserved : goal.loop-i-preserved
loop-i-preserved c =
    climb_more (by_key c.args.schema.now c.args.rows.now) c.args.keyed.now c.loop-i.i no_key no_key (omega arith) (omega arith) c.loop-i.invariant (c.if-not-stands_below.ensures refl)

pub returns : goal.returns
returns c = λ yes. climbed c.args.schema.now c.args.rows.now c.args.keyed.now (λ k d low. c.loop-i.invariant k d (omega arith))
