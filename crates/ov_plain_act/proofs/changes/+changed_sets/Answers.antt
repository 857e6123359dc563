-- Each dataset has place, the last one and those before it.
use Rattle.std.proofs.Common.{arith}
use Rattle.std.proofs.lemmas.Grind.{common_steps}
use Rattle.ov_plain_act.proofs.Changing.{front_place, last_place}
use Rattle.ov_plain_act.proofs.changes.+changed_sets.Goals as goal

pub changed_sets-requires : goal.changed_sets-requires
changed_sets-requires t c = (
  grind (arith, common_steps, c.in-Some.ensures, c.decreases),
  (c.requires.how, front_place c.args.sets c.pop.new.self c.in-Some.last c.in-Some.ensures c.requires.place),
)

pub changed_set-requires-clause-place : goal.changed_set-requires-clause-place
changed_set-requires-clause-place t c = last_place c.args.sets c.pop.new.self c.in-Some.last c.in-Some.ensures c.requires.place
