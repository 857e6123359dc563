use Rattle.std.proofs.Common.{arith, sym, ◌∙◌, ap}
use Rattle.std.specs.Option.{option_copied}
use Rattle.ov_member.proofs.GreatestLemmas.{IsLast, last-is, above-low, greatest-is}
use Rattle.ov_member.proofs.edges.greatest.Goals as goal

last : (c : goal.After-row_known-1) → IsLast c.args.edges.now c.in-Some.past.now
last c = last-is c.args.edges.now c.in-Some.past.now (sym c.last.ensures.value ∙ ap option_copied c.in-Some.is)

pub overflow_sub-result : goal.overflow_sub-result
overflow_sub-result c = omega (arith, above-low 0 c.args.edges.now c.in-Some.past.now c.requires.ascend (last-is c.args.edges.now c.in-Some.past.now (sym c.last.ensures.value ∙ ap option_copied c.in-Some.is)))

pub returns-in-Some : goal.returns-in-Some
returns-in-Some c = greatest-is 0 c.args.edges.now c.in-Some.past.now c.requires.ascend c.requires.closed (last c)
