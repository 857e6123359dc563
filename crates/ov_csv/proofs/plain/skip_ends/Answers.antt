use Rattle.std.proofs.Common.{◌∙◌}
use Rattle.ov_csv.proofs.PlainLemmas.{ascii_rest, at_byte, at_end, rest_plain, skipped}
use Rattle.ov_csv.proofs.plain.skip_ends.Goals as goal

pub returns-then-first-ne10 : goal.returns-then-first-ne10
returns-then-first-ne10 c =
    (c.loop-first.invariant.same ∙ at_byte c.loop-first.rest.now c.in-Some.first.now c.in-Some.more.now c.in-Some.ensures.cases.0 c.loop-first.invariant.plain c.if-first-ne10.true, c.loop-first.invariant.plain, c.loop-first.invariant.ascii)

pub loop-first-preserved : goal.loop-first-preserved
loop-first-preserved c = record {
  plain = rest_plain c.loop-first.rest.now c.in-Some.first.now c.in-Some.more.now c.in-Some.ensures.cases.0 c.loop-first.invariant.plain;
  ascii = λ all. ascii_rest c.loop-first.rest.now c.in-Some.first.now c.in-Some.more.now c.in-Some.ensures.cases.0 (c.loop-first.invariant.ascii all);
  same = c.loop-first.invariant.same ∙ skipped c.loop-first.rest.now c.in-Some.first.now c.in-Some.more.now c.in-Some.ensures.cases.0 c.if-first-ne10.false;
}

pub returns : goal.returns
returns c = (c.loop-first.invariant.same ∙ at_end c.loop-first.rest.now c.in_default.ensures.cases c.loop-first.invariant.plain, c.loop-first.invariant.plain, c.loop-first.invariant.ascii)
