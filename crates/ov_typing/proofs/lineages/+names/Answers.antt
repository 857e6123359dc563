use Rattle.std.proofs.Common.{◌∙◌, sym}
use Rattle.ov_typing.proofs.Named.{some_here, some_more}
use Rattle.ov_typing.proofs.lineages.+names.Goals as goal

pub one_names-returns-then-cond_names : goal.one_names-returns-then-cond_names
one_names-returns-then-cond_names n c =
    sym (sym c.loop-cond.invariant ∙ some_here c.args.conds.now _ _ c.loop-cond-test.true c.cond-item.is (sym c.cond_names.ensures ∙ c.if-cond_names.true))

pub one_names-loop-cond-preserved : goal.one_names-loop-cond-preserved
one_names-loop-cond-preserved n c =
    sym (some_more c.args.conds.now _ _ c.loop-cond-test.true c.cond-item.is (sym c.cond_names.ensures ∙ c.if-cond_names.false)) ∙ c.loop-cond.invariant
