use Rattle.std.proofs.Common.{◌≡◌, ◌+◌, ◌++◌, drop}
use Rattle.ov_model.specs.Replies.{budget_lines}
use Rattle.ov_reply.proofs.listed.write_budgets.Given as goal

abbrev pub invariant-loop-i : goal.invariant-loop-i
invariant-loop-i l = l.out.items ++ budget_lines (l.i + 1) (drop l.i l.budgets) ≡ l.initial.out.items ++ budget_lines 1 l.budgets
