-- What comes of a storage budget over a dataset that is there, and by its lines, made once.
--     lines_of d      its lines
--     within_of s name budget d      an `optimize` within a budget
--     advise_of s name budget a b d      an `advise`
--     within_from s d budget lines best, advise_from s d budget a b lines best      the same, by the lines and the best of them
-- A hundred lines are not to be computed in a proof, so the first three are opened only where they are met.
use Rattle.std.specs.Prelude.{ℕ, not, List, length, Option, Some, None}
use Rattle.ov_graph.specs.Splits as splits
use Rattle.ov_graph.specs.Trees.{all_records, all_members}
use Rattle.ov_model.specs.Act.{Session, Deed, does, if_so, is_threshold, refuses, tells}
use Rattle.ov_model.specs.Budget.{advise_deed, is_worth, least_of, table, within_deed}
use Rattle.ov_model.specs.Moves.{BeginPlan}
use Rattle.ov_model.specs.Plans.{nodes_of_set, parts_at, depth_at, planned, plan_steps, sizes_of}
use Rattle.ov_model.specs.World.{Dataset, cost}
use Rattle.ov_model.specs.declared.refusal.Refusal.{Refusal}
use Rattle.ov_model.specs.declared.refusal.Refusal.TheVariants as no
use Rattle.ov_model.specs.declared.reply.BudgetLine.{BudgetLine}
use Rattle.ov_model.specs.declared.reply.Reply.{Reply}
use Rattle.ov_model.specs.declared.reply.Reply.TheVariants as says

unfoldable pub lines_of : Dataset → List BudgetLine
lines_of d = table d

unfoldable pub within_of : Session → List ℕ → ℕ → Dataset → Deed
within_of s name budget d = within_deed s name budget (Some d)

unfoldable pub advise_of : Session → List ℕ → ℕ → ℕ → ℕ → Dataset → Deed
advise_of s name budget a b d = advise_deed s name budget a b (Some d)

-- why there is no advice at a / b
abbrev pub ratio_off : ℕ → ℕ → Option Refusal
ratio_off a b = if_so (not (is_threshold b a)) no.BadThreshold

abbrev pub reply_from : Dataset → List BudgetLine → ℕ → List (List ℕ) → Reply
reply_from d lines p parts =
    says.Within lines p (depth_at d p 100) (length parts) (splits.stored (sizes_of d parts))
    (all_records (nodes_of_set d)) (all_members (nodes_of_set d))
    (splits.cost (sizes_of d parts)) (plan_steps (planned p 100 d))

abbrev pub within_from : Session → Dataset → ℕ → List BudgetLine → Option (ℕ × BudgetLine) → Deed
within_from s d budget lines None = refuses s (no.NoThreshold budget (least_of lines))
within_from s d budget lines (Some best) = does s (BeginPlan d.cvd.number best.0 100) (reply_from d lines best.0 (parts_at d best.0 100))

abbrev pub advise_from : Session → Dataset → ℕ → ℕ → ℕ → List BudgetLine → Option (ℕ × BudgetLine) → Deed
advise_from s d budget a b lines None = refuses s (no.NoThreshold budget (least_of lines))
advise_from s d budget a b lines (Some best) = tells s (says.Advise (cost d) best.1.cost (is_worth a b (cost d) best.1.cost))
