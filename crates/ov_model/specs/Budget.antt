-- The storage budget: the splits at 100 thresholds, and the cheapest of those that store no more than a budget.
--     table d      a line for each p from 1 to 100, of the split at p / 100
--     choice budget lines      which p is chosen
--     IsBest budget n lines p line      what it is to be chosen
--     within_deed s name budget found, advise_deed s name budget a b found      what the commands do
use Rattle.std.specs.Prelude.{◌≡◌, ◌⊎◌, ◌≤◌, ℕ, ◌+◌, ◌*◌, Bool, ◌||◌, ◌&&◌, not, ◌==◌, nat_le, nat_lt, if◌then◌else◌, List, [], ◌∷◌, length, map, Option, Some, None, is_some}
use Rattle.std.specs.Option.{option_or}
use Rattle.ov_graph.specs.Splits as splits
use Rattle.ov_graph.specs.Trees.{all_records, all_members}
use Rattle.ov_model.specs.Act.{Session, Deed, does, tells, refuses, unless, if_so, is_threshold}
use Rattle.ov_model.specs.Moves.{BeginPlan}
use Rattle.ov_model.specs.Plans.{nodes_of_set, parts_at, depth_at, planned, plan_steps, sizes_of}
use Rattle.ov_model.specs.Records.{counted}
use Rattle.ov_model.specs.World.{Dataset, cost}
use Rattle.ov_model.specs.declared.refusal.Refusal.{Refusal}
use Rattle.ov_model.specs.declared.refusal.Refusal.TheVariants as no
use Rattle.ov_model.specs.declared.reply.BudgetLine.{BudgetLine}
use Rattle.ov_model.specs.declared.reply.Reply.{Reply}
use Rattle.ov_model.specs.declared.reply.Reply.TheVariants as says

-- the split at p / 100: its depth, and what its tight partitions store and cost
abbrev pub line_at : Dataset → ℕ → BudgetLine
line_at d p = record {
  depth = depth_at d p 100;
  partitions = length (parts_at d p 100);
  stored = splits.stored (sizes_of d (parts_at d p 100));
  cost = splits.cost (sizes_of d (parts_at d p 100));
}

abbrev pub table : Dataset → List BudgetLine
table d = map (line_at d) (counted 1 100)

-- it costs less, or as much and stores less
abbrev pub is_better : BudgetLine → BudgetLine → Bool
is_better a b = nat_lt a.cost b.cost || (a.cost == b.cost && nat_lt a.stored b.stored)

-- Of the lines within the budget the best one, ties to the first; n is the first line's number.
abbrev pub better_of : ℕ × BudgetLine → Option (ℕ × BudgetLine) → ℕ × BudgetLine
better_of a None = a
better_of a (Some b) = if is_better b.1 a.1 then b else a

abbrev pub best_from : ℕ → ℕ → List BudgetLine → Option (ℕ × BudgetLine)
best_from budget n [] = None
best_from budget n (line ∷ lines) =
    if nat_le line.stored budget then Some (better_of (n, line) (best_from budget (n + 1) lines)) else best_from budget (n + 1) lines

abbrev pub choice : ℕ → List BudgetLine → Option (ℕ × BudgetLine)
choice budget lines = best_from budget 1 lines

-- the least that any of these lines stores
abbrev pub least_stored : ℕ → List BudgetLine → ℕ
least_stored least [] = least
least_stored least (line ∷ lines) = least_stored (if nat_lt line.stored least then line.stored else least) lines

abbrev pub least_of : List BudgetLine → ℕ
least_of [] = 0
least_of (line ∷ lines) = least_stored line.stored lines

-- line p of these, counted from n
abbrev pub IsLine : ℕ → List BudgetLine → ℕ → BudgetLine → Type 0
IsLine n [] p line = ⊥
IsLine n (x ∷ lines) p line = ((p ≡ n) × (line ≡ x)) ⊎ IsLine (n + 1) lines p line

-- Line p is within the budget; no line within it costs less, none that costs as much stores less, and of those that cost and
-- store as much it is the first.
pub record IsBest (budget n : ℕ) (lines : List BudgetLine) (p : ℕ) (line : BudgetLine) : Type 0 where
  pub there : IsLine n lines p line
  pub within : line.stored ≤ budget
  pub cheapest : (k : ℕ) (other : BudgetLine) → IsLine n lines k other → other.stored ≤ budget → line.cost ≤ other.cost
  pub smallest : (k : ℕ) (other : BudgetLine) → IsLine n lines k other → other.stored ≤ budget → other.cost ≡ line.cost → line.stored ≤ other.stored
  pub first : (k : ℕ) (other : BudgetLine) → IsLine n lines k other → other.stored ≤ budget → other.cost ≡ line.cost → other.stored ≡ line.stored → p ≤ k

-- nothing less is stored by a line, and one stores as much
pub record IsLeast (lines : List BudgetLine) (least : ℕ) : Type 0 where
  pub below : (k : ℕ) (other : BudgetLine) → IsLine 1 lines k other → least ≤ other.stored
  pub which : ℕ
  pub line : BudgetLine
  pub there : IsLine 1 lines which line
  pub is : line.stored ≡ least

-- ---- optimize within a budget

-- no plan runs, and there are numbers for partitions
abbrev pub within_refusal : Dataset → Option Refusal
within_refusal d = option_or (if_so (is_some d.plan) (no.Migrating d.cvd.name)) (if_so (nat_lt 4294000000 d.next_part) (no.NoNumbers d.cvd.name))

abbrev pub within_reply : Dataset → ℕ → List (List ℕ) → Reply
within_reply d p parts =
    says.Within (table d) p (depth_at d p 100) (length parts) (splits.stored (sizes_of d parts))
    (all_records (nodes_of_set d)) (all_members (nodes_of_set d))
    (splits.cost (sizes_of d parts)) (plan_steps (planned p 100 d))

abbrev pub within_by : Session → Dataset → ℕ → Option (ℕ × BudgetLine) → Deed
within_by s d budget None = refuses s (no.NoThreshold budget (least_of (table d)))
within_by s d budget (Some best) = does s (BeginPlan d.cvd.number best.0 100) (within_reply d best.0 (parts_at d best.0 100))

abbrev pub within_deed : Session → List ℕ → ℕ → Option Dataset → Deed
within_deed s name budget None = refuses s (no.NoCvd name)
within_deed s name budget (Some d) = unless s (within_refusal d) (within_by s d budget (choice budget (table d)))

-- ---- advise

-- whether the present cost is over a / b of the best one
abbrev pub is_worth : ℕ → ℕ → ℕ → ℕ → Bool
is_worth a b present best = nat_lt (a * best) (b * present)

abbrev pub advise_by : Session → Dataset → ℕ → ℕ → ℕ → Option (ℕ × BudgetLine) → Deed
advise_by s d budget a b None = refuses s (no.NoThreshold budget (least_of (table d)))
advise_by s d budget a b (Some best) = tells s (says.Advise (cost d) best.1.cost (is_worth a b (cost d) best.1.cost))

-- the ratio is one of at least 1 and of numbers up to 1,000,000
abbrev pub advise_deed : Session → List ℕ → ℕ → ℕ → ℕ → Option Dataset → Deed
advise_deed s name budget a b None = refuses s (no.NoCvd name)
advise_deed s name budget a b (Some d) =
    unless s (if_so (not (is_threshold b a)) no.BadThreshold) (advise_by s d budget a b (choice budget (table d)))
