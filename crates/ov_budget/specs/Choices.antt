-- The choice of a threshold: the cheapest line of those that store no more than a budget.
--     choice budget lines      which one is chosen, with its number
--     IsBest budget n lines p line      what it is to be chosen
--     least_of lines, IsLeast lines least      the least that a line stores
--     is_worth a b present best      whether the present cost is over a / b of the best one
use Rattle.std.specs.Prelude.{◌≡◌, ◌⊎◌, ◌≤◌, ◌<◌, ℕ, ◌+◌, ◌-◌, ◌*◌, Bool, ◌||◌, ◌&&◌, ◌==◌, nat_le, nat_lt, if◌then◌else◌, List, [], ◌∷◌, Option, Some, None, slice_index_or}
use Rattle.ov_budget.specs.declared.thresholds.Line.{Line}

-- it costs less, or as much and stores less
abbrev pub is_better : Line → Line → Bool
is_better a b = nat_lt a.cost b.cost || (a.cost == b.cost && nat_lt a.stored b.stored)

-- Of the lines within the budget the best one, ties to the first; n is the first line's number.
abbrev pub better_of : ℕ × Line → Option (ℕ × Line) → ℕ × Line
better_of a None = a
better_of a (Some b) = if is_better b.1 a.1 then b else a

abbrev pub best_from : ℕ → ℕ → List Line → Option (ℕ × Line)
best_from budget n [] = None
best_from budget n (line ∷ lines) =
    if nat_le line.stored budget then Some (better_of (n, line) (best_from budget (n + 1) lines)) else best_from budget (n + 1) lines

abbrev pub choice : ℕ → List Line → Option (ℕ × Line)
choice budget lines = best_from budget 1 lines

-- the least that any of these lines stores
abbrev pub least_stored : ℕ → List Line → ℕ
least_stored least [] = least
least_stored least (line ∷ lines) = least_stored (if nat_lt line.stored least then line.stored else least) lines

abbrev pub least_of : List Line → ℕ
least_of [] = 0
least_of (line ∷ lines) = least_stored line.stored lines

abbrev pub no_line : Line
no_line = record { depth = 0; partitions = 0; stored = 0; cost = 0 }

-- line p of a table, counted from 1
abbrev pub line_in : List Line → ℕ → Line
line_in lines p = slice_index_or lines (p - 1) no_line

-- line p of these, counted from n
abbrev pub IsLine : ℕ → List Line → ℕ → Line → Type 0
IsLine n [] p line = ⊥
IsLine n (x ∷ lines) p line = ((p ≡ n) × (line ≡ x)) ⊎ IsLine (n + 1) lines p line

-- Line p is within the budget; no line within it costs less, none that costs as much stores less, and of those that cost and
-- store as much it is the first.
pub record IsBest (budget n : ℕ) (lines : List Line) (p : ℕ) (line : Line) : Type 0 where
  pub there : IsLine n lines p line
  pub within : line.stored ≤ budget
  pub cheapest : (k : ℕ) (other : Line) → IsLine n lines k other → other.stored ≤ budget → line.cost ≤ other.cost
  pub smallest : (k : ℕ) (other : Line) → IsLine n lines k other → other.stored ≤ budget → other.cost ≡ line.cost → line.stored ≤ other.stored
  pub first : (k : ℕ) (other : Line) → IsLine n lines k other → other.stored ≤ budget → other.cost ≡ line.cost → other.stored ≡ line.stored → p ≤ k

-- each line stores more than the budget
abbrev pub AreOver : ℕ → List Line → Type 0
AreOver budget lines = (k : ℕ) (other : Line) → IsLine 1 lines k other → budget < other.stored

-- nothing less is stored by a line, and one stores as much
pub record IsLeast (lines : List Line) (least : ℕ) : Type 0 where
  pub below : (k : ℕ) (other : Line) → IsLine 1 lines k other → least ≤ other.stored
  pub which : ℕ
  pub line : Line
  pub there : IsLine 1 lines which line
  pub is : line.stored ≡ least

-- whether the present cost is over a / b of the best one
abbrev pub is_worth : ℕ → ℕ → ℕ → ℕ → Bool
is_worth a b present best = nat_lt (a * best) (b * present)
