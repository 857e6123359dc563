-- The table of thresholds from its last line on.
use Rattle.std.proofs.Common.{◌≡◌, ℕ, suc, ◌+◌, ◌-◌, ◌<◌, ◌≤◌, List, [], ◌∷◌, ◌++◌, length, map, sym, ◌∙◌, ap, arith}
use Rattle.std.specs.Prelude.{nat_le, if◌then◌else◌, reverse, Option, Some}
use Rattle.std.proofs.lemmas.List.{reverse-append}
use Rattle.std.proofs.lemmas.List.FromFn.{length-map-range_with_len}
use Rattle.std.specs.List.{range_with_len}
use Rattle.ov_graph.specs.declared.nodes.Node.{Node}
use Rattle.ov_budget.specs.declared.thresholds.Line.{Line}
use Rattle.ov_budget.specs.Choices.{best_from, better_of}
use Rattle.ov_budget.specs.Tables.{line_at, table}
use Rattle.ov_budget.proofs.Listing.{all_lines}

-- its lines behind line p
abbrev pub lines_behind : List Node → List (List ℕ) → ℕ → List Line
lines_behind nodes lists p = map (line_at nodes lists) (range_with_len (p + 1) (100 - p))

pub line_before : (nodes : List Node) (lists : List (List ℕ)) (p : ℕ) → 0 < p → p ≤ 100
    → lines_behind nodes lists (p - 1) ≡ line_at nodes lists p ∷ lines_behind nodes lists p
line_before nodes lists p some few =
    let first : (p - 1) + 1 ≡ p = omega (arith, some) in
    let more : 100 - (p - 1) ≡ suc (100 - p) = omega (arith, some, few) in
    ap (λ k. map (line_at nodes lists) (range_with_len k (100 - (p - 1)))) first
    ∙ ap (λ k. map (line_at nodes lists) (range_with_len p k)) more

-- they are pushed from the last one down
pub lines_more : (nodes : List Node) (lists : List (List ℕ)) (p : ℕ) (lines more : List Line) (line : Line) → 0 < p → p ≤ 100
    → line ≡ line_at nodes lists p → reverse lines ≡ lines_behind nodes lists p → more ≡ lines ++ line ∷ []
    → reverse more ≡ lines_behind nodes lists (p - 1)
lines_more nodes lists p lines more line some few is are pushed =
    ap reverse pushed
    ∙ reverse-append lines (line ∷ [])
    ∙ (λ i. is i ∷ are i)
    ∙ sym (line_before nodes lists p some few)

-- the best of one line more
pub best_more : (nodes : List Node) (lists : List (List ℕ)) (budget p : ℕ) (line : Line) (behind best : Option (ℕ × Line)) → 0 < p → p ≤ 100
    → line ≡ line_at nodes lists p → behind ≡ best_from budget (p + 1) (lines_behind nodes lists p)
    → best ≡ (if nat_le line.stored budget then Some (better_of (p, line) behind) else behind)
    → best ≡ best_from budget ((p - 1) + 1) (lines_behind nodes lists (p - 1))
best_more nodes lists budget p line behind best some few is ahead chosen =
    let number : p ≡ (p - 1) + 1 = omega (arith, some) in
    chosen
    ∙ ap (λ (b : Option (ℕ × Line)). if nat_le line.stored budget then Some (better_of (p, line) b) else b) ahead
    ∙ ap (λ (x : Line). best_from budget p (x ∷ lines_behind nodes lists p)) is
    ∙ ap (λ (xs : List Line). best_from budget p xs) (sym (line_before nodes lists p some few))
    ∙ ap (λ (n : ℕ). best_from budget n (lines_behind nodes lists (p - 1))) number

-- all of them
pub whole_table : (nodes : List Node) (lists : List (List ℕ)) (p : ℕ) (lines : List Line) → p ≡ 0 → lines ≡ lines_behind nodes lists p → lines ≡ table nodes lists
whole_table nodes lists p lines none are = all_lines nodes lists 100 lines (omega arith) (are ∙ ap (lines_behind nodes lists) none)

pub hundred_lines : (nodes : List Node) (lists : List (List ℕ)) (p : ℕ) (lines : List Line) → p ≡ 0 → lines ≡ lines_behind nodes lists p → length lines ≡ 100
hundred_lines nodes lists p lines none are =
    ap length (are ∙ ap (lines_behind nodes lists) none) ∙ length-map-range_with_len (line_at nodes lists) 1 100
