-- The same is chosen.
use Rattle.std.proofs.Common.{◌≡◌, ◌+◌, ℕ, Bool, true, false, List, [], ◌∷◌, map, refl, ◌∙◌, ap}
use Rattle.std.specs.Prelude.{nat_le, nat_lt, if◌then◌else◌, Option, Some, None}
use Rattle.std.specs.Option.{option_map}
use Rattle.ov_model.specs.Budget as model
use Rattle.ov_budget.specs.Choices.{best_from, better_of, is_better, least_of, least_stored}
use Rattle.ov_budget.specs.declared.thresholds.Line.{Line}
use Rattle.law_budget.specs.Told.{told, told_best}

better : (a : ℕ × Line) (b : Option (ℕ × Line)) → model.better_of (told_best a) (option_map told_best b) ≡ told_best (better_of a b)
better a None = refl
better a (Some b) = by (is_better b.1 a.1)
  where
    by : (t : Bool) → (if t then told_best b else told_best a) ≡ told_best (if t then b else a)
    by true = refl
    by false = refl

pub best_is : (budget n : ℕ) (lines : List Line) → model.best_from budget n (map told lines) ≡ option_map told_best (best_from budget n lines)
best_is budget n [] = refl
best_is budget n (line ∷ lines) = by (nat_le line.stored budget) (best_is budget (n + 1) lines)
  where
    by : (t : Bool) → model.best_from budget (n + 1) (map told lines) ≡ option_map told_best (best_from budget (n + 1) lines)
        → (if t then Some (model.better_of (n, told line) (model.best_from budget (n + 1) (map told lines))) else model.best_from budget (n + 1) (map told lines))
        ≡ option_map told_best (if t then Some (better_of (n, line) (best_from budget (n + 1) lines)) else best_from budget (n + 1) lines)
    by true rest = ap (λ found. Some (model.better_of (n, told line) found)) rest ∙ ap Some (better (n, line) (best_from budget (n + 1) lines))
    by false rest = rest

stored_is : (least : ℕ) (lines : List Line) → model.least_stored least (map told lines) ≡ least_stored least lines
stored_is least [] = refl
stored_is least (line ∷ lines) = stored_is (if nat_lt line.stored least then line.stored else least) lines

pub least_is : (lines : List Line) → model.least_of (map told lines) ≡ least_of lines
least_is [] = refl
least_is (line ∷ lines) = stored_is line.stored lines
