-- What is found of a condition says, by cases.
use Rattle.std.proofs.Common.{◌≡◌, ◌∙◌, ℕ, Bool, List, ap, map, sym}
use Rattle.std.specs.Prelude.{Option, Some}
use Rattle.ov_model.specs.Answers.{Pair, cell_order, compared, is_null_cell, truth_any, truth_every, truth_not, turned_if}
use Rattle.ov_model.specs.declared.query.Sign.{Sign}
use Rattle.ov_terms.specs.Finding.{found_operand, found_step, found_truth, is_among}
use Rattle.ov_terms.specs.declared.found_cond.FoundCond.{FoundCond}
use Rattle.ov_terms.specs.declared.found_cond.FoundCond.TheOpen.{FoundCond-F}
use Rattle.ov_terms.specs.declared.found_cond.FoundCond.TheFolds.{fold-roll-FoundCond}
use Rattle.ov_terms.specs.declared.found_cond.FoundCond.TheVariants.{Compare, IsNull, InList, Not, Every, Any, rolls-Compare, rolls-IsNull, rolls-InList, rolls-Not, rolls-Every, rolls-Any}
use Rattle.ov_terms.specs.declared.found_operand.FoundOperand.{FoundOperand}

pub truth-compare : (group : List Pair) (left : FoundOperand) (by : Sign) (right : FoundOperand)
    → found_truth group (Compare left by right) ≡ compared by (cell_order (found_operand group left) (found_operand group right))
truth-compare group left by right =
    ap (found_truth group) (sym (rolls-Compare left by right)) ∙ fold-roll-FoundCond (Option Bool) (found_step group) (FoundCond-F.Compare left by right)

pub truth-null : (group : List Pair) (x : FoundOperand) (negated : Bool)
    → found_truth group (IsNull x negated) ≡ Some (turned_if negated (is_null_cell (found_operand group x)))
truth-null group x negated =
    ap (found_truth group) (sym (rolls-IsNull x negated)) ∙ fold-roll-FoundCond (Option Bool) (found_step group) (FoundCond-F.IsNull x negated)

pub truth-list : (group : List Pair) (vids : List ℕ) (negated : Bool) → found_truth group (InList vids negated) ≡ Some (turned_if negated (is_among group vids))
truth-list group vids negated =
    ap (found_truth group) (sym (rolls-InList vids negated)) ∙ fold-roll-FoundCond (Option Bool) (found_step group) (FoundCond-F.InList vids negated)

pub truth-not : (group : List Pair) (c : FoundCond) → found_truth group (Not c) ≡ truth_not (found_truth group c)
truth-not group c = ap (found_truth group) (sym (rolls-Not c)) ∙ fold-roll-FoundCond (Option Bool) (found_step group) (FoundCond-F.Not c)

pub truth-every : (group : List Pair) (cs : List FoundCond) → found_truth group (Every cs) ≡ truth_every (map (found_truth group) cs)
truth-every group cs = ap (found_truth group) (sym (rolls-Every cs)) ∙ fold-roll-FoundCond (Option Bool) (found_step group) (FoundCond-F.Every cs)

pub truth-any : (group : List Pair) (cs : List FoundCond) → found_truth group (Any cs) ≡ truth_any (map (found_truth group) cs)
truth-any group cs = ap (found_truth group) (sym (rolls-Any cs)) ∙ fold-roll-FoundCond (Option Bool) (found_step group) (FoundCond-F.Any cs)
