-- Truth and the count of comparisons, by cases on a condition.
use Rattle.std.proofs.Common.{◌≡◌, ℕ, Bool, List, map, sym, ◌∙◌, ap}
use Rattle.std.specs.Prelude.{Option, Some}
use Rattle.ov_model.specs.Answers.{Here, truth, truth_step, compared, cell_order, operand_in, turned_if, is_null_cell, version_among, truth_not, truth_every, truth_any}
use Rattle.ov_model.specs.Kinds.{Place, Counts, counted, cond_step, count_all, compared as compares, tested, operand_kind, grouped_or}
use Rattle.ov_value.specs.declared.column.Kind.TheVariants.{Int}
use Rattle.ov_model.specs.declared.query.Col.TheVariants.{Vid}
use Rattle.ov_model.specs.declared.query.Cond.{Cond}
use Rattle.ov_model.specs.declared.query.Cond.TheOpen.{Cond-F}
use Rattle.ov_model.specs.declared.query.Cond.TheFolds.{fold-roll-Cond}
use Rattle.ov_model.specs.declared.query.Cond.TheVariants.{Compare, IsNull, InLineage, InList, Not, Every, Any, rolls-Compare, rolls-IsNull, rolls-InLineage, rolls-InList, rolls-Not, rolls-Every, rolls-Any}
use Rattle.ov_model.specs.declared.query.LineageKind.{LineageKind}
use Rattle.ov_model.specs.declared.query.Operand.{Operand}
use Rattle.ov_model.specs.declared.query.Sign.{Sign}

pub truth-compare : (here : Here) (left : Operand) (by : Sign) (right : Operand) → truth here (Compare left by right) ≡ compared by (cell_order (operand_in here left) (operand_in here right))
truth-compare here left by right = ap (truth here) (sym (rolls-Compare left by right)) ∙ fold-roll-Cond (Option Bool) (truth_step here) (Cond-F.Compare left by right)

pub truth-null : (here : Here) (x : Operand) (negated : Bool) → truth here (IsNull x negated) ≡ Some (turned_if negated (is_null_cell (operand_in here x)))
truth-null here x negated = ap (truth here) (sym (rolls-IsNull x negated)) ∙ fold-roll-Cond (Option Bool) (truth_step here) (Cond-F.IsNull x negated)

pub truth-lineage : (here : Here) (kind : LineageKind) (vid : ℕ) (negated : Bool) → truth here (InLineage kind vid negated) ≡ Some (turned_if negated (version_among here (here.related kind vid)))
truth-lineage here kind vid negated = ap (truth here) (sym (rolls-InLineage kind vid negated)) ∙ fold-roll-Cond (Option Bool) (truth_step here) (Cond-F.InLineage kind vid negated)

pub truth-list : (here : Here) (vids : List ℕ) (negated : Bool) → truth here (InList vids negated) ≡ Some (turned_if negated (version_among here vids))
truth-list here vids negated = ap (truth here) (sym (rolls-InList vids negated)) ∙ fold-roll-Cond (Option Bool) (truth_step here) (Cond-F.InList vids negated)

pub truth-not : (here : Here) (c : Cond) → truth here (Not c) ≡ truth_not (truth here c)
truth-not here c = ap (truth here) (sym (rolls-Not c)) ∙ fold-roll-Cond (Option Bool) (truth_step here) (Cond-F.Not c)

pub truth-every : (here : Here) (cs : List Cond) → truth here (Every cs) ≡ truth_every (map (truth here) cs)
truth-every here cs = ap (truth here) (sym (rolls-Every cs)) ∙ fold-roll-Cond (Option Bool) (truth_step here) (Cond-F.Every cs)

pub truth-any : (here : Here) (cs : List Cond) → truth here (Any cs) ≡ truth_any (map (truth here) cs)
truth-any here cs = ap (truth here) (sym (rolls-Any cs)) ∙ fold-roll-Cond (Option Bool) (truth_step here) (Cond-F.Any cs)

pub counted-compare : (place : Place) (left : Operand) (by : Sign) (right : Operand) → counted place (Compare left by right) ≡ (λ nth. compares place nth left right)
counted-compare place left by right = ap (counted place) (sym (rolls-Compare left by right)) ∙ fold-roll-Cond Counts (cond_step place) (Cond-F.Compare left by right)

pub counted-null : (place : Place) (x : Operand) (negated : Bool) → counted place (IsNull x negated) ≡ (λ nth. tested nth (operand_kind place x))
counted-null place x negated = ap (counted place) (sym (rolls-IsNull x negated)) ∙ fold-roll-Cond Counts (cond_step place) (Cond-F.IsNull x negated)

pub counted-lineage : (place : Place) (kind : LineageKind) (vid : ℕ) (negated : Bool) → counted place (InLineage kind vid negated) ≡ (λ nth. tested nth (grouped_or place Vid Int))
counted-lineage place kind vid negated = ap (counted place) (sym (rolls-InLineage kind vid negated)) ∙ fold-roll-Cond Counts (cond_step place) (Cond-F.InLineage kind vid negated)

pub counted-list : (place : Place) (vids : List ℕ) (negated : Bool) → counted place (InList vids negated) ≡ (λ nth. tested nth (grouped_or place Vid Int))
counted-list place vids negated = ap (counted place) (sym (rolls-InList vids negated)) ∙ fold-roll-Cond Counts (cond_step place) (Cond-F.InList vids negated)

pub counted-not : (place : Place) (c : Cond) → counted place (Not c) ≡ counted place c
counted-not place c = ap (counted place) (sym (rolls-Not c)) ∙ fold-roll-Cond Counts (cond_step place) (Cond-F.Not c)

pub counted-every : (place : Place) (cs : List Cond) → counted place (Every cs) ≡ count_all (map (counted place) cs)
counted-every place cs = ap (counted place) (sym (rolls-Every cs)) ∙ fold-roll-Cond Counts (cond_step place) (Cond-F.Every cs)

pub counted-any : (place : Place) (cs : List Cond) → counted place (Any cs) ≡ count_all (map (counted place) cs)
counted-any place cs = ap (counted place) (sym (rolls-Any cs)) ∙ fold-roll-Cond Counts (cond_step place) (Cond-F.Any cs)
