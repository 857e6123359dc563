-- What a join's WHERE says, told without the condition, so that joins with one compute.
use Rattle.std.proofs.Common.{◌≡◌, ℕ, true, List, [], Some, Result, Ok, Err, map, if◌then◌else◌, length, refl, ap, ◌∙◌}
use Rattle.std.specs.Prelude.{nat_lt}
use Rattle.ov_value.specs.declared.column.Kind.{Kind}
use Rattle.ov_model.specs.Act.{Session, Deed, refuses}
use Rattle.ov_model.specs.Answers.{compared, cell_order, operand_in, holds, is_true}
use Rattle.ov_model.specs.Book.{Cvd}
use Rattle.ov_model.specs.Examples.{served_all}
use Rattle.ov_model.specs.JoinExamples.{joined}
use Rattle.ov_model.specs.Joins.{as_query, joined_rows, on_counts, side_by_side, side_of, told, unrelated, wide_operand}
use Rattle.ov_model.specs.Kinds.{Place, and_then, compared as compares, guard_counts, items_kinds, plain_place, terms_kinds}
use Rattle.ov_model.specs.Replies.{reply_text}
use Rattle.ov_model.specs.declared.refusal.Refusal.{Refusal}
use Rattle.ov_model.specs.declared.refusal.Refusal.TheVariants as no
use Rattle.ov_model.specs.declared.query.JoinQuery.{JoinQuery}
use Rattle.ov_model.specs.declared.query.Operand.{Operand}
use Rattle.ov_model.specs.declared.query.Sign.{Sign}
use Rattle.ov_model.specs.declared.query.Cond.{Cond}
use Rattle.ov_model.specs.declared.query.Cond.TheVariants.{Compare}
use Rattle.ov_model.proofs.Told.{Parts, rows_by}
use Rattle.ov_model.proofs.Truths.{counted-compare, truth-compare}
use Rattle.ov_model.proofs.Wide.{wide-compare}

abbrev parts_of : JoinQuery → Parts
parts_of join = record {
  lineages = [];
  counts = λ place. guard_counts place (as_query join).filter;
  group_counts = λ place nth. Ok nth;
  keeps = λ here. holds here (as_query join).filter;
  keeps_group = λ here. true;
}

abbrev kinds_by : Parts → Place → JoinQuery → Result (List Kind) Refusal
kinds_by parts place join =
    and_then (items_kinds place (as_query join).items) (λ kinds.
    and_then (on_counts place 1 join.on) (λ nth.
    and_then (parts.counts place nth) (λ last.
    and_then (terms_kinds place (map (λ key. key.term) (as_query join).order)) (λ order. Ok kinds))))

abbrev answered_by : Parts → Session → JoinQuery → Cvd → Cvd → Result (List Kind) Refusal → Deed
answered_by parts s join left right (Err refusal) = refuses s refusal
answered_by parts s join left right (Ok kinds) =
    if nat_lt 1000000 (length (joined_rows join left right)) then refuses s no.TooManyJoined
    else told s kinds (rows_by parts (as_query join) (side_by_side left.schema right.schema) unrelated (joined_rows join left right))

abbrev over_by : Parts → Session → JoinQuery → Result Cvd Refusal → Result Cvd Refusal → Deed
over_by parts s join (Err refusal) right = refuses s refusal
over_by parts s join (Ok left) (Err refusal) = refuses s refusal
over_by parts s join (Ok left) (Ok right) =
    answered_by parts s join left right (kinds_by parts (plain_place (side_by_side left.schema right.schema)) join)

abbrev joined_by : Parts → List ℕ → JoinQuery → List ℕ
joined_by parts script join =
    reply_text (over_by parts (served_all script).session join (side_of (served_all script).world join.left) (side_of (served_all script).world join.right)).reply

joined-is : (script : List ℕ) (join : JoinQuery) → joined script join ≡ joined_by (parts_of join) script join
joined-is script join = refl

abbrev with_where : JoinQuery → Cond → JoinQuery
with_where join c = record join { filter = Some c }

-- of a comparison
abbrev compared_parts : Operand → Sign → Operand → Parts
compared_parts left by right = record {
  lineages = [];
  counts = λ place nth. compares place nth (wide_operand left) (wide_operand right);
  group_counts = λ place nth. Ok nth;
  keeps = λ here. is_true (compared by (cell_order (operand_in here (wide_operand left)) (operand_in here (wide_operand right))));
  keeps_group = λ here. true;
}

abbrev over_cond : Cond → Parts
over_cond c = record {
  lineages = [];
  counts = λ place. guard_counts place (Some c);
  group_counts = λ place nth. Ok nth;
  keeps = λ here. holds here (Some c);
  keeps_group = λ here. true;
}

compared-parts : (join : JoinQuery) (left : Operand) (by : Sign) (right : Operand) → parts_of (with_where join (Compare left by right)) ≡ compared_parts left by right
compared-parts join left by right =
    ap over_cond (wide-compare left by right) ∙ (λ i. record {
      lineages = [];
      counts = λ place. counted-compare place (wide_operand left) by (wide_operand right) i;
      group_counts = λ place nth. Ok nth;
      keeps = λ here. is_true (truth-compare here (wide_operand left) by (wide_operand right) i);
      keeps_group = λ here. true;
    })

pub filtered_prints : (script : List ℕ) (join : JoinQuery) (left : Operand) (by : Sign) (right : Operand) {printed : List ℕ}
    → joined_by (compared_parts left by right) script (with_where join (Compare left by right)) ≡ printed
    → joined script (with_where join (Compare left by right)) ≡ printed
filtered_prints script join left by right computed =
    joined-is script (with_where join (Compare left by right))
    ∙ (ap (λ (p : Parts). joined_by p script (with_where join (Compare left by right))) (compared-parts join left by right) ∙ computed)
