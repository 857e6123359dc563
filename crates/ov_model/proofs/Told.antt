-- What conditions say, told without the conditions, so that queries with conditions compute.
use Rattle.std.proofs.Common.{◌≡◌, ℕ, true, Bool, List, [], ◌∷◌, ◌++◌, Option, Some, None, Result, Ok, Err, map, filter, if◌then◌else◌, length, refl, ap, ◌∙◌}
use Rattle.ov_value.specs.Shapes.{Shape}
use Rattle.ov_value.specs.declared.column.Kind.{Kind}
use Rattle.ov_value.specs.declared.column.Kind.TheVariants.{Int}
use Rattle.std.specs.Option.{option_or}
use Rattle.ov_model.specs.Act.{Session, Deed, tells, refuses, unless}
use Rattle.ov_model.specs.Answers.{Here, Related, Pair, pairs, truth, compared, cell_order, operand_in, turned_if, is_null_cell, version_among, truth_not, truth_every, truth_any, is_true, holds, here_for, grouped_pairs, shown, limited, sorted_by, order_by, answer_text}
use Rattle.ov_model.specs.Asking.{name_read, source_lineages, cond_lineages, guard_lineages, missing_version, listed_refusal}
use Rattle.ov_model.specs.Book.{Cvd}
use Rattle.ov_model.specs.Examples.{served_all}
use Rattle.ov_model.specs.Kinds.{Place, Counts, and_then, counted, count_all, compared as compares, tested, operand_kind, grouped_or, guard_counts, is_grouped, items_kinds, cols_kinds, terms_kinds, place_of, plain_place}
use Rattle.ov_model.specs.Lineages.{relatives}
use Rattle.ov_model.specs.Lists.{joined}
use Rattle.ov_model.specs.QueryTexts.{AsksQuery, asked_of}
use Rattle.ov_model.specs.Questions.{said}
use Rattle.ov_model.specs.Replies.{reply_text}
use Rattle.ov_model.specs.Users.{permit_names}
use Rattle.ov_model.specs.World.{cvd_in, set_named}
use Rattle.ov_model.specs.declared.answer.Cell.{Cell}
use Rattle.ov_model.specs.declared.refusal.Refusal.{Refusal}
use Rattle.ov_model.specs.declared.refusal.Refusal.TheVariants as no
use Rattle.ov_model.specs.declared.reply.Reply.TheVariants as says
use Rattle.ov_model.specs.declared.query.Query.{Query}
use Rattle.ov_model.specs.declared.query.Col.TheVariants.{Vid}
use Rattle.ov_model.specs.declared.query.LineageKind.{LineageKind}
use Rattle.ov_model.specs.declared.query.Operand.{Operand}
use Rattle.ov_model.specs.declared.query.Sign.{Sign}
use Rattle.ov_model.specs.declared.query.Cond.{Cond}
use Rattle.ov_model.specs.declared.query.Cond.TheVariants.{Compare, IsNull, InLineage, Not, Every, Any}
use Rattle.ov_model.proofs.Asked.{lineages-compare, lineages-null, lineages-lineage, lineages-not, lineages-every, lineages-any}
use Rattle.ov_model.proofs.Truths.{truth-compare, truth-null, truth-lineage, truth-not, truth-every, truth-any, counted-compare, counted-null, counted-lineage, counted-not, counted-every, counted-any}

-- ---- a condition

pub record Told (c : Cond) : Type 0 where
  pub lineages : List ℕ
  pub lineages_are : cond_lineages c ≡ lineages
  pub counts : Place → Counts
  pub counts_are : (place : Place) → counted place c ≡ counts place
  pub tells_of : Here → Option Bool
  pub truth_is : (here : Here) → truth here c ≡ tells_of here

abbrev pub told-compare : (left : Operand) (by : Sign) (right : Operand) → Told (Compare left by right)
told-compare left by right = record {
  lineages = [];
  lineages_are = lineages-compare left by right;
  counts = λ place nth. compares place nth left right;
  counts_are = λ place. counted-compare place left by right;
  tells_of = λ here. compared by (cell_order (operand_in here left) (operand_in here right));
  truth_is = λ here. truth-compare here left by right;
}

abbrev pub told-null : (x : Operand) (negated : Bool) → Told (IsNull x negated)
told-null x negated = record {
  lineages = [];
  lineages_are = lineages-null x negated;
  counts = λ place nth. tested nth (operand_kind place x);
  counts_are = λ place. counted-null place x negated;
  tells_of = λ here. Some (turned_if negated (is_null_cell (operand_in here x)));
  truth_is = λ here. truth-null here x negated;
}

abbrev pub told-lineage : (kind : LineageKind) (vid : ℕ) (negated : Bool) → Told (InLineage kind vid negated)
told-lineage kind vid negated = record {
  lineages = vid ∷ [];
  lineages_are = lineages-lineage kind vid negated;
  counts = λ place nth. tested nth (grouped_or place Vid Int);
  counts_are = λ place. counted-lineage place kind vid negated;
  tells_of = λ here. Some (turned_if negated (version_among here (here.related kind vid)));
  truth_is = λ here. truth-lineage here kind vid negated;
}

abbrev pub told-not : {c : Cond} → Told c → Told (Not c)
told-not {c} t = record {
  lineages = t.lineages;
  lineages_are = lineages-not c ∙ t.lineages_are;
  counts = t.counts;
  counts_are = λ place. counted-not place c ∙ t.counts_are place;
  tells_of = λ here. truth_not (t.tells_of here);
  truth_is = λ here. truth-not here c ∙ ap truth_not (t.truth_is here);
}

-- two of them
abbrev pub told-every : {c d : Cond} → Told c → Told d → Told (Every (c ∷ d ∷ []))
told-every {c} {d} t u = record {
  lineages = joined (t.lineages ∷ u.lineages ∷ []);
  lineages_are = lineages-every (c ∷ d ∷ []) ∙ (λ i. joined (t.lineages_are i ∷ u.lineages_are i ∷ []));
  counts = λ place. count_all (t.counts place ∷ u.counts place ∷ []);
  counts_are = λ place. counted-every place (c ∷ d ∷ []) ∙ (λ i. count_all (t.counts_are place i ∷ u.counts_are place i ∷ []));
  tells_of = λ here. truth_every (t.tells_of here ∷ u.tells_of here ∷ []);
  truth_is = λ here. truth-every here (c ∷ d ∷ []) ∙ (λ i. truth_every (t.truth_is here i ∷ u.truth_is here i ∷ []));
}

abbrev pub told-any : {c d : Cond} → Told c → Told d → Told (Any (c ∷ d ∷ []))
told-any {c} {d} t u = record {
  lineages = joined (t.lineages ∷ u.lineages ∷ []);
  lineages_are = lineages-any (c ∷ d ∷ []) ∙ (λ i. joined (t.lineages_are i ∷ u.lineages_are i ∷ []));
  counts = λ place. count_all (t.counts place ∷ u.counts place ∷ []);
  counts_are = λ place. counted-any place (c ∷ d ∷ []) ∙ (λ i. count_all (t.counts_are place i ∷ u.counts_are place i ∷ []));
  tells_of = λ here. truth_any (t.tells_of here ∷ u.tells_of here ∷ []);
  truth_is = λ here. truth-any here (c ∷ d ∷ []) ∙ (λ i. truth_any (t.truth_is here i ∷ u.truth_is here i ∷ []));
}

-- ---- a query, by what its conditions say

pub record Parts : Type 0 where
  pub lineages : List ℕ
  pub counts : Place → Counts
  pub group_counts : Place → Counts
  pub keeps : Here → Bool
  pub keeps_group : Here → Bool

abbrev parts_of : Query → Parts
parts_of query = record {
  lineages = guard_lineages query.filter ++ guard_lineages query.having;
  counts = λ place. guard_counts place query.filter;
  group_counts = λ place. guard_counts place query.having;
  keeps = λ here. holds here query.filter;
  keeps_group = λ here. holds here query.having;
}

abbrev kinds_by : Parts → Query → Shape → Result (List Kind) Refusal
kinds_by parts query schema =
    and_then (items_kinds (place_of query schema) query.items) (λ of.
    and_then (parts.counts (plain_place schema) 1) (λ nth.
    and_then (cols_kinds schema query.groups) (λ groups.
    and_then (parts.group_counts (place_of query schema) nth) (λ last.
    and_then (terms_kinds (place_of query schema) (map (λ key. key.term) query.order)) (λ order. Ok of)))))

abbrev places_by : Parts → Query → Shape → Related → List Pair → List (List Pair)
places_by parts query schema related kept =
    if is_grouped query
    then filter (λ group. parts.keeps_group (here_for schema related group)) (grouped_pairs schema query.groups kept)
    else map (λ pair. pair ∷ []) kept

abbrev pub rows_by : Parts → Query → Shape → Related → List Pair → List (List Cell)
rows_by parts query schema related all =
    map (shown schema query.items)
    (limited query.limit
    (sorted_by (λ a b. order_by query.order (here_for schema related a) (here_for schema related b))
    (places_by parts query schema related (filter (λ pair. parts.keeps (here_for schema related (pair ∷ []))) all))))

abbrev answered_by : Parts → Session → Query → Cvd → Result (List Kind) Refusal → Deed
answered_by parts s query cvd (Err refusal) = refuses s refusal
answered_by parts s query cvd (Ok kinds) =
    let rows : List (List Cell) = rows_by parts query cvd.schema (relatives cvd) (pairs (relatives cvd) cvd query.source) in
    tells s (says.Answer (answer_text kinds rows) (length rows))

abbrev deed_by : Parts → Session → Query → Option Cvd → Deed
deed_by parts s query None = refuses s (no.NoCvd (name_read query.source))
deed_by parts s query (Some cvd) =
    unless s (option_or (missing_version (length cvd.versions) (source_lineages query.source ++ parts.lineages)) (listed_refusal (length cvd.versions) query.source))
    (answered_by parts s query cvd (kinds_by parts query cvd.schema))

abbrev pub said_by : Parts → List ℕ → Query → List ℕ
said_by parts script query =
    reply_text (unless (served_all script).session (permit_names (served_all script).session.user (name_read query.source ∷ []))
    (deed_by parts (served_all script).session query (cvd_in (set_named (served_all script).world (name_read query.source))))).reply

said-is : (script : List ℕ) (query : Query) → said script (AsksQuery query) ≡ said_by (parts_of query) script query
said-is script query = refl

-- WHERE alone
abbrev pub with_where : Query → Cond → Query
with_where query c = record query { filter = Some c; having = None }

abbrev pub where_parts : {c : Cond} → Told c → Parts
where_parts t = record {
  lineages = t.lineages ++ [];
  counts = t.counts;
  group_counts = λ place nth. Ok nth;
  keeps = λ here. is_true (t.tells_of here);
  keeps_group = λ here. true;
}

where-parts : (query : Query) (c : Cond) (t : Told c) → parts_of (with_where query c) ≡ where_parts t
where-parts query c t = λ i. record {
  lineages = t.lineages_are i ++ [];
  counts = λ place. t.counts_are place i;
  group_counts = λ place nth. Ok nth;
  keeps = λ here. is_true (t.truth_is here i);
  keeps_group = λ here. true;
}

pub where_prints : (script text : List ℕ) (query : Query) {c : Cond} (t : Told c) {printed : List ℕ} → asked_of text ≡ AsksQuery (with_where query c) → said_by (where_parts t) script (with_where query c) ≡ printed → said script (asked_of text) ≡ printed
where_prints script text query {c} t asks computed =
    ap (said script) asks ∙ (said-is script (with_where query c) ∙ (ap (λ (p : Parts). said_by p script (with_where query c)) (where-parts query c t) ∙ computed))

-- HAVING alone
abbrev pub with_having : Query → Cond → Query
with_having query c = record query { filter = None; having = Some c }

abbrev pub having_parts : {c : Cond} → Told c → Parts
having_parts t = record {
  lineages = t.lineages;
  counts = λ place nth. Ok nth;
  group_counts = t.counts;
  keeps = λ here. true;
  keeps_group = λ here. is_true (t.tells_of here);
}

having-parts : (query : Query) (c : Cond) (t : Told c) → parts_of (with_having query c) ≡ having_parts t
having-parts query c t = λ i. record {
  lineages = t.lineages_are i;
  counts = λ place nth. Ok nth;
  group_counts = λ place. t.counts_are place i;
  keeps = λ here. true;
  keeps_group = λ here. is_true (t.truth_is here i);
}

pub having_prints : (script text : List ℕ) (query : Query) {c : Cond} (t : Told c) {printed : List ℕ} → asked_of text ≡ AsksQuery (with_having query c) → said_by (having_parts t) script (with_having query c) ≡ printed → said script (asked_of text) ≡ printed
having_prints script text query {c} t asks computed =
    ap (said script) asks ∙ (said-is script (with_having query c) ∙ (ap (λ (p : Parts). said_by p script (with_having query c)) (having-parts query c t) ∙ computed))
