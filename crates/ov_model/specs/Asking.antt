-- What comes of what the text of a `run` asks.
--     run_deed w s asked      the first refusal in its order, or else the answer; rule 71 comes behind what the text is refused for
use Rattle.std.specs.Prelude.{ℕ, Bool, true, false, ◌||◌, ◌==◌, nat_lt, List, [], ◌∷◌, ◌++◌, length, Option, Some, None, Result, Ok, Err}
use Rattle.std.specs.Option.{option_or}
use Rattle.ov_value.specs.declared.column.Kind.{Kind}
use Rattle.ov_model.specs.Act.{Session, Deed, tells, refuses, unless, if_so, vids_refusal}
use Rattle.ov_model.specs.Answers.{answer, answer_text, pairs}
use Rattle.ov_model.specs.Book.{Cvd}
use Rattle.ov_model.specs.Kinds.{kinds}
use Rattle.ov_model.specs.Lineages.{relatives}
use Rattle.ov_model.specs.Lists.{joined}
use Rattle.ov_model.specs.Joins.{join_deed}
use Rattle.ov_model.specs.QueryTexts.{Asked, BadByte, NoQuery, AsksQuery, AsksJoin}
use Rattle.ov_model.specs.Users.{permit_names}
use Rattle.ov_model.specs.World.{World, cvd_in, set_named}
use Rattle.ov_model.specs.declared.answer.Cell.{Cell}
use Rattle.ov_model.specs.declared.query.Query.{Query}
use Rattle.ov_model.specs.declared.query.Src.{Src}
use Rattle.ov_model.specs.declared.query.Src.TheVariants as source
use Rattle.ov_model.specs.declared.query.Cond.{Cond}
use Rattle.ov_model.specs.declared.query.Cond.TheOpen.{Cond-F}
use Rattle.ov_model.specs.declared.query.Cond.TheFolds.{fold-Cond}
use Rattle.ov_model.specs.declared.refusal.Refusal.{Refusal}
use Rattle.ov_model.specs.declared.refusal.Refusal.TheVariants as no
use Rattle.ov_model.specs.declared.reply.Reply.TheVariants as says

-- ---- what a query is refused for

-- the dataset that a query reads
abbrev pub name_read : Src → List ℕ
name_read (source.Listed vids name) = name
name_read (source.Whole name) = name
name_read (source.Lineage kind vid name) = name

-- the versions whose lineages a query names, from the left: that of its source, those of WHERE and those of HAVING
abbrev pub source_lineages : Src → List ℕ
source_lineages (source.Lineage kind vid name) = vid ∷ []
source_lineages _ = []

abbrev pub lineages_step : Cond-F (List ℕ) → List ℕ
lineages_step (Cond-F.InLineage kind vid negated) = vid ∷ []
lineages_step (Cond-F.Not vids) = vids
lineages_step (Cond-F.Every parts) = joined parts
lineages_step (Cond-F.Any parts) = joined parts
lineages_step _ = []

abbrev pub cond_lineages : Cond → List ℕ
cond_lineages = fold-Cond (List ℕ) lineages_step

abbrev pub guard_lineages : Option Cond → List ℕ
guard_lineages None = []
guard_lineages (Some c) = cond_lineages c

abbrev pub lineages_of : Query → List ℕ
lineages_of query = source_lineages query.source ++ (guard_lineages query.filter ++ guard_lineages query.having)

-- no version is named
abbrev pub is_none_named : List ℕ → Bool
is_none_named [] = true
is_none_named (vid ∷ vids) = false

-- the first of these versions that isn't there
abbrev pub missing_version : ℕ → List ℕ → Option Refusal
missing_version count [] = None
missing_version count (vid ∷ vids) = option_or (if_so (vid == 0 || nat_lt count vid) (no.NoVersion vid)) (missing_version count vids)

-- listed versions are there, and none is listed twice
abbrev pub listed_refusal : ℕ → Src → Option Refusal
listed_refusal count (source.Listed vids name) = vids_refusal count [] vids
listed_refusal count _ = None

abbrev pub query_refusal : ℕ → Query → Option Refusal
query_refusal count query = option_or (missing_version count (lineages_of query)) (listed_refusal count query.source)

-- ---- what comes of it

abbrev pub answer_rows : Query → Cvd → List (List Cell)
answer_rows query cvd = answer query cvd.schema (relatives cvd) (pairs (relatives cvd) cvd query.source)

abbrev pub answered : Session → Query → Cvd → Result (List Kind) Refusal → Deed
answered s query cvd (Err refusal) = refuses s refusal
answered s query cvd (Ok kinds) = tells s (says.Answer (answer_text kinds (answer_rows query cvd)) (length (answer_rows query cvd)))

abbrev pub query_by : Session → Query → Option Cvd → Deed
query_by s query None = refuses s (no.NoCvd (name_read query.source))
query_by s query (Some cvd) = unless s (query_refusal (length cvd.versions) query) (answered s query cvd (kinds query cvd.schema))

abbrev pub run_deed : World → Session → Asked → Deed
run_deed w s (BadByte at) = refuses s (no.BadByte at)
run_deed w s NoQuery = refuses s no.NotAQuery
run_deed w s (AsksQuery query) =
    unless s (permit_names s.user (name_read query.source ∷ [])) (query_by s query (cvd_in (set_named w (name_read query.source))))
run_deed w s (AsksJoin join) = unless s (permit_names s.user (join.left.cvd ∷ join.right.cvd ∷ [])) (join_deed w s join)
