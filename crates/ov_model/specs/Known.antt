-- What the store's numbers know of a dataset, which have no rows: its schema, and the parents of each version. They refuse queries and
-- joins, and say which versions are read, as the dataset itself does.
--     known_of cvd      what they know
--     query_off_by query found      why a query is refused; None where it is answered
--     vids_read_by query found      the versions whose rows it reads, in their order
--     join_off_by join left right      the same of a join, but 46, which what is read decides
use Rattle.std.specs.Prelude.{ℕ, List, [], length, map, Option, Some, None, Result, Ok, Err}
use Rattle.std.specs.Option.{option_or, option_map}
use Rattle.ov_value.specs.Shapes.{Shape}
use Rattle.ov_model.specs.Answers.{source_vids}
use Rattle.ov_model.specs.Asking.{name_read, query_refusal}
use Rattle.ov_model.specs.Book.{Version, Cvd}
use Rattle.ov_model.specs.Joins.{join_kinds, side_in}
use Rattle.ov_model.specs.Kinds.{kinds}
use Rattle.ov_model.specs.Lineages.{relatives}
use Rattle.ov_model.specs.declared.query.JoinQuery.{JoinQuery}
use Rattle.ov_model.specs.declared.query.Query.{Query}
use Rattle.ov_model.specs.declared.refusal.Refusal.{Refusal}
use Rattle.ov_model.specs.declared.refusal.Refusal.TheVariants as no

pub record Known : Type 0 where
  pub schema : Shape
  pub parents : List (List ℕ)

abbrev pub known_of : Cvd → Known
known_of cvd = record { schema = cvd.schema; parents = map (λ v. v.parents) cvd.versions }

-- a dataset of which they know as much
abbrev pub version_like : List ℕ → Version
version_like parents = record { parents = parents; message = []; rows = [] }

abbrev pub cvd_like : Known → Cvd
cvd_like known = record { number = 0; name = []; schema = known.schema; versions = map version_like known.parents }

abbrev pub refusal_in : {X : Type 0} → Result X Refusal → Option Refusal
refusal_in (Ok x) = None
refusal_in (Err refusal) = Some refusal

-- 10, the first lineage's 12, per listed version 12 and 13, the first of 42 to 45
abbrev pub query_off_by : Query → Option Known → Option Refusal
query_off_by query None = Some (no.NoCvd (name_read query.source))
query_off_by query (Some known) = option_or (query_refusal (length known.parents) query) (refusal_in (kinds query known.schema))

abbrev pub vids_of_known : Query → Known → List ℕ
vids_of_known query known = source_vids (relatives (cvd_like known)) (cvd_like known) query.source

abbrev pub vids_read_by : Query → Option Known → List ℕ
vids_read_by query None = []
vids_read_by query (Some known) = vids_of_known query known

-- 10 and 12 of the left side, and then of the right; 42 and 43
abbrev pub sides_off : JoinQuery → Result Cvd Refusal → Result Cvd Refusal → Option Refusal
sides_off join (Err refusal) right = Some refusal
sides_off join (Ok left) (Err refusal) = Some refusal
sides_off join (Ok left) (Ok right) = refusal_in (join_kinds join left.schema right.schema)

abbrev pub join_off_by : JoinQuery → Option Known → Option Known → Option Refusal
join_off_by join left right = sides_off join (side_in join.left (option_map cvd_like left)) (side_in join.right (option_map cvd_like right))
