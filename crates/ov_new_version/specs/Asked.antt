-- A version that is to be committed, as contracts see it.
--     Asked      the dataset's numbers, and what the version is to have
--     rids_of a, fresh_of a      the rids of its rows, and how many of its records are new
--     edges_of a, place_of a      its parents with the weights of their edges, and where it goes
use Rattle.std.specs.Prelude.{ℕ, List}
use Rattle.ov_place.specs.declared.place_facts.Place.{Place}
use Rattle.ov_segment.specs.declared.numbered.Record.{Record}
use Rattle.ov_value.specs.Shapes.{Shape}
use Rattle.ov_value.specs.declared.column.Column.{Column}
use Rattle.ov_model.specs.Assigned.{fresh_rows}
use Rattle.ov_model.specs.Book.{Row}
use Rattle.ov_records.specs.Records.{lists_of}
use Rattle.ov_catalog.specs.declared.cvd.Cvd.{Cvd}
use Rattle.ov_catalog.specs.Sets.{set_in}
use Rattle.law_commits.specs.Committing.{rids_for, edges_for, place_for}
use Rattle.ov_read.specs.Agreement.{Numbers}
use Rattle.ov_new_version.specs.declared.wanted.Wanted.{Wanted}

-- to this dataset, with these parents, whose records these are with the added columns
pub record Asked : Type 0 where
  pub set : Numbers
  pub vids : List ℕ
  pub parents : List (List Record)
  pub message : List ℕ
  -- the columns that are added, and the schema with them
  pub added : List Column
  pub schema : Shape
  pub rows : List Row

abbrev pub asked_in : Cvd → Wanted → Asked
asked_in d w = record { set = set_in d; vids = w.vids.now; parents = w.parents.now; message = w.message.now; added = w.added.now; schema = w.schema.now; rows = w.rows }

abbrev pub rids_of : Asked → List ℕ
rids_of a = rids_for a.set a.rows a.parents

abbrev pub fresh_of : Asked → ℕ
fresh_of a = fresh_rows a.rows (lists_of a.parents)

abbrev pub edges_of : Asked → List (ℕ × ℕ)
edges_of a = edges_for a.set a.vids a.rows a.parents

abbrev pub place_of : Asked → Place
place_of a = place_for a.set a.vids a.rows a.parents
