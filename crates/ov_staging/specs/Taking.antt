-- A checkout as a staged table, up to its change.
--     stage_change owner table row      a row more, where the table isn't there
--     IsTableRow owner table row      it is a row of this table
--     unfit_off vids table set      why there is no such table: 63 of its name, 76, 77
--     stage_off n cvd vids table      why the numbers refuse it: that; 10; per version 12 and 13
--     staged_row n owner cvd vids table      the row of the table, by the numbers
--     IsTakenBy off change set s next      what comes next, by a refusal of the numbers and by the last rows as they are read
--     IsTakenIn w owner cvd vids table next      and in a World: what is left of the command
use Rattle.std.specs.Prelude.{◌≡◌, ◌⊎◌, ℕ, not, nat_lt, List, length, Option, Some, None, is_some}
use Rattle.std.specs.Option.{option_or}
use Rattle.ov_catalog.specs.Numbers.{Numbers}
use Rattle.ov_host.specs.Host.{State}
use Rattle.ov_host.specs.declared.area.Extent.{Extent}
use Rattle.ov_model.specs.Act.{Session, if_so, merge_of, refuses}
use Rattle.ov_model.specs.Book.{Row}
use Rattle.ov_model.specs.Deed.{changes, file_of_table, stage_deed, table_named, with_staged}
use Rattle.ov_model.specs.Registry.{stage_name, stage_schema, table_in, table_row, with_row}
use Rattle.ov_model.specs.World.{Dataset, World, set_named}
use Rattle.ov_model.specs.declared.refusal.Refusal.{Refusal}
use Rattle.ov_model.specs.declared.refusal.Refusal.TheVariants as no
use Rattle.ov_model.specs.declared.reply.Reply.TheVariants as says
use Rattle.ov_registry.specs.Last.{AreLast}
use Rattle.ov_store.specs.Committing.{Set}
use Rattle.ov_store.specs.Refusals.{refused}
use Rattle.ov_store.specs.Scanning.{scan_off, set_in}
use Rattle.ov_value.specs.Naming.{is_name}
use Rattle.ov_staging.specs.Changing.{Change}
use Rattle.ov_staging.specs.Reading.{foreign_off}
use Rattle.ov_staging.specs.declared.changing.Next.{Next}
use Rattle.ov_staging.specs.declared.changing.Next.TheVariants as next

-- ---- by the rows

abbrev pub stage_change : List ℕ → List ℕ → Row → Change
stage_change owner table row = record {
  off = λ rows. if_so (is_some (table_in rows owner table)) (no.TableStaged (table_named owner table));
  rows = λ rows. with_row rows row;
}

pub record IsTableRow (owner table : List ℕ) (row : Row) : Type 0 where
  pub cvd : List ℕ
  pub made : ℕ
  pub vids : List ℕ
  pub is : row ≡ table_row owner table cvd made vids

-- ---- by the numbers

abbrev pub unfit_off : List ℕ → List ℕ → Option Set → Option Refusal
unfit_off vids table set =
    option_or (if_so (not (is_name table)) (no.BadName table))
    (option_or (foreign_off stage_schema set) (if_so (nat_lt 1000 (length vids)) no.TooManyListed))

abbrev pub stage_off : Numbers Extent Extent → List ℕ → List ℕ → List ℕ → Option Refusal
stage_off n cvd vids table = option_or (unfit_off vids table (set_in n stage_name)) (refused cvd (scan_off n cvd vids))

-- the number of a dataset, where it is there
abbrev pub number_in : Option Set → ℕ
number_in None = 0
number_in (Some set) = set.number

abbrev pub staged_row : Numbers Extent Extent → List ℕ → List ℕ → List ℕ → List ℕ → Row
staged_row n owner cvd vids table = table_row owner table cvd (number_in (set_in n cvd)) vids

-- ---- what comes next

abbrev pub IsTakenBy : Option Refusal → Change → Option Set → State → Next → Type 0
IsTakenBy off change set s (next.Refused refusal) =
    (off ≡ Some refusal) ⊎ ((off ≡ None) × (last : List Row) × AreLast set s last × (change.off last ≡ Some refusal))
IsTakenBy off change set s (next.Rows rows) =
    (off ≡ None) × (last : List Row) × AreLast set s last × (change.off last ≡ None) × (rows.items ≡ change.rows last)

-- the command of a session of the owner is refused; or the rows come in the place of those of the staged tables, by one move, and the
-- table's file is then the merge
abbrev pub IsTakenIn : World → List ℕ → List ℕ → List ℕ → List ℕ → Next → Type 0
IsTakenIn w owner cvd vids table (next.Refused refusal) =
    (s : Session) → s.user ≡ owner → stage_deed w s cvd table vids (set_named w stage_name) (set_named w cvd) ≡ refuses s refusal
IsTakenIn w owner cvd vids table (next.Rows rows) =
    (d : Dataset) × (set_named w cvd ≡ Some d)
    × ((s : Session) → s.user ≡ owner → stage_deed w s cvd table vids (set_named w stage_name) (set_named w cvd)
    ≡ changes w s (with_staged s table vids d) stage_name stage_schema rows.items
    (says.ToFile d.cvd.name (length (merge_of d.cvd vids)) (file_of_table owner table)) (set_named w stage_name))
