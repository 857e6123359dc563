-- Reading records into a table: those whose rids are wanted come behind the records that it has.
--     put wanted table r      the table with the record, where it is wanted
--     Passes s last bytes ahead rids table last' rest ahead' rids' table'      records that follow the last one were passed
--     Stops s last rest stop      no whole record stands there, for this reason
use Rattle.std.specs.Prelude.{◌≡◌, ◌≤◌, ℕ, Bool, true, false, if◌then◌else◌, List, ◌++◌, map, filter}
use Rattle.ov_member.specs.Edges.{status}
use Rattle.ov_member.specs.Rids.{AreRids}
use Rattle.ov_value.specs.Shapes.{Shape}
use Rattle.ov_segment.specs.declared.numbered.Record.{Record}
use Rattle.ov_segment.specs.declared.keeping.Stop.{Stop}
use Rattle.ov_segment.specs.declared.keeping.Stop.TheVariants as stop
use Rattle.ov_segment.specs.Reading.{WantsMore, IsOff}
use Rattle.ov_segment.specs.Segments.{AreRecords, Ascend, segment_spelling, last_of}
use Rattle.ov_segment.specs.Tables.{Content, pushed}

abbrev pub put : Bool → Content → Record → Content
put wanted table r = if wanted then pushed table r else table

-- the set of wanted rids as what is ahead of a walk over it: whether a rid is in it
pub record Walk : Type 0 where
  pub inside : Bool
  pub edges : List ℕ

abbrev pub wants : Walk → ℕ → Bool
wants walk rid = status walk.inside walk.edges rid

abbrev pub wanted_of : Walk → List Record → List Record
wanted_of walk records = filter (λ r. wants walk r.rid) records

-- rids that ascend from this one on may come behind these
abbrev pub TakesFrom : ℕ → List ℕ → Type 0
TakesFrom last rids = (more : List ℕ) → Ascend last more → AreRids (rids ++ more)

-- Some records stand in front of the bytes. Those that are wanted came behind the table's, and the rids of all of them
-- behind those that were there. From the last rid on the walk says the same as before.
pub record Passes (schema : Shape) (last : ℕ) (bytes : List ℕ) (ahead : Walk) (rids : List ℕ) (table : Content)
    (new_last : ℕ) (rest : List ℕ) (new_ahead : Walk) (new_rids : List ℕ) (new_table : Content) : Type 0 where
  pub passed : List Record
  pub are : AreRecords schema last passed
  pub bytes_are : bytes ≡ segment_spelling passed ++ rest
  pub last_is : new_last ≡ last_of last passed
  pub ahead_is : (n : ℕ) → new_last ≤ n → wants new_ahead n ≡ wants ahead n
  pub rids_are : new_rids ≡ rids ++ map (λ r. r.rid) passed
  pub table_is : new_table ≡ record table { records = table.records ++ wanted_of ahead passed }

abbrev pub Stops : Shape → ℕ → List ℕ → Stop → Type 0
Stops schema last rest stop.More = WantsMore last rest
Stops schema last rest stop.Bad = IsOff schema last rest

abbrev pub is_bad : Stop → Bool
is_bad stop.More = false
is_bad stop.Bad = true
