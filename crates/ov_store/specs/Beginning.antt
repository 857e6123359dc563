-- What `init` does.
--     init_off held schema name rows      why it is refused by numbers
--     first_move name schema rows      its move: the rows stand in key order
--     first_of name schema rows      what it brings
use Rattle.std.specs.Prelude.{◌≤◌, ℕ, false, List, [], length, Option}
use Rattle.std.specs.Option.{option_map, option_or}
use Rattle.ov_value.specs.Shapes.{Shape}
use Rattle.ov_value.specs.Spelling.{row_spelling}
use Rattle.ov_model.specs.Book.{Row}
use Rattle.ov_model.specs.Merge.{in_key_order}
use Rattle.ov_model.specs.Moves.{Move, Init}
use Rattle.ov_model.specs.Records.{counted}
use Rattle.ov_core.specs.Held.{Held}
use Rattle.ov_rows.specs.Refusing.{rows_off}
use Rattle.ov_version_bytes.specs.Written.{first_event, list_written, segment_written}
use Rattle.ov_store.specs.declared.errors.StoreErr.{StoreErr}
use Rattle.ov_store.specs.Changes.{Bringing}
use Rattle.ov_store.specs.Errors.{of_rows}
use Rattle.ov_store.specs.Refusals.{new_off}

abbrev pub init_off : Held → List ℕ → Shape → List Row → Option StoreErr
init_off held name schema rows =
    option_or (new_off held.numbers name) (option_map of_rows (rows_off held.journal.format schema false rows))

abbrev pub first_move : List ℕ → Shape → List Row → Move
first_move name schema rows = Init name schema (in_key_order schema rows)

-- of these rows, which have the rids 1, 2, 3 and so on
abbrev pub first_by : List ℕ → Shape → List Row → List ℕ → Bringing
first_by name schema rows rids = record {
  event = first_event name schema rows (list_written rids) (segment_written [] rids rows);
  list = list_written rids;
  segment = segment_written [] rids rows;
}

abbrev pub first_of : List ℕ → Shape → List Row → Bringing
first_of name schema rows = first_by name schema (in_key_order schema rows) (counted 1 (length rows))

-- a row of at most 65,536 bytes
abbrev pub IsShort : Row → Type 0
IsShort row = length (row_spelling row).bytes ≤ 65536
