-- The registry: the users and the staged tables, each kept as the rows of a dataset of the store's own.
--     is_foreign schema d      the dataset is live, with another schema
--     last_rows d      the rows of its last version; none where it isn't live
--     with_row, without_row, find      the rows with one more, without a table's, and where that one stands
--     change_of name schema rows d      these rows in place of those of the last version: one Init or one Commit
--     change_refusal w name rows d      why that is refused
--     staged_of w row      what a staged table was checked out from
use Rattle.std.specs.Prelude.{ℕ, pos, ◌++◌, Bool, false, not, ◌&&◌, ◌||◌, nat_eq, nat_le, nat_lt, if◌then◌else◌, List, [], ◌∷◌, length, filter, Option, Some, None, slice_get, codes}
use Rattle.std.specs.Cmp.Lexicographic.{pointwise}
use Rattle.std.specs.Ordering.{is_eq, int_eq}
use Rattle.std.specs.List.{position}
use Rattle.std.specs.Option.{option_or, option_and_then}
use Rattle.std.specs.Str.{bytes_eq}
use Rattle.ov_value.specs.declared.column.Column.{Column}
use Rattle.ov_value.specs.declared.column.Kind.{Kind}
use Rattle.ov_value.specs.declared.column.Kind.TheVariants as kind
use Rattle.ov_value.specs.declared.value.Value.{Value}
use Rattle.ov_value.specs.declared.value.Value.TheVariants.{Int, Text}
use Rattle.ov_value.specs.Rows.{key_cmp, value_at}
use Rattle.ov_value.specs.Shapes.{Shape}
use Rattle.ov_model.specs.Act.{if_so, format_one, fresh_of, more_refusal, records_refusal}
use Rattle.ov_model.specs.Book.{Row}
use Rattle.ov_model.specs.Kinds.{is_same_kind}
use Rattle.ov_model.specs.Merge.{has_key, merged}
use Rattle.ov_model.specs.Moves.{Move, Init, Commit}
use Rattle.ov_model.specs.Records.{rows_at}
use Rattle.ov_model.specs.Replies.{numbers}
use Rattle.ov_model.specs.Users.{is_admin, is_reserved}
use Rattle.ov_model.specs.Values.{vids_of}
use Rattle.ov_model.specs.World.{Dataset, World, set_named}
use Rattle.ov_model.specs.declared.refusal.Refusal.{Refusal}
use Rattle.ov_model.specs.declared.refusal.Refusal.TheVariants as no

-- ---- the two datasets

abbrev pub column : List ℕ → Kind → Column
column name k = record { name = name; kind = k }

abbrev pub users_name : List ℕ
users_name = codes "orpheus_users"

abbrev pub users_schema : Shape
users_schema = record { columns = column (codes "name") kind.Text ∷ []; key = 0 ∷ [] }

abbrev pub stage_name : List ℕ
stage_name = codes "orpheus_stage"

-- `made` is the number of the dataset of the name `cvd`
abbrev pub stage_schema : Shape
stage_schema = record {
  columns = column (codes "owner") kind.Text ∷ column (codes "name") kind.Text ∷ column (codes "cvd") kind.Text
      ∷ column (codes "made") kind.Int ∷ column (codes "vids") kind.Text ∷ [];
  key = 0 ∷ 1 ∷ [];
}

abbrev pub is_same_column : Column → Column → Bool
is_same_column a b = bytes_eq a.name b.name && is_same_kind a.kind b.kind

abbrev pub is_same_schema : Shape → Shape → Bool
is_same_schema a b = pointwise is_same_column a.columns b.columns && pointwise nat_eq a.key b.key

abbrev pub is_foreign : Shape → Option Dataset → Bool
is_foreign schema None = false
is_foreign schema (Some d) = not (is_same_schema d.cvd.schema schema)

abbrev pub last_rows : Option Dataset → List Row
last_rows None = []
last_rows (Some d) = rows_at d.cvd.versions (length d.cvd.versions)

-- ---- rows

-- as a version has them: in key order, no key twice
abbrev pub version_rows : Shape → List Row → List Row
version_rows schema rows = merged schema (rows ∷ [])

abbrev pub with_row : List Row → Row → List Row
with_row rows row = rows ++ row ∷ []

abbrev pub user_row : List ℕ → Row
user_row name = Text name ∷ []

-- the user is `admin`, or has a row
abbrev pub is_user : List Row → List ℕ → Bool
is_user rows name = is_admin name || has_key users_schema rows (user_row name)

abbrev pub table_row : List ℕ → List ℕ → List ℕ → ℕ → List ℕ → Row
table_row owner name cvd made vids = Text owner ∷ Text name ∷ Text cvd ∷ Int (pos made) ∷ Text (numbers vids) ∷ []

-- whether a row is that of the table of this owner and name
abbrev pub is_table : List ℕ → List ℕ → Row → Bool
is_table owner name row = is_eq (key_cmp stage_schema row (Text owner ∷ Text name ∷ []))

abbrev pub find : List Row → List ℕ → List ℕ → Option ℕ
find rows owner name = position (is_table owner name) rows

abbrev pub without_row : List Row → List ℕ → List ℕ → List Row
without_row rows owner name = filter (λ row. not (is_table owner name row)) rows

-- the row of a table
abbrev pub table_in : List Row → List ℕ → List ℕ → Option Row
table_in rows owner name = option_and_then (slice_get rows) (find rows owner name)

-- ---- what a staged table was checked out from

abbrev pub as_text : Value → Option (List ℕ)
as_text (Text text) = Some text
as_text _ = None

abbrev pub is_number : Value → ℕ → Bool
is_number (Int n) number = int_eq n (pos number)
is_number _ number = false

-- the live dataset of this name, where it is none of the store's own
abbrev pub unreserved : World → List ℕ → Option Dataset
unreserved w name = if is_reserved name then None else set_named w name

-- that was made under this number
abbrev pub made_as : Value → Dataset → Option Dataset
made_as made d = if is_number made d.cvd.number then Some d else None

abbrev pub set_staged : World → Row → Option Dataset
set_staged w row = option_and_then (made_as (value_at row 3)) (option_and_then (unreserved w) (as_text (value_at row 2)))

abbrev pub vids_staged : Row → Option (List ℕ)
vids_staged row = option_and_then vids_of (as_text (value_at row 4))

abbrev pub both : {X Y : Type 0} → Option X → Option Y → Option (X × Y)
both (Some x) (Some y) = Some (x, y)
both _ _ = None

-- the dataset, live under its name and number, and the versions that were listed
abbrev pub staged_of : World → Row → Option (Dataset × List ℕ)
staged_of w row = both (set_staged w row) (vids_staged row)

-- ---- a change

-- a new dataset has room among the others, and a number; a further version has a number; there are not too many rows; in a store of
-- format 1 none has NULL, as none has where the store stands for a World; and a further version's records have rids
abbrev pub number_refusal : World → List ℕ → Option Dataset → Option Refusal
number_refusal w name None = more_refusal w name
number_refusal w name (Some d) = if_so (nat_le 65535 (length d.cvd.versions)) (no.TooManyVersions name)

-- the last version is the one parent
abbrev pub last_alone : Dataset → List ℕ
last_alone d = length d.cvd.versions ∷ []

abbrev pub change_records : List Row → Option Dataset → Option Refusal
change_records rows None = None
change_records rows (Some d) = records_refusal d (fresh_of d (last_alone d) (codes "stage") rows)

abbrev pub change_refusal : World → List ℕ → List Row → Option Dataset → Option Refusal
change_refusal w name rows d =
    option_or (number_refusal w name d)
    (option_or (if_so (nat_lt 1000000 (length rows)) no.TooManyRows)
    (option_or (format_one w.format false rows) (change_records rows d)))

abbrev pub change_of : List ℕ → Shape → List Row → Option Dataset → Move
change_of name schema rows None = Init name schema rows
change_of name schema rows (Some d) = Commit d.cvd.number (last_alone d) (codes "stage") [] rows
