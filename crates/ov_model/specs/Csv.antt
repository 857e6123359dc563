-- The text of a file as rows, and rows as the text of a file.
--     rows_of schema bytes      the rows in file order, or the one refusal that counts; `csv` splits the bytes into records
--     text_of schema rows      a line of the column names, and a line for each row, as `csv` writes them
use Rattle.std.specs.Prelude.{ℕ, ◌+◌, ◌^◌, ℤ, pos, negsuc, Bool, true, false, not, ◌||◌, ◌&&◌, ◌==◌, nat_eq, nat_le, nat_lt, if◌then◌else◌, List, [], ◌∷◌, ◌++◌, length, take, Option, Some, None, Result, Ok, Err, codes}
use Rattle.std.specs.Char.{digit_value}
use Rattle.std.specs.Cmp.Lexicographic.{pointwise}
use Rattle.std.specs.Fmt.{signed_decimal}
use Rattle.std.specs.List.{list_all, list_any, flat_map}
use Rattle.std.specs.Option.{option_or}
use Rattle.std.specs.Str.{is_utf8, bytes_eq}
use Rattle.std.specs.Str.Parse.{without_leading_sign, signed_digits_value}
use Rattle.csv.specs.Reading.{default_config, strip_bom, records}
use Rattle.csv.specs.Writing.{default_writer, row_text}
use Rattle.ov_value.specs.declared.column.Column.{Column}
use Rattle.ov_value.specs.declared.column.Kind.{Kind}
use Rattle.ov_value.specs.declared.column.Kind.TheVariants as kind
use Rattle.ov_value.specs.declared.value.Value.{Value}
use Rattle.ov_value.specs.declared.value.Value.TheVariants.{Int, Text, Flag, Null}
use Rattle.ov_value.specs.Rows.{is_null}
use Rattle.ov_value.specs.Shapes.{Shape, names}
use Rattle.ov_value.specs.Spelling.{row_spelling}
use Rattle.ov_model.specs.Book.{Row}
use Rattle.ov_model.specs.declared.refusal.Refusal.{Refusal}
use Rattle.ov_model.specs.declared.refusal.Refusal.TheVariants.{BadHeader, Width, BadField, NotText, LongFile, LongRow, NullKey}

-- one digit or more, and nothing else
abbrev pub is_numeral : List ℕ → Bool
is_numeral digits = nat_le 1 (length digits) && list_all (λ c. nat_lt (digit_value c) 10) digits

-- from -2^63 to 2^63 - 1
abbrev pub is_64_bits : ℤ → Bool
is_64_bits (pos n) = nat_lt n (2 ^ 63)
is_64_bits (negsuc n) = nat_lt n (2 ^ 63)

-- an optional sign, and digits; nothing at all is NULL
abbrev pub int_value : List ℕ → Option Value
int_value [] = Some Null
int_value (b ∷ bs) =
    if is_numeral (without_leading_sign (b ∷ bs)) && is_64_bits (signed_digits_value 10 (b ∷ bs))
    then Some (Int (signed_digits_value 10 (b ∷ bs)))
    else None

-- nothing at all is NULL
abbrev pub flag_value : List ℕ → Option Value
flag_value [] = Some Null
flag_value (b ∷ bs) =
    if bytes_eq (b ∷ bs) (codes "true") || bytes_eq (b ∷ bs) (codes "t") then Some (Flag true)
    else if bytes_eq (b ∷ bs) (codes "false") || bytes_eq (b ∷ bs) (codes "f") then Some (Flag false)
    else None

-- so many backslashes or more, and then one `N` and nothing else
abbrev pub is_null_mark : List ℕ → Bool
is_null_mark [] = false
is_null_mark (b ∷ []) = b == 78
is_null_mark (b ∷ c ∷ rest) = b == 92 && is_null_mark (c ∷ rest)

-- A backslash and `N` is NULL. Of more backslashes and `N` one is taken off, so that this text can be written too.
abbrev pub text_value : List ℕ → Value
text_value [] = Text []
text_value (b ∷ bs) =
    if b == 92 && is_null_mark bs then (if length bs == 1 then Null else Text bs) else Text (b ∷ bs)

-- the value that a field spells in a column of a kind
abbrev pub field_value : Kind → List ℕ → Option Value
field_value kind.Int field = int_value field
field_value kind.Text field = Some (text_value field)
field_value kind.Flag field = flag_value field

-- the values of the fields, each in its column; NULL where a field spells none
abbrev pub or_null : Option Value → Value
or_null None = Null
or_null (Some value) = value

abbrev pub row_in : List Column → List (List ℕ) → Row
row_in (column ∷ columns) (field ∷ fields) = or_null (field_value column.kind field) ∷ row_in columns fields
row_in _ _ = []

-- the first field, from the left, that spells no value of its column
abbrev pub unless_spelled : Option Value → Option Refusal → Option Refusal → Option Refusal
unless_spelled None refusal later = refusal
unless_spelled (Some value) refusal later = later

abbrev pub bad_field : ℕ → List Column → List (List ℕ) → Option Refusal
bad_field nth (column ∷ columns) (field ∷ fields) =
    unless_spelled (field_value column.kind field) (Some (BadField nth column.name column.kind)) (bad_field nth columns fields)
bad_field nth _ _ = None

-- the first column, from the left, that is a key column and NULL; columns are counted from `place` on
abbrev pub null_key : Shape → ℕ → ℕ → List Column → Row → Option Refusal
null_key schema nth place (column ∷ columns) (value ∷ values) =
    if is_null value && list_any (nat_eq place) schema.key
    then Some (NullKey nth column.name)
    else null_key schema nth (place + 1) columns values
null_key schema nth place _ _ = None

abbrev pub long_row : ℕ → Row → Option Refusal
long_row nth row = if nat_lt 65536 (length (row_spelling row).bytes) then Some (LongRow nth) else None

-- why a record is no row: it has more or fewer fields than there are columns, a field is no text, a field spells no value
-- of its column, a key column is NULL, or the row is too long
abbrev pub row_refusal : Shape → ℕ → List (List ℕ) → Option Refusal
row_refusal schema nth fields =
    if not (length fields == length schema.columns) then Some (Width nth (length fields) (length schema.columns))
    else if not (list_all is_utf8 fields) then Some (NotText nth)
    else option_or (bad_field nth schema.columns fields)
    (option_or (null_key schema nth 0 schema.columns (row_in schema.columns fields))
    (long_row nth (row_in schema.columns fields)))

abbrev pub onto : Row → Result (List Row) Refusal → Result (List Row) Refusal
onto row (Ok rows) = Ok (row ∷ rows)
onto row (Err refusal) = Err refusal

abbrev pub unless_refused : Option Refusal → Result (List Row) Refusal → Result (List Row) Refusal
unless_refused None rows = rows
unless_refused (Some refusal) rows = Err refusal

-- the rows of these records, numbered from `nth` on, or the first refusal
abbrev pub rows_from : Shape → ℕ → List (List (List ℕ)) → Result (List Row) Refusal
rows_from schema nth [] = Ok []
rows_from schema nth (fields ∷ rest) =
    unless_refused (row_refusal schema nth fields) (onto (row_in schema.columns fields) (rows_from schema (nth + 1) rest))

-- the first record has the column names in order
abbrev pub table_of : Shape → List (List (List ℕ)) → Result (List Row) Refusal
table_of schema [] = Err BadHeader
table_of schema (header ∷ rest) =
    if pointwise (pointwise nat_eq) header (names schema.columns) then rows_from schema 1 rest else Err BadHeader

-- EF BB BF, the mark of byte order
abbrev pub begins_with_mark : List ℕ → Bool
begins_with_mark bytes = bytes_eq (take 3 bytes) (0xEF ∷ 0xBB ∷ 0xBF ∷ [])

-- One mark of byte order in front is no part of the text, and a second one is refused.
abbrev pub rows_of : Shape → List ℕ → Result (List Row) Refusal
rows_of schema bytes =
    if nat_lt 67108864 (length bytes) then Err LongFile
    else if begins_with_mark (strip_bom bytes) then Err BadHeader
    else table_of schema (records default_config (strip_bom bytes))

-- The field of a value: NULL is an empty field, but in a column of texts it is a backslash and `N`; a text of one or more
-- backslashes and `N` gets one more.
abbrev pub text_field : List ℕ → List ℕ
text_field [] = []
text_field (b ∷ bs) = if b == 92 && is_null_mark bs then 92 ∷ b ∷ bs else b ∷ bs

abbrev pub null_field : Kind → List ℕ
null_field kind.Text = 92 ∷ 78 ∷ []
null_field _ = []

abbrev pub field_of : Kind → Value → List ℕ
field_of kind (Int x) = signed_decimal x
field_of kind (Text bytes) = text_field bytes
field_of kind (Flag b) = if b then codes "true" else codes "false"
field_of kind Null = null_field kind

abbrev pub fields_of : List Column → Row → List (List ℕ)
fields_of (column ∷ columns) (value ∷ values) = field_of column.kind value ∷ fields_of columns values
fields_of _ _ = []

-- the header, and a line for each row
abbrev pub text_of : Shape → List Row → List ℕ
text_of schema rows =
    row_text default_writer (names schema.columns)
    ++ flat_map (λ row. row_text default_writer (fields_of schema.columns row)) rows
