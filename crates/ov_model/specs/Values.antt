-- The values of the words of a line.
--     read reading nth before word      what word `nth` gives, or why it is refused
use Rattle.std.specs.Prelude.{ℕ, ◌+◌, ◌-◌, Bool, ◌&&◌, ◌==◌, nat_le, nat_lt, if◌then◌else◌, List, [], ◌∷◌, length, Option, Some, None, Result, Ok, Err, slice_get, codes}
use Rattle.std.specs.List.{slice_split, list_all, position_or_len, before_first, after_first}
use Rattle.std.specs.Option.{option_map, option_and_then}
use Rattle.std.specs.Char.{is_ascii_digit}
use Rattle.std.specs.Str.{bytes_eq}
use Rattle.std.specs.Str.Parse.{digits_value}
use Rattle.ov_value.specs.declared.column.Column.{Column}
use Rattle.ov_value.specs.declared.column.Kind.{Kind}
use Rattle.ov_value.specs.declared.column.Kind.TheVariants as kind
use Rattle.ov_model.specs.declared.given.Given.{Given}
use Rattle.ov_model.specs.declared.given.Given.TheVariants.{Text, Number, Count, Both, Vids, Ratio, Names, Columns, Table}
use Rattle.ov_model.specs.declared.given.Reading.{Reading}
use Rattle.ov_model.specs.declared.given.Reading.TheVariants.{AnyText, FileName, Message, NumberFrom, CountTo, NumberWith, ListOfVids, TwoNumbers, ListOfNames, SchemaItems, StagedTable}
use Rattle.ov_model.specs.declared.refusal.Refusal.{Refusal}
use Rattle.ov_model.specs.declared.refusal.Refusal.TheVariants as no

-- one digit to 18, and nothing else
abbrev pub number_of : List ℕ → Option ℕ
number_of text =
    if nat_le 1 (length text) && (nat_le (length text) 18 && list_all is_ascii_digit text) then Some (digits_value 10 text) else None

-- the values of all, where each has one
abbrev pub all_some : {X Y : Type 0} → (X → Option Y) → List X → Option (List Y)
all_some f [] = Some []
all_some f (x ∷ xs) = option_and_then (λ y. option_map (λ ys. y ∷ ys) (all_some f xs)) (f x)

abbrev pub comma_items : List ℕ → List (List ℕ)
comma_items [] = []
comma_items (b ∷ text) = slice_split (λ c. c == 44) (b ∷ text)

abbrev pub vids_of : List ℕ → Option (List ℕ)
vids_of text = all_some number_of (slice_split (λ c. c == 44) text)

abbrev pub two_of : List ℕ → Option (ℕ × ℕ)
two_of (a ∷ b ∷ []) = Some (a, b)
two_of _ = None

abbrev pub ratio_of : List ℕ → Option (ℕ × ℕ)
ratio_of text = option_and_then two_of (all_some number_of (slice_split (λ c. c == 47) text))

abbrev pub kind_of : List ℕ → Option Kind
kind_of text =
    if bytes_eq text (codes "int") then Some kind.Int
    else if bytes_eq text (codes "text") then Some kind.Text
    else if bytes_eq text (codes "flag") then Some kind.Flag
    else None

-- `name:kind`; the kind is all that follows the first colon, and nothing where there is none
abbrev pub column_of : List ℕ → Option Column
column_of item =
    option_map (λ k. record { name = before_first (λ b. b == 58) item; kind = k }) (kind_of (after_first (λ b. b == 58) item))

abbrev pub onto_columns : Option Column → ℕ → Result (List Column) Refusal → Result (List Column) Refusal
onto_columns None nth rest = Err (no.BadKind nth)
onto_columns (Some column) nth (Ok columns) = Ok (column ∷ columns)
onto_columns (Some column) nth (Err refusal) = Err refusal

-- the columns of items that are counted from `nth` on, or the number of the first item that is none
abbrev pub columns_from : ℕ → List (List ℕ) → Result (List Column) Refusal
columns_from nth [] = Ok []
columns_from nth (item ∷ items) = onto_columns (column_of item) nth (columns_from (nth + 1) items)

-- what a word gives, or a refusal
abbrev pub or_refused : {X : Type 0} → Refusal → (X → Given) → Option X → Result Given Refusal
or_refused refusal give None = Err refusal
or_refused refusal give (Some x) = Ok (give x)

abbrev pub columns_given : Result (List Column) Refusal → Result Given Refusal
columns_given (Ok columns) = Ok (Columns columns)
columns_given (Err refusal) = Err refusal

abbrev pub when : Bool → Refusal → Given → Result Given Refusal
when passes refusal given = if passes then Ok given else Err refusal

abbrev pub number_in : ℕ → ℕ → Option ℕ → Option ℕ
number_in least most None = None
number_in least most (Some n) = if nat_le least n && nat_le n most then Some n else None

-- a number that was given; 0 where none was
abbrev pub number_from : Option Given → ℕ
number_from (Some (Number n)) = n
number_from _ = 0

-- the number that the last word gave; 0 where it gave none
abbrev pub last_number : List Given → ℕ
last_number given = number_from (slice_get given (length given - 1))

abbrev pub number_with : ℕ → ℕ → ℕ → Option ℕ → Option ℕ
number_with before each most n = option_and_then (λ k. if nat_le (before + k) most then Some k else None) (number_in 1 each n)

-- the value of word `nth`, behind the values of the words in order before it
abbrev pub read : Reading → ℕ → List Given → List ℕ → Result Given Refusal
read AnyText nth before word = Ok (Text word)
read FileName nth before word = when (nat_le 1 (length word) && nat_le (length word) 255) (no.UnexpectedWord nth) (Text word)
read Message nth before word = when (nat_le (length word) 1024) (no.UnexpectedWord nth) (Text word)
read (NumberFrom least most) nth before word = or_refused no.BadNumber Number (number_in least most (number_of word))
read (CountTo most) nth before word = or_refused no.BadNumber Count (number_in 0 most (number_of word))
read (NumberWith each most) nth before word =
    or_refused no.BadNumber (λ n. Both (last_number before) n) (number_with (last_number before) each most (number_of word))
read ListOfVids nth before word = or_refused no.BadNumber Vids (vids_of word)
read TwoNumbers nth before word = or_refused no.BadNumber (λ r. Ratio r.0 r.1) (ratio_of word)
read ListOfNames nth before word = Ok (Names (comma_items word))
read SchemaItems nth before word = columns_given (columns_from 1 (comma_items word))
read StagedTable nth before word =
    when (nat_lt (position_or_len (λ b. b == 46) word) (length word)) (no.UnexpectedWord nth) (Table (before_first (λ b. b == 46) word) (after_first (λ b. b == 46) word))
