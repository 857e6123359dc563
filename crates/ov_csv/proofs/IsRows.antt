-- What a text has as rows are rows of the schema, and none is long.
use Rattle.std.proofs.Common.{◌≡◌, ◌≢◌, ◌<◌, ◌≤◌, ◌+◌, ◌&&◌, ◌||◌, ◌==◌, ◌∷◌, [], ℕ, List, Bool, Option, Some, None, refl, zero, suc, true, false, length, get_or, arith, subst, inl, inr, length-append, lit<}
use Rattle.std.specs.Prelude.{Result, Ok, Err, nat_eq, nat_lt, not, if◌then◌else◌}
use Rattle.std.specs.Cmp.Lexicographic.{pointwise}
use Rattle.std.specs.List.{All, AllByRecursion, flat_map, list_all, list_any}
use Rattle.std.specs.Option.{option_or}
use Rattle.std.specs.Str.{is_utf8}
use Rattle.std.specs.Str.Parse.{signed_digits_value}
use Rattle.std.proofs.lemmas.Bool.{cases_Bool, eqb-true, eq-eqb, ltb-false}
use Rattle.std.proofs.lemmas.Str.{IsUtf8-from_is_utf8, IsUtf8-from_ascii}
use Rattle.csv.specs.Reading.{default_config, records, strip_bom}
use Rattle.ov_value.specs.declared.column.Column.{Column}
use Rattle.ov_value.specs.declared.column.Kind.{Kind}
use Rattle.ov_value.specs.declared.column.Kind.TheVariants as kind
use Rattle.ov_value.specs.declared.value.Value.{Value}
use Rattle.ov_value.specs.declared.value.Value.TheVariants.{Int, Text, Flag, Null}
use Rattle.ov_value.specs.Rows.{HasKinds, IsOfKind, is_null, value_at}
use Rattle.ov_value.specs.Shapes.{IsSound, Shape, names}
use Rattle.ov_value.specs.Spelling.{IsRow, IsShort, IsTyped, row_spelling, value_bytes}
use Rattle.ov_model.specs.Book.{Row}
use Rattle.ov_model.specs.Csv.{begins_with_mark, field_value, flag_value, int_value, is_64_bits, is_null_mark, long_row, null_key, onto, or_null, row_in, row_refusal, rows_from, rows_of, table_of, text_value, unless_refused}
use Rattle.ov_model.specs.declared.refusal.Refusal.{Refusal}
use Rattle.ov_model.specs.declared.refusal.Refusal.TheVariants.{BadHeader, LongFile, NullKey}
use Rattle.ov_csv.proofs.Spelled.{bits-fit}
use Rattle.ov_csv.proofs.Rows.{row_in-length}

-- what holds of a value that a field spells, and of NULL, holds of the field's value
choice : (P : Value → Type 0) (t : Bool) (v : Value) → P Null → (t ≡ true → P v) → P (or_null (if t then Some v else None))
choice P true v n h = h refl
choice P false v n h = n

and-left : (a b : Bool) → (a && b) ≡ true → a ≡ true
and-left true b e = refl
and-left false b e = cc

and-right : (a b : Bool) → (a && b) ≡ true → b ≡ true
and-right true b e = e
and-right false b e = cc

pub int-choice : (P : Value → Type 0) (field : List ℕ) → P Null
    → (is_64_bits (signed_digits_value 10 field) ≡ true → P (Int (signed_digits_value 10 field))) → P (or_null (int_value field))
int-choice P [] n h = n
int-choice P (b ∷ bs) n h = choice P _ _ n (λ e. h (and-right _ _ e))

two-choices : (P : Value → Type 0) (s t : Bool) → P Null → ((b : Bool) → P (Flag b))
    → P (or_null (if s then Some (Flag true) else if t then Some (Flag false) else None))
two-choices P true t n h = h true
two-choices P false true n h = h false
two-choices P false false n h = n

pub flag-choice : (P : Value → Type 0) (field : List ℕ) → P Null → ((b : Bool) → P (Flag b)) → P (or_null (flag_value field))
flag-choice P [] n h = n
flag-choice P (b ∷ bs) n h = two-choices P _ _ n h

pub mark-choice : (P : Value → Type 0) (s t one : Bool) (rest field : List ℕ) → P Null → P (Text field) → (t ≡ true → P (Text rest))
    → P (if s && t then (if one then Null else Text rest) else Text field)
mark-choice P true true true rest field n h m = n
mark-choice P true true false rest field n h m = m refl
mark-choice P true false one rest field n h m = h
mark-choice P false t one rest field n h m = h

text-choice : (P : Value → Type 0) (field : List ℕ) → P Null → P (Text field)
    → ((rest : List ℕ) → is_null_mark rest ≡ true → P (Text rest)) → P (text_value field)
text-choice P [] n h m = h
text-choice P (b ∷ bs) n h m = mark-choice P (b == 92) (is_null_mark bs) (length bs == 1) bs (b ∷ bs) n h (m bs)

-- each value is of its column's kind
of_kind : (k : Kind) (field : List ℕ) → IsOfKind (or_null (field_value k field)) k
of_kind kind.Int field = int-choice (λ v. IsOfKind v kind.Int) field tt (λ _. tt)
of_kind kind.Text field = text-choice (λ v. IsOfKind v kind.Text) field tt tt (λ _ _. tt)
of_kind kind.Flag field = flag-choice (λ v. IsOfKind v kind.Flag) field tt (λ _. tt)

have-kinds : (columns : List Column) (fields : List (List ℕ)) → length fields ≡ length columns → HasKinds (row_in columns fields) columns
have-kinds [] [] e = tt
have-kinds [] (field ∷ fields) e = cc
have-kinds (column ∷ columns) [] e = cc
have-kinds (column ∷ columns) (field ∷ fields) e = (of_kind column.kind field, have-kinds columns fields (omega (arith, e)))

-- each value is typed, where the field is a text
null_mark-ascii : (bs : List ℕ) → is_null_mark bs ≡ true → (i : ℕ) → get_or bs i 0 < 128
null_mark-ascii [] e i = cc
null_mark-ascii (b ∷ []) e zero = omega (arith, eqb-true b 78 e)
null_mark-ascii (b ∷ []) e (suc i) = lit< tt
null_mark-ascii (b ∷ c ∷ rest) e zero = omega (arith, eqb-true b 92 (and-left _ _ e))
null_mark-ascii (b ∷ c ∷ rest) e (suc i) = null_mark-ascii (c ∷ rest) (and-right _ _ e) i

typed : (k : Kind) (field : List ℕ) → is_utf8 field ≡ true → IsTyped (or_null (field_value k field))
typed kind.Int field u = int-choice IsTyped field tt (λ e. bits-fit _ e)
typed kind.Text field u = text-choice IsTyped field tt (IsUtf8-from_is_utf8 field u) (λ rest e. IsUtf8-from_ascii rest (null_mark-ascii rest e))
typed kind.Flag field u = flag-choice IsTyped field tt (λ _. tt)

are-typed : (columns : List Column) (fields : List (List ℕ)) → list_all is_utf8 fields ≡ true → AllByRecursion IsTyped (row_in columns fields)
are-typed [] fields u = tt
are-typed (column ∷ columns) [] u = tt
are-typed (column ∷ columns) (field ∷ fields) u = (typed column.kind field (and-left _ _ u), are-typed columns fields (and-right _ _ u))

-- each text is short, where the row is
short-value : (value : Value) → length (value_bytes value) ≤ 65536 → IsShort value
short-value (Int x) h = tt
short-value (Text bytes) h = let parts = rw length-append at h in omega arith
short-value (Flag b) h = tt
short-value Null h = tt

short-parts : (row : Row) → length (flat_map value_bytes row) ≤ 65536 → AllByRecursion IsShort row
short-parts [] h = tt
short-parts (value ∷ row) h =
    let parts : length (value_bytes value) + length (flat_map value_bytes row) ≤ 65536 = rw length-append at h in
    (short-value value (omega arith), short-parts row (omega arith))

are-short : (row : Row) → length (row_spelling row).bytes ≤ 65536 → AllByRecursion IsShort row
unfolding row_spelling
are-short row h = let parts = rw length-append at h in short-parts row (omega arith)

-- no key is NULL, where none is refused
or-right : (a b : Bool) → b ≡ true → (a || b) ≡ true
or-right true b e = refl
or-right false b e = e

list_any-at : (f : ℕ → Bool) (xs : List ℕ) (k d : ℕ) → k < length xs → f (get_or xs k d) ≡ true → list_any f xs ≡ true
list_any-at f [] k d h e = absurd (omega arith)
list_any-at f (x ∷ xs) zero d h e = rw e refl
list_any-at f (x ∷ xs) (suc k) d h e = or-right (f x) _ (list_any-at f xs k d (omega arith) e)

null-value : (value : Value) → is_null value ≡ false → value ≢ Null
null-value value f e = cc (rw e at f)

none-if : (n k : Bool) (r : Refusal) (more : Option Refusal) → (if n && k then Some r else more) ≡ None → (k ≡ true → n ≡ false) × (more ≡ None)
none-if true true r more e = cc
none-if true false r more e = (λ k. cc, e)
none-if false k r more e = (λ _. refl, e)

no-null : (schema : Shape) (nth place : ℕ) (columns : List Column) (row : Row) → length row ≡ length columns → null_key schema nth place columns row ≡ None
    → (j p : ℕ) → j < length columns → p ≡ place + j → list_any (nat_eq p) schema.key ≡ true → value_at row j ≢ Null
no-null schema nth place [] row l e j p h q k = absurd (omega arith)
no-null schema nth place (column ∷ columns) [] l e j p h q k = cc
no-null schema nth place (column ∷ columns) (value ∷ row) l e zero p h q k =
    let same : p ≡ place = omega (arith, q) in
    null-value value ((none-if (is_null value) (list_any (nat_eq place) schema.key) (NullKey nth column.name) (null_key schema nth (place + 1) columns row) e).0 (rw same at k))
no-null schema nth place (column ∷ columns) (value ∷ row) l e (suc j) p h q k =
    no-null schema nth (place + 1) columns row (omega (arith, l)) (none-if (is_null value) (list_any (nat_eq place) schema.key) (NullKey nth column.name) (null_key schema nth (place + 1) columns row) e).1 j p (omega (arith, h)) (omega (arith, q)) k

keyed : (schema : Shape) (nth : ℕ) (row : Row) → IsSound schema → length row ≡ length schema.columns → null_key schema nth 0 schema.columns row ≡ None
    → All (λ place. value_at row place ≢ Null) schema.key
keyed schema nth row sound l e = λ k d h.
    no-null schema nth 0 schema.columns row l e (get_or schema.key k d) (get_or schema.key k d) (sound.key_placed k d h) (omega arith)
    (list_any-at (nat_eq (get_or schema.key k d)) schema.key k d h (eq-eqb _ _ refl))

all-from : {A : Type 0} (P : A → Type 0) (xs : List A) → AllByRecursion P xs → (k : ℕ) (d : A) → k < length xs → P (get_or xs k d)
all-from P [] h k d lt = absurd (omega arith)
all-from P (x ∷ xs) h zero d lt = h.0
all-from P (x ∷ xs) h (suc k) d lt = all-from P xs h.1 k d (omega arith)

-- a row that is not refused
record Passed (w t : Bool) (bad null long : Option Refusal) : Type 0 where
  width : w ≡ true
  text : t ≡ true
  keyed : null ≡ None
  short : long ≡ None

passed : (w t : Bool) (bad null long : Option Refusal) (a b : Refusal)
    → (if not w then Some a else if not t then Some b else option_or bad (option_or null long)) ≡ None → Passed w t bad null long
passed false t bad null long a b e = cc
passed true false bad null long a b e = cc
passed true true (Some r) null long a b e = cc
passed true true None (Some r) long a b e = cc
passed true true None None long a b e = record { width = refl; text = refl; keyed = refl; short = e }

not-long : (nth : ℕ) (row : Row) → long_row nth row ≡ None → length (row_spelling row).bytes ≤ 65536
not-long nth row e = elim (cases_Bool (nat_lt 65536 (length (row_spelling row).bytes))) [
  | inl t ↦ cc (rw t at e)
  | inr f ↦ ltb-false 65536 _ f
]

pub record IsKept (schema : Shape) (row : Row) : Type 0 where
  pub is_row : IsRow schema row
  pub short : length (row_spelling row).bytes ≤ 65536

pub row-kept : (schema : Shape) (nth : ℕ) (fields : List (List ℕ)) → IsSound schema → row_refusal schema nth fields ≡ None → IsKept schema (row_in schema.columns fields)
row-kept schema nth fields sound e =
    let row = row_in schema.columns fields in
    let p = passed (length fields == length schema.columns) (list_all is_utf8 fields) _ (null_key schema nth 0 schema.columns row) (long_row nth row) _ _ e in
    let width = eqb-true (length fields) (length schema.columns) p.width in
    let small = not-long nth row p.short in
    record {
      is_row = record {
        fits = record { kinds = have-kinds schema.columns fields width; keyed = keyed schema nth row sound (row_in-length schema.columns fields width) p.keyed };
        typed = all-from IsTyped row (are-typed schema.columns fields p.text);
        short = all-from IsShort row (are-short row small);
      };
      short = small;
    }

-- all rows of the records
record Rest (o : Option Refusal) (row : Row) (more : Result (List Row) Refusal) (rows : List Row) : Type 0 where
  rest : List Row
  none : o ≡ None
  more_is : more ≡ Ok rest
  rows_are : row ∷ rest ≡ rows

rest-of : (o : Option Refusal) (row : Row) (more : Result (List Row) Refusal) (rows : List Row) → unless_refused o (onto row more) ≡ Ok rows → Rest o row more rows
rest-of (Some r) row more rows e = cc
rest-of None row (Err r) rows e = cc
rest-of None row (Ok rest) rows e = record { rest = rest; none = refl; more_is = refl; rows_are = cc }

rows_from-kept : (schema : Shape) (nth : ℕ) (lines : List (List (List ℕ))) (rows : List Row) → IsSound schema → rows_from schema nth lines ≡ Ok rows
    → AllByRecursion (IsKept schema) rows
rows_from-kept schema nth [] rows sound e = let none : [] ≡ rows = cc in subst (AllByRecursion (IsKept schema)) none tt
rows_from-kept schema nth (fields ∷ lines) rows sound e =
    let r = rest-of (row_refusal schema nth fields) (row_in schema.columns fields) (rows_from schema (nth + 1) lines) rows e in
    subst (AllByRecursion (IsKept schema)) r.rows_are
    (row-kept schema nth fields sound r.none, rows_from-kept schema (nth + 1) lines r.rest sound r.more_is)

table-kept : (schema : Shape) (lines : List (List (List ℕ))) (rows : List Row) → IsSound schema → table_of schema lines ≡ Ok rows → AllByRecursion (IsKept schema) rows
table-kept schema [] rows sound e = cc
table-kept schema (header ∷ lines) rows sound e = elim (cases_Bool (pointwise (pointwise nat_eq) header (names schema.columns))) [
  | inl t ↦ rows_from-kept schema 1 lines rows sound (rw t at e)
  | inr f ↦ cc (rw f at e)
]

unless-bad : (long marked : Bool) (table : Result (List Row) Refusal) (rows : List Row)
    → (if long then Err LongFile else if marked then Err BadHeader else table) ≡ Ok rows → table ≡ Ok rows
unless-bad true marked table rows e = cc
unless-bad false true table rows e = cc
unless-bad false false table rows e = e

pub rows-kept : (schema : Shape) (bytes : List ℕ) (rows : List Row) → IsSound schema → rows_of schema bytes ≡ Ok rows → All (IsKept schema) rows
rows-kept schema bytes rows sound e =
    all-from (IsKept schema) rows
    (table-kept schema (records default_config (strip_bom bytes)) rows sound
    (unless-bad (nat_lt 67108864 (length bytes)) (begins_with_mark (strip_bom bytes)) _ rows e))

pub rows-are_rows : (schema : Shape) (bytes : List ℕ) (rows : List Row) → IsSound schema → rows_of schema bytes ≡ Ok rows → All (IsRow schema) rows
rows-are_rows schema bytes rows sound e = λ k d h. (rows-kept schema bytes rows sound e k d h).is_row

pub rows-short : (schema : Shape) (bytes : List ℕ) (rows : List Row) → IsSound schema → rows_of schema bytes ≡ Ok rows
    → All (λ row. length (row_spelling row).bytes ≤ 65536) rows
rows-short schema bytes rows sound e = λ k d h. (rows-kept schema bytes rows sound e k d h).short
