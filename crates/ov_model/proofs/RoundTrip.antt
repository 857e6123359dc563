-- The text of rows is read as these rows.
use Rattle.std.proofs.Common.{◌≡◌, ◌≢◌, ◌<◌, ◌≤◌, ◌+◌, ◌^◌, ◌++◌, ◌==◌, ◌&&◌, ◌||◌, ◌⊎◌, ◌∷◌, ◌∙◌, [], ℕ, List, Bool, Some, None, refl, sym, ap, subst, zero, suc, true, false, length, get_or, inl, inr, arith, rules, add-one, length-append, lit<, w64}
use Rattle.std.specs.Prelude.{ℤ, pos, negsuc, nat_eq, nat_lt, Ok, map, IsTrue, IsUtf8}
use lib.Utf8.{encode}
use Rattle.std.specs.Char.{digit_value}
use Rattle.std.specs.Int.{is_in_range}
use Rattle.std.specs.Cmp.Lexicographic.{pointwise, nat_list_eq_equiv}
use Rattle.std.specs.Fmt.{decimal, signed_decimal}
use Rattle.std.specs.Int.RustNames.{FitsSigned}
use Rattle.std.specs.List.{All, flat_map, list_all, list_any}
use Rattle.std.specs.Str.{is_utf8, chars}
use Rattle.std.specs.Str.Parse.{AllDigits, IsNumeral, digits_value}
use Rattle.std.proofs.lemmas.Bool.{cases_Bool, eqb-true, eq-eqb, ne_eqb, lt-ltb, le-ltb, leb-true}
use Rattle.std.proofs.lemmas.Fmt.{IsAscii-signed, decimal_is_IsNumeral}
use Rattle.std.proofs.lemmas.Str.{IsUtf8-from_ascii, is_utf8-from_IsUtf8}
use Rattle.std.proofs.lemmas.Str.Parse.{digit_from_value}
use Rattle.csv.specs.Machine.{next_record}
use Rattle.csv.specs.Reading.{default_config, records, records_from, strip_bom}
use Rattle.csv.specs.Writing.{default_writer, escaped, field_text, needs_byte, read_back, row_text}
use Rattle.csv.specs.declared.parser.State.TheVariants as st
use Rattle.csv.proofs.RoundTrip.{read-write}
use Rattle.ov_value.specs.declared.column.Column.{Column}
use Rattle.ov_value.specs.declared.column.Kind.{Kind}
use Rattle.ov_value.specs.declared.column.Kind.TheVariants as kind
use Rattle.ov_value.specs.declared.value.Value.{Value}
use Rattle.ov_value.specs.declared.value.Value.TheVariants.{Int, Text, Flag, Null}
use Rattle.ov_value.specs.Naming.{is_column_name, is_name, may_begin}
use Rattle.ov_value.specs.Rows.{HasKinds, IsOfKind, is_null, value_at}
use Rattle.ov_value.specs.Shapes.{IsSound, Shape, names}
use Rattle.ov_value.specs.Spelling.{IsRow, IsTyped, row_spelling}
use Rattle.ov_model.specs.Book.{Row}
use Rattle.ov_model.specs.Csv.{bad_field, begins_with_mark, field_of, field_value, fields_of, int_value, is_null_mark, is_numeral, null_key, row_in, row_refusal, rows_from, rows_of, table_of, text_field, text_of, text_value}

and-left : (a b : Bool) → (a && b) ≡ true → a ≡ true
and-left true b e = refl
and-left false b e = cc

and-right : (a b : Bool) → (a && b) ≡ true → b ≡ true
and-right true b e = e
and-right false b e = cc

both : (a b : Bool) → a ≡ true → b ≡ true → (a && b) ≡ true
both a b p q = rw (p, q) refl

-- ints

digits-true : (ds : List ℕ) → AllDigits 10 ds → list_all (λ c. nat_lt (digit_value c) 10) ds ≡ true
digits-true [] h = refl
digits-true (c ∷ cs) h = both _ _ (lt-ltb _ _ h.0) (digits-true cs h.1)

numeral-true : (ds : List ℕ) → IsNumeral 10 ds → is_numeral ds ≡ true
numeral-true [] h = absurd (omega (arith, h.0))
numeral-true (c ∷ cs) h = both _ _ (search rules) (digits-true (c ∷ cs) h.1)

digits-back : (ds : List ℕ) (n : ℕ) → IsNumeral 10 ds → digits_value 10 ds ≡ n → n < 2 ^ 63 → int_value ds ≡ Some (Int (pos n))
digits-back [] n h e small = absurd (omega (arith, h.0))
digits-back (c ∷ cs) n h e small =
    let range = digit_from_value c h.1.0 in
    let minus : (c == 45) ≡ false = ne_eqb c 45 (λ z. omega (arith, range.0, z)) in
    let plus : (c == 43) ≡ false = ne_eqb c 43 (λ z. omega (arith, range.0, z)) in
    rw (minus, plus, numeral-true (c ∷ cs) h, e, lt-ltb n (2 ^ 63) small) refl

minus-back : (ds : List ℕ) (n : ℕ) → IsNumeral 10 ds → digits_value 10 ds ≡ suc n → n < 2 ^ 63 → int_value (45 ∷ ds) ≡ Some (Int (negsuc n))
minus-back ds n h e small = rw (numeral-true ds h, e, lt-ltb n (2 ^ 63) small) refl

int-back : (z : ℤ) → FitsSigned w64 z → int_value (signed_decimal z) ≡ Some (Int z)
int-back (pos n) fits =
    let k = decimal_is_IsNumeral n (omega (arith, fits.sfits)) in
    digits-back (decimal n) n k.0 k.1 fits.sfits
int-back (negsuc n) fits =
    let k = decimal_is_IsNumeral (suc n) (omega (arith, fits.sfits)) in
    minus-back (decimal (suc n)) n k.0 k.1 fits.sfits

-- texts

not-one : (n : ℕ) → (suc (suc n) == 1) ≡ false
not-one n = ne_eqb (suc (suc n)) 1 (λ z. omega (arith, z))

marked-back : (b : ℕ) (bs : List ℕ) → (b == 92) ≡ true → is_null_mark bs ≡ true → text_value (92 ∷ b ∷ bs) ≡ Text (b ∷ bs)
marked-back b [] e m = cc m
marked-back b (c ∷ rest) e m = rw (e, m, not-one (length rest)) refl

text-back : (bs : List ℕ) → text_value (text_field bs) ≡ Text bs
text-back [] = refl
text-back (b ∷ bs) = elim (cases_Bool ((b == 92) && is_null_mark bs)) [
  | inl t ↦ rw t (marked-back b bs (and-left _ _ t) (and-right _ _ t))
  | inr f ↦ rw (f, f) refl
]

-- a field is read as the value that it was written for
field-back : (k : Kind) (value : Value) → IsOfKind value k → IsTyped value → field_value k (field_of k value) ≡ Some value
field-back kind.Int (Int z) h t = int-back z t
field-back kind.Int (Text bs) h t = absurd h
field-back kind.Int (Flag b) h t = absurd h
field-back kind.Int Null h t = refl
field-back kind.Text (Int z) h t = absurd h
field-back kind.Text (Text bs) h t = ap Some (text-back bs)
field-back kind.Text (Flag b) h t = absurd h
field-back kind.Text Null h t = refl
field-back kind.Flag (Int z) h t = absurd h
field-back kind.Flag (Text bs) h t = absurd h
field-back kind.Flag (Flag true) h t = refl
field-back kind.Flag (Flag false) h t = refl
field-back kind.Flag Null h t = refl

-- each field is UTF-8
null_mark-ascii : (bs : List ℕ) → is_null_mark bs ≡ true → (i : ℕ) → get_or bs i 0 < 128
null_mark-ascii [] e i = cc
null_mark-ascii (b ∷ []) e zero = omega (arith, eqb-true b 78 e)
null_mark-ascii (b ∷ []) e (suc i) = lit< tt
null_mark-ascii (b ∷ c ∷ rest) e zero = omega (arith, eqb-true b 92 (and-left _ _ e))
null_mark-ascii (b ∷ c ∷ rest) e (suc i) = null_mark-ascii (c ∷ rest) (and-right _ _ e) i

marked-ascii : (b : ℕ) (bs : List ℕ) → (b == 92) ≡ true → is_null_mark bs ≡ true → (i : ℕ) → get_or (92 ∷ b ∷ bs) i 0 < 128
marked-ascii b bs e m zero = lit< tt
marked-ascii b bs e m (suc zero) = omega (arith, eqb-true b 92 e)
marked-ascii b bs e m (suc (suc i)) = null_mark-ascii bs m i

text-utf8 : (bs : List ℕ) → IsUtf8 bs → is_utf8 (text_field bs) ≡ true
text-utf8 [] u = is_utf8-from_IsUtf8 [] u
text-utf8 (b ∷ bs) u = elim (cases_Bool ((b == 92) && is_null_mark bs)) [
  | inl t ↦ rw t (is_utf8-from_IsUtf8 _ (IsUtf8-from_ascii _ (marked-ascii b bs (and-left _ _ t) (and-right _ _ t))))
  | inr f ↦ rw f (is_utf8-from_IsUtf8 _ u)
]

field-utf8 : (k : Kind) (value : Value) → IsTyped value → is_utf8 (field_of k value) ≡ true
unfolding is_utf8 chars encode
field-utf8 k (Int z) t = is_utf8-from_IsUtf8 _ (IsUtf8-from_ascii _ (IsAscii-signed z t.sfits))
field-utf8 k (Text bs) t = text-utf8 bs t
field-utf8 k (Flag true) t = refl
field-utf8 k (Flag false) t = refl
field-utf8 kind.Int Null t = refl
field-utf8 kind.Text Null t = refl
field-utf8 kind.Flag Null t = refl

-- rows

-- what is known of a row and its columns
record Suits (columns : List Column) (row : Row) : Type 0 where
  kinds : HasKinds row columns
  typed : (k : ℕ) (d : Value) → k < length row → IsTyped (get_or row k d)

rest-typed : (value : Value) (row : Row) → ((k : ℕ) (d : Value) → k < length (value ∷ row) → IsTyped (get_or (value ∷ row) k d))
    → (k : ℕ) (d : Value) → k < length row → IsTyped (get_or row k d)
rest-typed value row t k d h = t (suc k) d (omega arith)

fields-length : (columns : List Column) (row : Row) → HasKinds row columns → length (fields_of columns row) ≡ length columns
fields-length [] [] h = refl
fields-length [] (value ∷ row) h = absurd h
fields-length (column ∷ columns) [] h = absurd h
fields-length (column ∷ columns) (value ∷ row) h = ap suc (fields-length columns row h.1)

fields-utf8 : (columns : List Column) (row : Row) → ((k : ℕ) (d : Value) → k < length row → IsTyped (get_or row k d))
    → list_all is_utf8 (fields_of columns row) ≡ true
fields-utf8 [] row t = refl
fields-utf8 (column ∷ columns) [] t = refl
fields-utf8 (column ∷ columns) (value ∷ row) t =
    both _ _ (field-utf8 column.kind value (t 0 Null (omega arith))) (fields-utf8 columns row (rest-typed value row t))

fields-good : (nth : ℕ) (columns : List Column) (row : Row) → HasKinds row columns → ((k : ℕ) (d : Value) → k < length row → IsTyped (get_or row k d))
    → bad_field nth columns (fields_of columns row) ≡ None
fields-good nth [] row h t = refl
fields-good nth (column ∷ columns) [] h t = refl
fields-good nth (column ∷ columns) (value ∷ row) h t =
    rw (field-back column.kind value h.0 (t 0 Null (omega arith))) (fields-good nth columns row h.1 (rest-typed value row t))

fields-back : (columns : List Column) (row : Row) → HasKinds row columns → ((k : ℕ) (d : Value) → k < length row → IsTyped (get_or row k d))
    → row_in columns (fields_of columns row) ≡ row
fields-back [] [] h t = refl
fields-back [] (value ∷ row) h t = absurd h
fields-back (column ∷ columns) [] h t = refl
fields-back (column ∷ columns) (value ∷ row) h t =
    rw (field-back column.kind value h.0 (t 0 Null (omega arith)), fields-back columns row h.1 (rest-typed value row t)) refl

-- no key of a row that fits is refused
among : (f : ℕ → Bool) (xs : List ℕ) → list_any f xs ≡ true → (k : ℕ) × (k < length xs) × (f (get_or xs k 0) ≡ true)
among f [] e = cc
among f (x ∷ xs) e = elim (cases_Bool (f x)) [
  | inl t ↦ (0, omega arith, t)
  | inr n ↦ let found = among f xs (rw n at e) in (suc found.0, omega (arith, found.1), found.2)
]

key-value : (schema : Shape) (row : Row) → All (λ place. value_at row place ≢ Null) schema.key
    → (p : ℕ) → list_any (nat_eq p) schema.key ≡ true → value_at row p ≢ Null
key-value schema row keyed p e =
    let found = among (nat_eq p) schema.key e in
    let same : p ≡ get_or schema.key found.0 0 = eqb-true p (get_or schema.key found.0 0) found.2 in
    subst (λ (q : ℕ). value_at row q ≢ Null) (sym same) (keyed found.0 0 found.1)

null-is : (value : Value) → is_null value ≡ true → value ≡ Null
null-is (Int z) e = cc
null-is (Text bs) e = cc
null-is (Flag b) e = cc
null-is Null e = refl

no-null : (schema : Shape) (nth place : ℕ) (columns : List Column) (row : Row)
    → ((j p : ℕ) → p ≡ place + j → list_any (nat_eq p) schema.key ≡ true → value_at row j ≢ Null)
    → null_key schema nth place columns row ≡ None
no-null schema nth place [] row h = refl
no-null schema nth place (column ∷ columns) [] h = refl
no-null schema nth place (column ∷ columns) (value ∷ row) h = elim (cases_Bool (is_null value && list_any (nat_eq place) schema.key)) [
  | inl t ↦ absurd (h 0 place (omega arith) (and-right _ _ t) (null-is value (and-left _ _ t)))
  | inr f ↦ rw f (no-null schema nth (place + 1) columns row (λ j p e k. h (suc j) p (omega (arith, e)) k))
]

row-back : (schema : Shape) (nth : ℕ) (row : Row) → IsRow schema row → length (row_spelling row).bytes ≤ 65536
    → row_refusal schema nth (fields_of schema.columns row) ≡ None
row-back schema nth row is small =
    let same = fields-back schema.columns row is.fits.kinds is.typed in
    let width = eq-eqb _ _ (fields-length schema.columns row is.fits.kinds) in
    let key = no-null schema nth 0 schema.columns row (λ j p e k. let q : p ≡ j = omega (arith, e) in key-value schema row is.fits.keyed j (rw q at k)) in
    rw (width, fields-utf8 schema.columns row is.typed, fields-good nth schema.columns row is.fits.kinds is.typed, same, key, le-ltb 65536 (length (row_spelling row).bytes) small) refl

-- all rows
rows-back : (schema : Shape) (nth : ℕ) (rows : List Row)
    → ((k : ℕ) (d : Row) → k < length rows → IsRow schema (get_or rows k d) × (length (row_spelling (get_or rows k d)).bytes ≤ 65536))
    → rows_from schema nth (map (fields_of schema.columns) rows) ≡ Ok rows
rows-back schema nth [] h = refl
rows-back schema nth (row ∷ rows) h =
    let here = h 0 [] (omega arith) in
    rw (
      row-back schema nth row here.0 here.1,
      fields-back schema.columns row here.0.fits.kinds here.0.typed,
      rows-back schema (nth + 1) rows (λ k d lt. h (suc k) d (omega arith)),
    ) refl

-- records

end-back : (n : ℕ) → 0 < n → records_from default_config n st.StartRecord [] ≡ []
unfolding records_from next_record
end-back zero h = absurd (omega arith)
end-back (suc n) h = refl

record-back : (n : ℕ) (fields : List (List ℕ)) (tail : List ℕ)
    → records_from default_config (suc n) st.StartRecord (row_text default_writer fields ++ tail) ≡ read_back fields ∷ records_from default_config n st.StartRecord tail
unfolding records_from
record-back n fields tail = rw (read-write fields tail) refl

row-fields : (columns : List Column) (row : Row) → 0 < length columns → HasKinds row columns → read_back (fields_of columns row) ≡ fields_of columns row
row-fields [] row h k = absurd (omega arith)
row-fields (column ∷ columns) [] h k = absurd k
row-fields (column ∷ columns) (value ∷ row) h k = refl

lines-back : (columns : List Column) (rows : List Row) (n : ℕ) → length rows < n → 0 < length columns
    → ((k : ℕ) (d : Row) → k < length rows → HasKinds (get_or rows k d) columns)
    → records_from default_config n st.StartRecord (flat_map (λ row. row_text default_writer (fields_of columns row)) rows) ≡ map (fields_of columns) rows
lines-back columns [] n h some k = end-back n h
lines-back columns (row ∷ rows) zero h some k = absurd (omega arith)
lines-back columns (row ∷ rows) (suc n) h some k =
    record-back n (fields_of columns row) _
    ∙ rw (row-fields columns row some (k 0 [] (omega arith)), lines-back columns rows n (omega arith) some (λ j d lt. k (suc j) d (omega arith))) refl

-- a line has a byte at least, so the turns are enough
line-long : (fields : List (List ℕ)) → 0 < length (row_text default_writer fields)
line-long fields = rw length-append (omega (arith, length-append {A = ℕ}))

lines-long : (columns : List Column) (rows : List Row) → length rows ≤ length (flat_map (λ row. row_text default_writer (fields_of columns row)) rows)
lines-long columns [] = omega arith
lines-long columns (row ∷ rows) =
    rw length-append (omega (arith, line-long (fields_of columns row), lines-long columns rows))

-- the header

names-same : (names : List (List ℕ)) → pointwise (pointwise nat_eq) names names ≡ true
names-same [] = refl
names-same (name ∷ rest) = both _ _ (nat_list_eq_equiv.refl name) (names-same rest)

names-back : (columns : List Column) → 0 < length columns → read_back (names columns) ≡ names columns
names-back [] h = absurd (omega arith)
names-back (column ∷ columns) h = refl

-- the first byte of a text that begins with a name's field
record Plain (text : List ℕ) : Type 0 where
  first : ℕ
  rest : List ℕ
  is : text ≡ first ∷ rest
  low : first < 128

one-of : (a b : Bool) → (a || b) ≡ true → (a ≡ true) ⊎ (b ≡ true)
one-of true b e = inl refl
one-of false b e = inr e

range-high : (low high c : ℕ) → is_in_range low high c ≡ true → c ≤ high
range-high low high c e = leb-true c high (and-right _ _ e)

letter-low : (c : ℕ) → may_begin c ≡ true → c < 128
letter-low c e = elim (one-of (is_in_range 65 90 c || is_in_range 97 122 c) (c == 95) e) [
  | inl letter ↦ elim (one-of (is_in_range 65 90 c) (is_in_range 97 122 c) letter) [
    | inl upper ↦ omega (arith, range-high 65 90 c upper)
    | inr lower ↦ omega (arith, range-high 97 122 c lower)
  ]
  | inr line ↦ omega (arith, eqb-true c 95 line)
]

name-plain : (name : List ℕ) → is_column_name name ≡ true → Plain (field_text default_writer name)
unfolding is_column_name is_name
name-plain [] e = cc
name-plain (c ∷ cs) e = elim (cases_Bool (list_any (needs_byte default_writer) (c ∷ cs))) [
  | inl t ↦ record { first = 34; rest = escaped default_writer (c ∷ cs) ++ 34 ∷ []; is = rw t refl; low = lit< tt }
  | inr f ↦ record { first = c; rest = cs; is = rw f refl; low = letter-low c (and-left _ _ (and-left _ _ e)) }
]

plain-more : (text more : List ℕ) → Plain text → Plain (text ++ more)
plain-more text more p = record { first = p.first; rest = p.rest ++ more; is = rw p.is refl; low = p.low }

columns-plain : (columns : List Column) (more : List ℕ) → 0 < length columns → (0 < length (names columns) → IsTrue (is_column_name (get_or (names columns) 0 []))) → Plain (row_text default_writer (names columns) ++ more)
columns-plain [] more some good = absurd (omega arith)
columns-plain (column ∷ columns) more some good =
    plain-more _ more (plain-more _ _ (plain-more _ _ (name-plain column.name (good (omega arith)))))

header-plain : (schema : Shape) (more : List ℕ) → IsSound schema → Plain (row_text default_writer (names schema.columns) ++ more)
header-plain schema more sound = columns-plain schema.columns more sound.some_column (sound.named 0 [])

-- a mark of byte order begins with no such byte
no-mark : (first : ℕ) → first < 128 → (first == 239) ≡ false
no-mark first low = ne_eqb first 239 (λ e. omega (arith, e, low))

strip-plain : (first : ℕ) (rest : List ℕ) → first < 128 → strip_bom (first ∷ rest) ≡ first ∷ rest
unfolding strip_bom
strip-plain first [] low = refl
strip-plain first (x ∷ []) low = refl
strip-plain first (x ∷ y ∷ rest) low = rw (no-mark first low) refl

begins-plain : (first : ℕ) (rest : List ℕ) → first < 128 → begins_with_mark (first ∷ rest) ≡ false
begins-plain first rest low = rw (no-mark first low) refl

-- together
table-back : (schema : Shape) (rows : List Row) → IsSound schema
    → ((k : ℕ) (d : Row) → k < length rows → IsRow schema (get_or rows k d) × (length (row_spelling (get_or rows k d)).bytes ≤ 65536))
    → table_of schema (records default_config (text_of schema rows)) ≡ Ok rows
table-back schema rows sound h =
    let some = sound.some_column in
    let tail : List ℕ = flat_map (λ row. row_text default_writer (fields_of schema.columns row)) rows in
    let n : ℕ = length (text_of schema rows) in
    let size : length rows < n =
    let whole = length-append (row_text default_writer (names schema.columns)) tail in
    omega (arith, whole, line-long (names schema.columns), lines-long schema.columns rows)
    in
    let lines : records_from default_config (suc n) st.StartRecord (text_of schema rows) ≡ names schema.columns ∷ map (fields_of schema.columns) rows =
    record-back n (names schema.columns) tail
    ∙ rw (names-back schema.columns some, lines-back schema.columns rows n size some (λ k d lt. (h k d lt).0.fits.kinds)) refl in
    rw (add-one, lines, names-same (names schema.columns)) (rows-back schema 1 rows h)

text-back-whole : (schema : Shape) (text : List ℕ) (rows : List Row) → Plain text → length text ≤ 67108864
    → table_of schema (records default_config text) ≡ Ok rows → rows_of schema text ≡ Ok rows
text-back-whole schema text rows p small t =
    let same : strip_bom text ≡ text = rw p.is (strip-plain p.first p.rest p.low) in
    let plain : begins_with_mark text ≡ false = rw p.is (begins-plain p.first p.rest p.low) in
    rw (le-ltb 67108864 (length text) small, same, plain) t

pub what_is_written-back : (schema : Shape) (rows : List Row) → IsSound schema → All (IsRow schema) rows
    → All (λ row. length (row_spelling row).bytes ≤ 65536) rows → length (text_of schema rows) ≤ 67108864 → rows_of schema (text_of schema rows) ≡ Ok rows
what_is_written-back schema rows sound are short small =
    text-back-whole schema (text_of schema rows) rows (header-plain schema _ sound) small
    (table-back schema rows sound (λ k d lt. (are k d lt, short k d lt)))
