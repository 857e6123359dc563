-- What rows of generated versions have.
use Rattle.std.proofs.Common.{◌≡◌, ◌≢◌, true, int_lt, IsUtf8, ℕ, zero, suc, ◌+◌, ◌<◌, ◌≤◌, ◌^◌, List, [], ◌∷◌, ◌++◌, length, codes, pos, refl, arith, rules, length-append}
use Rattle.std.specs.Fmt.{decimal}
use Rattle.std.specs.Int.{w64}
use Rattle.std.specs.Int.RustNames.{FitsSigned}
use Rattle.std.specs.List.{All, AllByRecursion}
use Rattle.std.specs.List.Sorted.{IsStrictlySortedBy}
use Rattle.std.specs.declared.cmp.Ordering.TheVariants.{Less}
use Rattle.std.proofs.lemmas.Fmt.{length-decimal-le, IsAscii-decimal}
use Rattle.std.proofs.lemmas.Str.{IsUtf8-from_ascii}
use Rattle.std.proofs.lemmas.List.Elements.{All-nil, All-cons}
use Rattle.ov_value.specs.declared.value.Value.{Value}
use Rattle.ov_value.specs.declared.value.Value.TheVariants.{Int, Text, Null}
use Rattle.ov_value.specs.Rows.{key_cmp, value_at}
use Rattle.ov_value.specs.Spelling.{IsRow, IsTyped, row_spelling}
use Rattle.ov_value.specs.Spelling as spelling
use Rattle.ov_model.specs.Book.{Row}
use Rattle.ov_model.specs.Generator.{generated_schema}
use Rattle.ov_gen.specs.Versions.{IsRowOf, Ascend, Begin, IsShort}

abbrev the_row : ℕ → ℕ → ℕ → Row
the_row id a b = Int (pos id) ∷ Int (pos a) ∷ Text (codes "t" ++ decimal b) ∷ []

label-short : (n : ℕ) → n < 100 → length (codes "t" ++ decimal n) ≤ 65000
label-short n small = let h = length-decimal-le 2 n (omega arith) (omega arith) (omega arith) in omega (arith, h)

label-end : (n : ℕ) → n < 100 → length (decimal n ++ []) ≤ 65000
label-end n small = let h = length-decimal-le 2 n (omega arith) (omega arith) (omega arith) in rw (length-append (decimal n) []) (omega (arith, h))

label-utf8 : (n : ℕ) → n < 100 → IsUtf8 (codes "t" ++ decimal n)
label-utf8 n small = IsUtf8-from_ascii (codes "t" ++ decimal n) (search (rules, IsAscii-decimal))

-- the order of two rows is that of their ids
row-less : (i j : ℕ) (x y : Row) → i < j → IsRowOf i x → IsRowOf j y → key_cmp generated_schema x y ≡ Less
row-less i j x y less r s = let e : int_lt (pos i) (pos j) ≡ true = grind arith in rw (r.is, s.is) (rw e refl)

three : (P : Value → Type 0) (x y z : Value) → P x → P y → P z → All P (x ∷ y ∷ z ∷ [])
three P x y z p q r = All-cons P x (y ∷ z ∷ []) p (All-cons P y (z ∷ []) q (All-cons P z [] r (All-nil P)))

row-fits : (id : ℕ) (row : Row) → id < 2 ^ 63 → IsRowOf id row → IsRow generated_schema row
row-fits id row small r =
    let short : length (codes "t" ++ decimal r.label) ≤ 65000 = label-short r.label r.label_small in
    let utf8 : IsUtf8 (codes "t" ++ decimal r.label) = label-utf8 r.label r.label_small in
    let id_fits : FitsSigned w64 (pos id) = grind arith in
    let number_fits : FitsSigned w64 (pos r.number) = let small : r.number < 1000 = r.number_small in grind arith in
    let text_short : length (codes "t" ++ decimal r.label) < 2 ^ 32 = omega (arith, short) in
    rw r.is (record {
      fits = record { kinds = (tt, (tt, (tt, tt))); keyed = All-cons (λ place. value_at (the_row id r.number r.label) place ≢ Null) 0 [] (λ e. cc) (All-nil (λ place. value_at (the_row id r.number r.label) place ≢ Null)) };
      typed = three IsTyped (Int (pos id)) (Int (pos r.number)) (Text (codes "t" ++ decimal r.label)) id_fits number_fits utf8;
      short = three spelling.IsShort (Int (pos id)) (Int (pos r.number)) (Text (codes "t" ++ decimal r.label)) tt tt text_short;
    })

row-short : (id : ℕ) (row : Row) → IsRowOf id row → IsShort row
unfolding row_spelling
row-short id row r = let short = label-end r.label r.label_small in rw r.is (omega (arith, short))

-- lists of them
later-above : (i id end : ℕ) (x : Row) (rows : List Row) → i < id → IsRowOf i x → Ascend id end rows → AllByRecursion (λ y. key_cmp generated_schema x y ≡ Less) rows
later-above i id end x [] less r are = _
later-above i id end x (row ∷ rows) less r (n, from, below, f, rest) =
    (row-less i n x row (omega arith) r f, later-above i (n + 1) end x rows (omega arith) r rest)

begin-above : (i count id end : ℕ) (x : Row) (rows : List Row) → i < id → IsRowOf i x → Begin count id end rows → AllByRecursion (λ y. key_cmp generated_schema x y ≡ Less) rows
begin-above i zero id end x rows less r are = later-above i id end x rows less r are
begin-above i (suc count) id end x [] less r are = elim are [ ]
begin-above i (suc count) id end x (row ∷ rows) less r (f, rest) =
    (row-less i id x row less r f, begin-above i count (id + 1) end x rows (omega arith) r rest)

later-ordered : (id end : ℕ) (rows : List Row) → Ascend id end rows → IsStrictlySortedBy (key_cmp generated_schema) rows
unfolding IsStrictlySortedBy
later-ordered id end [] are = _
later-ordered id end (row ∷ rows) (n, from, below, f, rest) = (later-above n (n + 1) end row rows (omega arith) f rest, later-ordered (n + 1) end rows rest)

pub begin-ordered : (count id end : ℕ) (rows : List Row) → Begin count id end rows → IsStrictlySortedBy (key_cmp generated_schema) rows
unfolding IsStrictlySortedBy
begin-ordered zero id end rows are = later-ordered id end rows are
begin-ordered (suc count) id end [] are = elim are [ ]
begin-ordered (suc count) id end (row ∷ rows) (f, rest) = (begin-above id count (id + 1) end row rows (omega arith) f rest, begin-ordered count (id + 1) end rows rest)

later-all : (P : Row → Type 0) (id end most : ℕ) → end ≤ most → ((n : ℕ) (row : Row) → n < most → IsRowOf n row → P row) → (rows : List Row) → Ascend id end rows → All P rows
later-all P id end most within each [] are = All-nil P
later-all P id end most within each (row ∷ rows) (n, from, below, f, rest) =
    All-cons P row rows (each n row (omega arith) f) (later-all P (n + 1) end most within each rows rest)

begin-all : (P : Row → Type 0) (count id end most : ℕ) → end ≤ most → id + count ≤ most → ((n : ℕ) (row : Row) → n < most → IsRowOf n row → P row) → (rows : List Row) → Begin count id end rows → All P rows
begin-all P zero id end most within first each rows are = later-all P id end most within each rows are
begin-all P (suc count) id end most within first each [] are = elim are [ ]
begin-all P (suc count) id end most within first each (row ∷ rows) (f, rest) =
    All-cons P row rows (each id row (omega arith) f) (begin-all P count (id + 1) end most within (omega arith) each rows rest)

pub begin-fits : (count id end : ℕ) (rows : List Row) → end ≤ 2 ^ 63 → id + count ≤ 2 ^ 63 → Begin count id end rows → All (IsRow generated_schema) rows
begin-fits count id end rows within first are = begin-all (IsRow generated_schema) count id end (2 ^ 63) within first (λ n row small f. row-fits n row small f) rows are

pub begin-short : (count id end : ℕ) (rows : List Row) → end ≤ 2 ^ 63 → id + count ≤ 2 ^ 63 → Begin count id end rows → All IsShort rows
begin-short count id end rows within first are = begin-all IsShort count id end (2 ^ 63) within first (λ n row small f. row-short n row f) rows are
