-- Names are short texts, so a sound schema has a spelling.
use Rattle.std.proofs.Common.{◌≡◌, ◌≤◌, ◌<◌, ◌||◌, ◌&&◌, ℕ, zero, suc, Bool, true, false, List, [], ◌∷◌, length, get_or, nat_eq, refl, sym, subst, arith}
use Rattle.std.specs.Prelude.{nat_le, IsTrue}
use Rattle.std.specs.List.{All, AllByRecursion, list_all, list_any}
use Rattle.std.proofs.lemmas.Bool.{leb-true, eqb-true}
use Rattle.std.proofs.lemmas.Bool.Decides.{nat_tests}
use Rattle.std.proofs.lemmas.List.Elements.{All-head, All-tail}
use Rattle.std.proofs.lemmas.Map.Steps.{length-le_from_distinct_below}
use Rattle.std.proofs.lemmas.Str.{IsUtf8-from_ascii}
use Rattle.ov_value.specs.declared.column.Column.{Column}
use Rattle.ov_value.specs.Naming.{may_begin, may_follow, is_name, is_column_name}
use Rattle.ov_value.specs.Shapes.{Shape, IsSound, names}
use Rattle.ov_event.specs.Fields.{IsText, IsU8}
use Rattle.ov_event.specs.Spelling.{IsColumn, IsSchema}
use Rattle.law_image.proofs.Readers.{both_true}
use Rattle.law_snapshots.specs.Whole.{spelled}

begins_low : (b : ℕ) → may_begin b ≡ true → b < 128
begins_low b e = grind (arith, nat_tests)

follows_low : (b : ℕ) → may_follow b ≡ true → b < 128
follows_low b e = grind (arith, nat_tests)

all_low : (bs : List ℕ) → list_all may_follow bs ≡ true → (i : ℕ) → get_or bs i 0 < 128
all_low [] e i = omega arith
all_low (b ∷ bs) e zero = follows_low b (both_true (may_follow b) (list_all may_follow bs) e).0
all_low (b ∷ bs) e (suc i) = all_low bs (both_true (may_follow b) (list_all may_follow bs) e).1 i

pub name_text : (n : List ℕ) → is_name n ≡ true → IsText n
unfolding is_name
name_text [] e = absurd cc
name_text (b ∷ bs) e =
    let first = both_true (may_begin b) (list_all may_follow bs && nat_le (length bs) 62) e
    in let rest = both_true (list_all may_follow bs) (nat_le (length bs) 62) first.1
    in (IsUtf8-from_ascii (b ∷ bs) (low first.0 rest.0), omega (arith, leb-true (length bs) 62 rest.1))
  where
    low : may_begin b ≡ true → list_all may_follow bs ≡ true → (i : ℕ) → get_or (b ∷ bs) i 0 < 128
    low here there zero = begins_low b here
    low here there (suc i) = all_low bs there i

column_text : (n : List ℕ) → is_column_name n ≡ true → IsText n
unfolding is_column_name
column_text n e = name_text n (both_true (is_name n) _ e).0

columns_texts : (columns : List Column) → All (λ name. IsTrue (is_column_name name)) (names columns) → AllByRecursion IsColumn columns
columns_texts [] all = tt
columns_texts (column ∷ columns) all = (
  column_text column.name (All-head (λ name. IsTrue (is_column_name name)) column.name (names columns) all),
  columns_texts columns (All-tail (λ name. IsTrue (is_column_name name)) column.name (names columns) all),
)

below_of : (count : ℕ) (key : List ℕ) (q : ℕ) → All (λ place. place < count) key → list_any (nat_eq q) key ≡ true → q < count
below_of count [] q all e = absurd cc
below_of count (place ∷ key) q all e = at (nat_eq q place) refl e (below_of count key q (All-tail (λ p. p < count) place key all))
  where
    at : (b : Bool) → nat_eq q place ≡ b → (b || list_any (nat_eq q) key) ≡ true → (list_any (nat_eq q) key ≡ true → q < count) → q < count
    at true same here rest = subst (λ p. p < count) (sym (eqb-true q place same)) (All-head (λ p. p < count) place key all)
    at false same there rest = rest there

places_low : (count : ℕ) (key : List ℕ) → count ≤ 64 → All (λ place. place < count) key → AllByRecursion IsU8 key
places_low count [] few all = tt
places_low count (place ∷ key) few all =
    (omega (arith, few, All-head (λ p. p < count) place key all), places_low count key few (All-tail (λ p. p < count) place key all))

pub schema_spelled : (schema : Shape) → IsSound schema → IsSchema (spelled schema)
schema_spelled schema sound =
    let keys : length schema.key ≤ length schema.columns =
    length-le_from_distinct_below schema.key (length schema.columns) sound.key_once (λ q e. below_of (length schema.columns) schema.key q sound.key_placed e)
    in (
      (omega (arith, sound.few_columns), columns_texts schema.columns sound.named),
      (omega (arith, keys, sound.few_columns), places_low (length schema.columns) schema.key sound.few_columns sound.key_placed),
    )
