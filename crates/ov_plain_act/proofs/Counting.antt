-- A checkout of few versions of few rows gives few rows.
use Rattle.std.proofs.Common.{◌≡◌, ℕ, zero, suc, ◌-◌, ◌*◌, ◌^◌, ◌<◌, ◌≤◌, List, [], ◌∷◌, ◌++◌, length, map, refl, ◌∙◌, ap, inl, inr, arith}
use Rattle.std.proofs.lemmas.Bool.{cases_Bool}
use Rattle.std.proofs.lemmas.List.{length-append}
use Rattle.std.specs.Prelude.{slice_index_or}
use Rattle.std.specs.List.{flat_map}
use Rattle.std.specs.Ordering.{is_lt}
use Rattle.ov_value.specs.Rows.{key_cmp}
use Rattle.ov_value.specs.Shapes.{Shape}
use Rattle.ov_model.specs.Act.{rows_listed, merge_of}
use Rattle.ov_model.specs.Book.{Row, Version, Cvd}
use Rattle.ov_model.specs.Merge.{has_key, firsts, placed, in_key_order}
use Rattle.ov_model.specs.Records.{rows_at}
use Rattle.ov_plain_act.specs.Small.{HaveFewRows}

placed_long : (schema : Shape) (row : Row) (rows : List Row) → length (placed schema row rows) ≡ suc (length rows)
placed_long schema row [] = refl
placed_long schema row (r ∷ rows) =
    elim (cases_Bool (is_lt (key_cmp schema row r))) [
      | inl e ↦ rw e refl
      | inr e ↦ rw e (ap (λ n. suc n) (placed_long schema row rows))
    ]

pub sorted_long : (schema : Shape) (rows : List Row) → length (in_key_order schema rows) ≡ length rows
sorted_long schema [] = refl
sorted_long schema (row ∷ rows) = placed_long schema row (in_key_order schema rows) ∙ ap (λ n. suc n) (sorted_long schema rows)

firsts_few : (schema : Shape) (seen rows : List Row) → length (firsts schema seen rows) ≤ length rows
firsts_few schema seen [] = omega arith
firsts_few schema seen (row ∷ rows) =
    let later : length (firsts schema (seen ++ row ∷ []) rows) ≤ length rows = firsts_few schema (seen ++ row ∷ []) rows
    in elim (cases_Bool (has_key schema seen row)) [
      | inl e ↦ rw e (omega (arith, later))
      | inr e ↦ rw e (omega (arith, later))
    ]

few_at : (versions : List Version) (k : ℕ) → HaveFewRows versions → length (slice_index_or (map (λ (v : Version). v.rows) versions) k []) ≤ 65535
few_at [] k few = omega arith
few_at (v ∷ versions) zero few = few.0
few_at (v ∷ versions) (suc k) few = few_at versions k few.1

listed_few : (versions : List Version) (vids : List ℕ) → HaveFewRows versions → length (flat_map (λ (rows : List Row). rows) (rows_listed versions vids)) ≤ length vids * 65535
listed_few versions [] few = omega arith
listed_few versions (vid ∷ vids) few =
    let later : length (flat_map (λ (rows : List Row). rows) (rows_listed versions vids)) ≤ length vids * 65535 = listed_few versions vids few
    in let own : length (rows_at versions vid) ≤ 65535 = few_at versions (vid - 1) few
    in rw (length-append (rows_at versions vid) (flat_map (λ (rows : List Row). rows) (rows_listed versions vids))) (omega (arith, later, own))

-- a checkout gives fewer than 2^32 rows
pub merge_few : (cvd : Cvd) (vids : List ℕ) → HaveFewRows cvd.versions → length vids ≤ 65535 → length (merge_of cvd vids) < 2 ^ 32
merge_few cvd vids rows few =
    let all : List Row = flat_map (λ (list : List Row). list) (rows_listed cvd.versions vids)
    in let sorted : length (merge_of cvd vids) ≡ length (firsts cvd.schema [] all) = sorted_long cvd.schema (firsts cvd.schema [] all)
    in let first : length (firsts cvd.schema [] all) ≤ length all = firsts_few cvd.schema [] all
    in let listed : length all ≤ length vids * 65535 = listed_few cvd.versions vids rows
    in omega (arith, sorted, first, listed, few)
