-- Bytes that are as the plan says are those of a row without NULLs.
use Rattle.std.proofs.Common.{◌≡◌, ◌<◌, ◌≤◌, ◌+◌, ℕ, suc, List, [], ◌∷◌, length, drop, refl, sym, ◌∙◌, ap, subst, arith}
use Rattle.std.proofs.lemmas.List.{drop-drop, length-drop, nil_from_length}
use Rattle.ov_value.specs.declared.column.Column.{Column}
use Rattle.ov_value.specs.declared.column.Kind.{Kind}
use Rattle.ov_value.specs.declared.column.Kind.TheVariants as kind
use Rattle.ov_value.specs.declared.plan.Gap.{Gap}
use Rattle.ov_value.specs.declared.value.Value.{Value}
use Rattle.ov_value.specs.Spelling.{kept}
use Rattle.ov_value.specs.Reading.{Begins}
use Rattle.ov_value.specs.Decoding.{decoded, front_value, front_rest, text_len, CanRead}
use Rattle.ov_value.specs.Plans.{gaps_of, gaps_with, tail_of, tail_with, StandsBehind, Walks}
use Rattle.ov_value.proofs.LowBytes.{AreBytes, drop_fits}
use Rattle.ov_value.proofs.Found.{int_found}
use Rattle.ov_value.proofs.Decoded.{Joined, can_read, joined, lies_decoded, nothing_left, plain_step}

-- a text or a flag behind eight bytes more
moved : (k : Kind) (n : ℕ) (bytes : List ℕ) (others : List ℕ → Type 0) → StandsBehind (record { before = n + 8; kind = k }) bytes → others (front_rest k (drop (n + 8) bytes))
    → (8 ≤ length bytes) × (StandsBehind (record { before = n; kind = k }) (drop 8 bytes)) × others (front_rest k (drop n (drop 8 bytes)))
moved k n bytes others stands rest =
    let sum : 8 + n ≡ n + 8 = omega arith in
    let same : drop (n + 8) bytes ≡ drop n (drop 8 bytes) = ap (λ m. drop m bytes) (sym sum) ∙ sym (drop-drop n 8 bytes) in (
      omega (arith, stands.low),
      record {
        low = omega (arith, stands.low, length-drop 8 bytes);
        begins = subst (λ (l : List ℕ). Begins k l (front_value k l) (front_rest k l)) same stands.begins;
      },
      subst (λ (l : List ℕ). others (front_rest k l)) same rest,
    )

-- eight bytes of an int in front
int_more : (columns : List Column) (n : ℕ) (bytes : List ℕ) → Walks (gaps_of columns (n + 8)) (tail_of columns (n + 8)) bytes → (8 ≤ length bytes) × Walks (gaps_of columns n) (tail_of columns n) (drop 8 bytes)
int_more [] n bytes walks = (omega (arith, walks), omega (arith, walks, length-drop 8 bytes))
int_more (column ∷ columns) n bytes walks = by (int_more columns (n + 8) bytes) column.kind walks
  where
    by : (Walks (gaps_of columns (n + 8 + 8)) (tail_of columns (n + 8 + 8)) bytes → (8 ≤ length bytes) × Walks (gaps_of columns (n + 8)) (tail_of columns (n + 8)) (drop 8 bytes))
        → (k : Kind) → Walks (gaps_with k (n + 8) (gaps_of columns)) (tail_with k (n + 8) (tail_of columns)) bytes
        → (8 ≤ length bytes) × Walks (gaps_with k n (gaps_of columns)) (tail_with k n (tail_of columns)) (drop 8 bytes)
    by more kind.Int w = more w
    by more kind.Text w = let m = moved kind.Text n bytes (Walks (gaps_of columns 0) (tail_of columns 0)) w.0 w.1 in (m.0, (m.1, m.2))
    by more kind.Flag w = let m = moved kind.Flag n bytes (Walks (gaps_of columns 0) (tail_of columns 0)) w.0 w.1 in (m.0, (m.1, m.2))

pub record Full (columns : List Column) (bytes : List ℕ) : Type 0 where
  pub can : CanRead columns 0 bytes
  pub kept_are : length columns ≡ length (kept (decoded columns 0 bytes))

full_more : (column : Column) (columns : List Column) (bytes : List ℕ) (v : Value) (rest : List ℕ) → 0 < length bytes → Begins column.kind bytes v rest → Full columns rest → Full (column ∷ columns) bytes
full_more column columns bytes v rest more begins full =
    let tail : List Value = decoded columns 0 rest in
    let j : Joined column columns 0 bytes v tail = joined column columns 0 bytes v rest tail more (plain_step column.kind 0 bytes v rest refl more begins) full.can in
    let count : length (kept (decoded (column ∷ columns) 0 bytes)) ≡ suc (length (kept tail)) = ap (λ (l : List Value). length (kept l)) (sym (lies_decoded (column ∷ columns) 0 bytes (v ∷ tail) j.lies)) ∙ ap length j.kept_is in
    record { can = can_read (column ∷ columns) 0 bytes (v ∷ tail) j.lies; kept_are = ap suc full.kept_are ∙ sym count }

pub planned : (columns : List Column) (bytes : List ℕ) → AreBytes bytes → Walks (gaps_of columns 0) (tail_of columns 0) bytes → Full columns bytes
planned [] bytes fits walks =
    let none : bytes ≡ [] = nil_from_length bytes walks in
    record { can = subst (λ (l : List ℕ). CanRead [] 0 l) (sym none) (nothing_left []).0; kept_are = refl }
planned (column ∷ columns) bytes fits walks = by (planned columns) column.kind refl walks
  where
    by : ((rest : List ℕ) → AreBytes rest → Walks (gaps_of columns 0) (tail_of columns 0) rest → Full columns rest) → (k : Kind) → column.kind ≡ k → Walks (gaps_with k 0 (gaps_of columns)) (tail_with k 0 (tail_of columns)) bytes → Full (column ∷ columns) bytes
    by others kind.Int is w =
        let more = int_more columns 0 bytes w in
        full_more column columns bytes (front_value kind.Int bytes) (drop 8 bytes) (omega (arith, more.0)) (subst (λ k. Begins k bytes (front_value kind.Int bytes) (drop 8 bytes)) (sym is) (int_found bytes fits more.0))
        (others (drop 8 bytes) (drop_fits 8 bytes fits) more.1)
    by others kind.Text is w =
        full_more column columns bytes (front_value kind.Text bytes) (front_rest kind.Text bytes) w.0.low (subst (λ k. Begins k bytes (front_value kind.Text bytes) (front_rest kind.Text bytes)) (sym is) w.0.begins)
        (others (front_rest kind.Text bytes) (drop_fits (text_len bytes) (drop 4 bytes) (drop_fits 4 bytes fits)) w.1)
    by others kind.Flag is w =
        full_more column columns bytes (front_value kind.Flag bytes) (front_rest kind.Flag bytes) w.0.low (subst (λ k. Begins k bytes (front_value kind.Flag bytes) (front_rest kind.Flag bytes)) (sym is) w.0.begins)
        (others (front_rest kind.Flag bytes) (drop_fits 1 bytes fits) w.1)

-- ---- a walk so far, and the plan of the columns so far

pub next_gap : (gaps : List Gap) (i : ℕ) (gap : Gap) → drop i gaps ≡ gap ∷ drop (i + 1) gaps → (tail : ℕ) (bytes rest : List ℕ) → StandsBehind gap bytes → rest ≡ front_rest gap.kind (drop gap.before bytes)
    → Walks (drop (i + 1) gaps) tail rest → Walks (drop i gaps) tail bytes
next_gap gaps i gap is tail bytes rest stands rest_is walks =
    subst (λ (l : List Gap). Walks l tail bytes) (sym is) (stands, subst (Walks (drop (i + 1) gaps) tail) rest_is walks)
