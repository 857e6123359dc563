-- Rows of a generated version, one after the other.
use Rattle.std.proofs.Common.{◌≡◌, ◌≤◌, ◌<◌, ◌+◌, ◌-◌, ◌^◌, ◌⊎◌, inl, inr, ℕ, suc, List, [], ◌∷◌, length, drop, drop-cons, length-drop, get_or, pos, refl, sym, ◌∙◌, ap, subst, arith}
use Rattle.ov_value.specs.declared.value.Value.TheVariants.{Int, Null}
use Rattle.ov_gen.specs.Versions.{Ascend, Begin, IsRowOf}
use Rattle.ov_model.specs.Book.{Row}
use Rattle.ov_generate.specs.Rows.{IsNextRow}

-- what is left to be asked of rows whose next one may have the id `next`
abbrev pub Rest : ℕ → ℕ → ℕ → List Row → Type 0
Rest count next end rows = Begin (count + 1 - next) next end rows

int_same : (n m : ℕ) → Int (pos n) ≡ Int (pos m) → n ≡ m
int_same n m e = cc

-- a row has one id
pub one_id : (n m : ℕ) (row : Row) → IsRowOf n row → IsRowOf m row → n ≡ m
one_id n m row r q = int_same n m (ap (λ (l : Row). get_or l 0 Null) (sym r.is ∙ q.is))

rest_later : (count next end : ℕ) (rows : List Row) → count < next → Rest count next end rows ≡ Ascend next end rows
rest_later count next end rows past = let none : count + 1 - next ≡ 0 = omega (arith, past) in ap (λ n. Begin n next end rows) none

rest_first : (count next end : ℕ) (row : Row) (rows : List Row) → next ≤ count
    → Rest count next end (row ∷ rows) ≡ (IsRowOf next row × Rest count (next + 1) end rows)
rest_first count next end row rows within =
    let one : count + 1 - next ≡ suc (count + 1 - (next + 1)) = omega (arith, within) in ap (λ n. Begin n next end (row ∷ rows)) one

pub either : (count next : ℕ) → (next ≤ count) ⊎ (count < next)
either count next = grind arith

-- the next row, and what is left then
pub rest_some : (count next end : ℕ) (row : Row) (rows : List Row) → count < end → end ≤ 2 ^ 63 → Rest count next end (row ∷ rows)
    → (id : ℕ) × IsNextRow count next end id row × Rest count (id + 1) end rows
rest_some count next end row rows low high are =
    elim (either count next) [
      | inl within ↦
          let first = subst (λ (T : Type 0). T) (rest_first count next end row rows within) are
          in (next, record { small = omega (arith, within, low, high); row_is = first.0; follows = record { from = omega arith; below = omega (arith, within, low); first = λ some. refl } }, first.1)
      | inr past ↦
          let later = subst (λ (T : Type 0). T) (rest_later count next end (row ∷ rows) past) are
          in (
            later.0,
            record { small = omega (arith, later.2, high); row_is = later.3; follows = record { from = later.1; below = later.2; first = λ some. absurd (let no : ⊥ = omega (arith, some, past) in no) } },
            subst (λ (T : Type 0). T) (sym (rest_later count (later.0 + 1) end rows (omega (arith, later.1, past)))) later.4,
          )
    ]

pub rest_more : (count next end id : ℕ) (row : Row) (rows : List Row) → IsNextRow count next end id row → Rest count (id + 1) end rows → Rest count next end (row ∷ rows)
rest_more count next end id row rows is are =
    elim (either count next) [
      | inl within ↦
          let same : id ≡ next = is.follows.first within
          in subst (λ (T : Type 0). T) (sym (rest_first count next end row rows within))
          (subst (λ n. IsRowOf n row) same is.row_is, subst (λ n. Rest count (n + 1) end rows) same are)
      | inr past ↦
          subst (λ (T : Type 0). T) (sym (rest_later count next end (row ∷ rows) past)) (
            id,
            is.follows.from,
            is.follows.below,
            is.row_is,
            subst (λ (T : Type 0). T) (rest_later count (id + 1) end rows (omega (arith, is.follows.from, past))) are,
          )
    ]

-- it is the row with this id, or there is none
pub rest_same : (count next end id : ℕ) (row : Row) (rows : List Row) → count < end → end ≤ 2 ^ 63 → IsNextRow count next end id row → Rest count next end (row ∷ rows) → Rest count (id + 1) end rows
rest_same count next end id row rows low high is are =
    let some = rest_some count next end row rows low high are
    in let same : some.0 ≡ id = one_id some.0 id row some.1.row_is is.row_is
    in subst (λ n. Rest count (n + 1) end rows) same some.2

pub rest_none : (count next end : ℕ) (row : Row) (rows : List Row) → count < end → end ≤ 2 ^ 63 → ((id : ℕ) → IsNextRow count next end id row → ⊥) → Rest count next end (row ∷ rows) → ⊥
rest_none count next end row rows low high none are = let some = rest_some count next end row rows low high are in none some.0 some.1

pub rest_end : (count next end : ℕ) → count < next → Rest count next end []
rest_end count next end past = subst (λ (T : Type 0). T) (sym (rest_later count next end [] past)) tt

pub end_past : (count next end : ℕ) → Rest count next end [] → count < next
end_past count next end are =
    elim (either count next) [
      | inl within ↦
          let one : count + 1 - next ≡ suc (count - next) = omega (arith, within)
          in absurd (subst (λ n. Begin n next end []) one are)
      | inr past ↦ past
    ]

-- ---- places in a list

pub row_at : (rows : List Row) (k : ℕ) (row : Row) → k < length rows → row ≡ get_or rows k row → drop k rows ≡ row ∷ drop (k + 1) rows
row_at rows k row within is =
    let next : suc k ≡ k + 1 = omega arith
    in drop-cons rows k row within ∙ ap (λ (m : ℕ). get_or rows k row ∷ drop m rows) next ∙ ap (λ r. r ∷ drop (k + 1) rows) (sym is)

nil_of : (rows : List Row) → length rows ≡ 0 → rows ≡ []
nil_of [] e = refl
nil_of (row ∷ rows) e = absurd (let no : ⊥ = omega (arith, e) in no)

pub none_at : (rows : List Row) (k : ℕ) → length rows ≤ k → drop k rows ≡ []
none_at rows k past = nil_of (drop k rows) (omega (arith, length-drop k rows, past))
