-- What the pass over neighbours finds: the least number of a row that has the key of the one before it.
use Rattle.std.proofs.Common.{◌≡◌, ◌<◌, ◌≤◌, ◌⊎◌, ℕ, ◌+◌, ◌-◌, drop, get_or, Bool, true, false, List, [], ◌∷◌, length, Option, Some, None, refl, sym, ◌∙◌, ap, arith, inl, inr}
use Rattle.std.specs.Prelude.{◌==◌, nat_lt, if◌then◌else◌, IfSome}
use Rattle.std.specs.Ordering.{ordering_index, is_eq}
use Rattle.std.specs.declared.cmp.Ordering.{Ordering}
use Rattle.std.specs.declared.cmp.Ordering.TheVariants.{Less, Equal, Greater}
use Rattle.std.proofs.lemmas.Bool.Decides.{nat_tests}
use Rattle.std.proofs.lemmas.List.{drop_more}
use Rattle.ov_value.specs.Rows.{key_cmp}
use Rattle.ov_value.specs.Shapes.{Shape}
use Rattle.ov_rows.specs.FileRows.{FileRow, lesser, least_behind, least_repeat}
use Rattle.ov_rows.proofs.Comparing.{clash, no_number}

pub eq_tests : (o : Ordering) → (ordering_index o == 1) ≡ is_eq o
eq_tests Less = refl
eq_tests Equal = refl
eq_tests Greater = refl

same_number : (m n : ℕ) → Some m ≡ Some n → m ≡ n
same_number m n e = cc

-- the lesser is one of both, and above neither
lesser_is : (least : Option ℕ) (k n : ℕ) → Some (lesser least k) ≡ Some n → (least ≡ Some n) ⊎ (k ≡ n)
lesser_is None k n e = inr (same_number k n e)
lesser_is (Some m) k n e = by (nat_lt m k) e
  where
    by : (b : Bool) → Some (if b then m else k) ≡ Some n → (Some m ≡ Some n) ⊎ (k ≡ n)
    by true f = inl f
    by false f = inr (same_number k n f)

lesser_low : (m k n : ℕ) → n ≤ lesser (Some m) k → (n ≤ m) × (n ≤ k)
lesser_low m k n le = (grind (arith, nat_tests), grind (arith, nat_tests))

module _ (schema : Shape) where
  abbrev key : FileRow → FileRow → Ordering
  key a b = key_cmp schema a.row b.row

  -- P of the number of each row that has the key of the one before it
  abbrev pub AllTies : (ℕ → Type 0) → FileRow → List FileRow → Type 0
  AllTies P a [] = Unit {0}
  AllTies P a (b ∷ rows) = (is_eq (key a b) ≡ true → P b.nth) × AllTies P b rows

  -- one that has the key of the one before it has this number
  abbrev pub HasTie : ℕ → FileRow → List FileRow → Type 0
  HasTie n a [] = ⊥
  HasTie n a (b ∷ rows) = ((is_eq (key a b) ≡ true) × (b.nth ≡ n)) ⊎ HasTie n b rows

  -- a step of the pass
  pub one_more : (least : Option ℕ) (rows : List FileRow) (i : ℕ) (a b : FileRow) → 1 ≤ i → i < length rows → a ≡ get_or rows (i - 1) a → b ≡ get_or rows i b
      → least_repeat schema least (drop (i - 1) rows) ≡ least_repeat schema (if is_eq (key a b) then Some (lesser least b.nth) else least) (drop (i + 1 - 1) rows)
  one_more least rows i a b from low is_a is_b =
      let here : i - 1 + 1 ≡ i = omega arith in
      let there : i ≡ i + 1 - 1 = omega arith in
      let more : Option ℕ = if is_eq (key a b) then Some (lesser least b.nth) else least in
      let tail : drop i rows ≡ b ∷ drop (i + 1) rows = drop_more rows i b low ∙ ap (λ r. r ∷ drop (i + 1) rows) (sym is_b) in
      let whole : drop (i - 1) rows ≡ a ∷ b ∷ drop (i + 1) rows =
      drop_more rows (i - 1) a (omega (arith, low)) ∙ ap (λ r. r ∷ drop (i - 1 + 1) rows) (sym is_a) ∙ ap (λ n. a ∷ drop n rows) here ∙ ap (λ l. a ∷ l) tail
      in ap (least_repeat schema least) whole ∙ ap (least_repeat schema more) (sym tail) ∙ ap (λ n. least_repeat schema more (drop n rows)) there

  -- no row is left behind the last
  pub no_more : (least : Option ℕ) (rows : List FileRow) → length rows ≤ 1 → least_repeat schema least rows ≡ least
  no_more least [] short = refl
  no_more least (a ∷ []) short = refl
  no_more least (a ∷ b ∷ rows) short = absurd (omega (arith, short))

  pub none_behind : (least : Option ℕ) (a : FileRow) (rows : List FileRow) → least_behind schema least a rows ≡ None → (least ≡ None) × AllTies (λ _. ⊥) a rows
  none_behind least a [] e = (e, tt)
  none_behind least a (b ∷ rows) e = by (is_eq (key a b)) refl e (λ l f. none_behind l b rows f)
    where
      by : (t : Bool) → is_eq (key a b) ≡ t → least_behind schema (if t then Some (lesser least b.nth) else least) b rows ≡ None
          → ((l : Option ℕ) → least_behind schema l b rows ≡ None → (l ≡ None) × AllTies (λ _. ⊥) b rows)
          → (least ≡ None) × AllTies (λ _. ⊥) a (b ∷ rows)
      by true t f later = absurd (no_number (lesser least b.nth) (later (Some (lesser least b.nth)) f).0)
      by false t f later = let rest = later least f in (rest.0, (λ tie. clash (sym t ∙ tie), rest.1))

  -- the number is that of a tie, and the least
  pub record IsLeast (least : Option ℕ) (a : FileRow) (rows : List FileRow) (n : ℕ) : Type 0 where
    pub one : (least ≡ Some n) ⊎ HasTie n a rows
    pub first : IfSome least (λ m. n ≤ m)
    pub all : AllTies (λ m. n ≤ m) a rows

  pub some_behind : (least : Option ℕ) (a : FileRow) (rows : List FileRow) (n : ℕ) → least_behind schema least a rows ≡ Some n → IsLeast least a rows n
  some_behind None a [] n e = absurd (no_number n (sym e))
  some_behind (Some m) a [] n e = let same : m ≡ n = same_number m n e in record { one = inl e; first = omega (arith, same); all = tt }
  some_behind least a (b ∷ rows) n e = by (is_eq (key a b)) refl e (λ l f. some_behind l b rows n f)
    where
      lowered : (least : Option ℕ) (k : ℕ) → n ≤ lesser least k → IfSome least (λ m. n ≤ m) × (n ≤ k)
      lowered None k le = (tt, le)
      lowered (Some m) k le = lesser_low m k n le

      by : (t : Bool) → is_eq (key a b) ≡ t → least_behind schema (if t then Some (lesser least b.nth) else least) b rows ≡ Some n
          → ((l : Option ℕ) → least_behind schema l b rows ≡ Some n → IsLeast l b rows n)
          → IsLeast least a (b ∷ rows) n
      by true t f later =
          let rest = later (Some (lesser least b.nth)) f in
          let low = lowered least b.nth rest.first in
          record {
            one = elim rest.one [
              | inl here ↦ elim (lesser_is least b.nth n here) [ inl was ↦ inl was | inr is ↦ inr (inl (t, is)) ]
              | inr more ↦ inr (inr more)
            ];
            first = low.0;
            all = (λ _. low.1, rest.all);
          }
      by false t f later =
          let rest = later least f in
          record {
            one = elim rest.one [ inl was ↦ inl was | inr more ↦ inr (inr more) ];
            first = rest.first;
            all = (λ tie. absurd (clash (sym t ∙ tie)), rest.all);
          }
