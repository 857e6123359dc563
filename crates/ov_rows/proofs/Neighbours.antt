-- In rows that rise by key and number, one that has the key of a row of a lesser number has that of the row before it.
use Rattle.std.proofs.Common.{◌≡◌, ◌<◌, ◌≤◌, ◌⊎◌, ℕ, List, [], ◌∷◌, Some, None, refl, sym, ◌∙◌, ap, subst, arith, inl, inr}
use Rattle.std.specs.Ordering.{nat_cmp, ordering_reverse}
use Rattle.std.specs.declared.cmp.Ordering.{Ordering}
use Rattle.std.specs.declared.cmp.Ordering.TheVariants.{Less, Equal}
use Rattle.ov_value.specs.Rows.{key_cmp}
use Rattle.ov_value.specs.Order.{key_cmp_total}
use Rattle.ov_value.specs.Shapes.{Shape}
use Rattle.ov_model.specs.Lists.{IsIn, Rises}
use Rattle.ov_rows.specs.FileRows.{FileRow, file_row_cmp, least_repeat}
use Rattle.ov_rows.proofs.Comparing.{no_number, equal_is, not_less, is_equal, is_less, parts, file_rows_total}
use Rattle.ov_rows.proofs.Members.{below_one}
use Rattle.ov_rows.proofs.Passing.{AllTies, HasTie, none_behind, some_behind}

module _ (schema : Shape) where
  abbrev key : FileRow → FileRow → Ordering
  key a b = key_cmp schema a.row b.row

  pub key-sym : (a b : FileRow) → key a b ≡ Equal → key b a ≡ Equal
  key-sym a b e = (key_cmp_total schema).antisymm b.row a.row ∙ ap ordering_reverse e

  abbrev T : FileRow → FileRow → Ordering
  T = file_row_cmp schema

  -- a row between two of one key has that key
  between : (a y b : FileRow) → T a y ≡ Less → T y b ≡ Less → key a b ≡ Equal → key y b ≡ Equal
  between a y b low high same = by (parts (key a y) (nat_cmp a.nth y.nth) low) (parts (key y b) (nat_cmp y.nth b.nth) high)
    where
      by : (key a y ≡ Less) ⊎ ((key a y ≡ Equal) × (nat_cmp a.nth y.nth ≡ Less)) → (key y b ≡ Less) ⊎ ((key y b ≡ Equal) × (nat_cmp y.nth b.nth ≡ Less)) → key y b ≡ Equal
      by l (inr r) = r.0
      by (inl l) (inl r) = absurd (not_less (key a b) ((key_cmp_total schema).trans a.row y.row b.row l r) same)
      by (inr l) (inl r) = absurd (not_less (key a b) ((key_cmp_total schema).congr a.row y.row b.row l.0 ∙ r) same)

  -- rows of one key rise by number
  low_number : (a b : FileRow) → T a b ≡ Less → key a b ≡ Equal → a.nth < b.nth
  low_number a b less same = by (parts (key a b) (nat_cmp a.nth b.nth) less)
    where
      by : (key a b ≡ Less) ⊎ ((key a b ≡ Equal) × (nat_cmp a.nth b.nth ≡ Less)) → a.nth < b.nth
      by (inl l) = absurd (not_less (key a b) l same)
      by (inr r) = is_less a.nth b.nth r.1

  behind : (P : ℕ → Type 0) (a : FileRow) (rows : List FileRow) (b : FileRow) → Rises T (a ∷ rows) → AllTies schema P a rows → IsIn rows b → key a b ≡ Equal → P b.nth
  behind P a [] b up ties is same = absurd is
  behind P a (y ∷ rows) b up ties (inl here) same =
      let tie : key a y ≡ Equal = subst (λ x. key a x ≡ Equal) here same in
      subst (λ x. P x.nth) (sym here) (ties.0 (equal_is (key a y) tie))
  behind P a (y ∷ rows) b up ties (inr later) same =
      behind P y rows b up.1 ties.1 later (between a y b up.0.0 (below_one T (file_rows_total schema) y rows b up.1.0 later) same)

  repeats : (P : ℕ → Type 0) (a : FileRow) (rows : List FileRow) (x b : FileRow) → Rises T (a ∷ rows) → AllTies schema P a rows → IsIn (a ∷ rows) x → IsIn (a ∷ rows) b → key x b ≡ Equal → x.nth < b.nth → P b.nth
  repeats P a rows x b up ties (inl first) (inl second) same lt = let one : x.nth ≡ b.nth = ap (λ r. r.nth) (first ∙ sym second) in absurd (omega (arith, one, lt))
  repeats P a rows x b up ties (inl first) (inr later) same lt = behind P a rows b up ties later (subst (λ r. key r b ≡ Equal) first same)
  repeats P a rows x b up ties (inr later) (inl second) same lt =
      let less : T b x ≡ Less = ap (λ r. T r x) second ∙ below_one T (file_rows_total schema) a rows x up.0 later in
      let turned : b.nth < x.nth = low_number b x less (key-sym x b same) in
      absurd (omega (arith, turned, lt))
  repeats P a [] x b up ties (inr first) (inr second) same lt = absurd first
  repeats P a (y ∷ rows) x b up ties (inr first) (inr second) same lt = repeats P y rows x b up.1 ties.1 first second same lt

  -- two of these rows that have one key, of which the second has this number
  pub record Pair (rows : List FileRow) (n : ℕ) : Type 0 where
    pub first : FileRow
    pub second : FileRow
    pub first_in : IsIn rows first
    pub second_in : IsIn rows second
    pub same : key first second ≡ Equal
    pub low : first.nth < second.nth
    pub number : second.nth ≡ n

  pair_of : (n : ℕ) (a : FileRow) (rows : List FileRow) → Rises T (a ∷ rows) → HasTie schema n a rows → Pair (a ∷ rows) n
  pair_of n a [] up tie = absurd tie
  pair_of n a (b ∷ rows) up (inl here) =
      let same = is_equal (key a b) here.0 in
      record { first = a; second = b; first_in = inl refl; second_in = inr (inl refl); same = same; low = low_number a b up.0.0 same; number = here.1 }
  pair_of n a (b ∷ rows) up (inr later) =
      let p = pair_of n b rows up.1 later in
      record { first = p.first; second = p.second; first_in = inr p.first_in; second_in = inr p.second_in; same = p.same; low = p.low; number = p.number }

  -- P of each row that has the key of one with a lesser number
  abbrev pub AllRepeats : (ℕ → Type 0) → List FileRow → Type 0
  AllRepeats P lines = (a b : FileRow) → IsIn lines a → IsIn lines b → key a b ≡ Equal → a.nth < b.nth → P b.nth

  pub no_repeats : (lines : List FileRow) → Rises T lines → least_repeat schema None lines ≡ None → AllRepeats (λ _. ⊥) lines
  no_repeats [] up none a b first second same lt = absurd first
  no_repeats (x ∷ lines) up none a b first second same lt = repeats (λ _. ⊥) x lines a b up (none_behind schema None x lines none).1 first second same lt

  -- where a row has the key of the one before it, the least number of such a row is that of a repeat, and no repeat has a lesser
  pub record IsFirst (lines : List FileRow) (n : ℕ) : Type 0 where
    pub one : Pair lines n
    pub all : AllRepeats (λ m. n ≤ m) lines

  pub least_found : (lines : List FileRow) (n : ℕ) → Rises T lines → least_repeat schema None lines ≡ Some n → IsFirst lines n
  least_found [] n up is = absurd (no_number n (sym is))
  least_found (x ∷ lines) n up is =
      let least = some_behind schema None x lines n is in
      record {
        one = pair least.one;
        all = λ a b first second same lt. repeats (λ m. n ≤ m) x lines a b up least.all first second same lt;
      }
    where
      pair : (None ≡ Some n) ⊎ HasTie schema n x lines → Pair (x ∷ lines) n
      pair (inl none) = absurd (no_number n (sym none))
      pair (inr tie) = pair_of n x lines up tie
