-- The merge takes the first row of each key, and stands in key order.
use Rattle.std.proofs.Common.{◌≡◌, ◌⊎◌, Bool, true, false, ◌||◌, List, [], ◌∷◌, ◌++◌, refl, sym, ◌∙◌, ap, subst, inl, inr, append_assoc}
use Rattle.std.proofs.lemmas.List.{append-nil}
use Rattle.std.proofs.lemmas.Bool.{cond-true, cond-false, cases_Bool}
use Rattle.std.specs.List.{list_any, flat_map}
use Rattle.std.specs.Ordering.{is_eq, is_lt, ordering_reverse}
use Rattle.std.specs.declared.cmp.Ordering.{Ordering}
use Rattle.std.specs.declared.cmp.Ordering.TheVariants.{Less, Equal, Greater}
use Rattle.ov_value.specs.Shapes.{Shape}
use Rattle.ov_value.specs.Rows.{key_cmp}
use Rattle.ov_value.specs.Order.{key_cmp_total}
use Rattle.ov_model.specs.Book.{Row}
use Rattle.ov_model.specs.Lists.{IsIn, IsBelow, Rises}
use Rattle.ov_model.specs.Merge.{has_key, firsts, placed, in_key_order, merged, IsFirst}

or_swap : (a b c : Bool) → (a || (b || c)) ≡ (b || (a || c))
or_swap true true c = refl
or_swap true false c = refl
or_swap false true c = refl
or_swap false false c = refl

or_none : (a b : Bool) → a ≡ false → b ≡ false → (a || b) ≡ false
or_none true b e f = cc
or_none false b e f = f

left_none : (a b : Bool) → (a || b) ≡ false → a ≡ false
left_none true b e = cc
left_none false b e = refl

right_none : (a b : Bool) → (a || b) ≡ false → b ≡ false
right_none true b e = cc
right_none false b e = e

none_passes : (p : Row → Bool) (rows : List Row) (r : Row) → list_any p rows ≡ false → IsIn rows r → p r ≡ false
none_passes p [] r e is = absurd is
none_passes p (x ∷ xs) r e (inl same) = ap p same ∙ left_none (p x) (list_any p xs) e
none_passes p (x ∷ xs) r e (inr later) = none_passes p xs r (right_none (p x) (list_any p xs) e) later

any_append : (p : Row → Bool) (xs ys : List Row) → list_any p xs ≡ false → list_any p ys ≡ false → list_any p (xs ++ ys) ≡ false
any_append p [] ys e f = f
any_append p (x ∷ xs) ys e f = or_none (p x) (list_any p (xs ++ ys)) (left_none (p x) (list_any p xs) e) (any_append p xs ys (right_none (p x) (list_any p xs) e) f)

in_end : (xs : List Row) (row : Row) → IsIn (xs ++ row ∷ []) row
in_end [] row = inl refl
in_end (x ∷ xs) row = inr (in_end xs row)

in_more : (xs ys : List Row) (row : Row) → IsIn xs row → IsIn (xs ++ ys) row
in_more [] ys row is = absurd is
in_more (x ∷ xs) ys row (inl same) = inl same
in_more (x ∷ xs) ys row (inr later) = inr (in_more xs ys row later)

eq_reverse : (o : Ordering) → is_eq (ordering_reverse o) ≡ is_eq o
eq_reverse Less = refl
eq_reverse Equal = refl
eq_reverse Greater = refl

-- neither below nor tied: above
above : (o : Ordering) → is_lt o ≡ false → is_eq o ≡ false → ordering_reverse o ≡ Less
above Less e f = cc
above Equal e f = cc
above Greater e f = refl

below : (o : Ordering) → is_lt o ≡ true → o ≡ Less
below Less e = refl
below Equal e = cc
below Greater e = cc

module _ (schema : Shape) where
  flip : (a b : Row) → key_cmp schema a b ≡ ordering_reverse (key_cmp schema b a)
  flip a b = (key_cmp_total schema).antisymm a b

  tie-sym : (a b : Row) → is_eq (key_cmp schema a b) ≡ is_eq (key_cmp schema b a)
  tie-sym a b = ap is_eq (flip a b) ∙ eq_reverse (key_cmp schema b a)

  pub below_all : (x y : Row) (rows : List Row) → key_cmp schema x y ≡ Less → IsBelow (key_cmp schema) y rows → IsBelow (key_cmp schema) x rows
  below_all x y [] less is = tt
  below_all x y (r ∷ rs) less is = ((key_cmp_total schema).trans x y r less is.0, below_all x y rs less is.1)

  below_placed : (x row : Row) (rows : List Row) → key_cmp schema x row ≡ Less → IsBelow (key_cmp schema) x rows → IsBelow (key_cmp schema) x (placed schema row rows)
  below_placed x row [] less is = (less, tt)
  below_placed x row (r ∷ rs) less is =
      elim (cases_Bool (is_lt (key_cmp schema row r))) [
        | inl first ↦ subst (IsBelow (key_cmp schema) x) (sym (cond-true _ (row ∷ r ∷ rs) (r ∷ placed schema row rs) first)) (less, is)
        | inr later ↦
            subst (IsBelow (key_cmp schema) x) (sym (cond-false _ (row ∷ r ∷ rs) (r ∷ placed schema row rs) later))
            (is.0, below_placed x row rs less is.1)
      ]

  placed_rises : (row : Row) (rows : List Row) → has_key schema rows row ≡ false → Rises (key_cmp schema) rows → Rises (key_cmp schema) (placed schema row rows)
  placed_rises row [] new rises = (tt, tt)
  placed_rises row (r ∷ rs) new rises =
      elim (cases_Bool (is_lt (key_cmp schema row r))) [
        | inl first ↦
            let less = below (key_cmp schema row r) first
            in let next : Rises (key_cmp schema) (row ∷ r ∷ rs) = ((less, below_all row r rs less rises.0), rises)
            in subst (Rises (key_cmp schema)) (sym (cond-true _ (row ∷ r ∷ rs) (r ∷ placed schema row rs) first)) next
        | inr later ↦
            let less : key_cmp schema r row ≡ Less =
            flip r row ∙ above (key_cmp schema row r) later (left_none (is_eq (key_cmp schema row r)) (has_key schema rs row) new)
            in let next : Rises (key_cmp schema) (r ∷ placed schema row rs) = (
              below_placed r row rs less rises.0,
              placed_rises row rs (right_none (is_eq (key_cmp schema row r)) (has_key schema rs row) new) rises.1,
            )
            in subst (Rises (key_cmp schema)) (sym (cond-false _ (row ∷ r ∷ rs) (r ∷ placed schema row rs) later)) next
      ]

  any_placed : (p : Row → Bool) (row : Row) (rows : List Row) → list_any p (placed schema row rows) ≡ (p row || list_any p rows)
  any_placed p row [] = refl
  any_placed p row (r ∷ rs) =
      elim (cases_Bool (is_lt (key_cmp schema row r))) [
        | inl first ↦ ap (list_any p) (cond-true _ (row ∷ r ∷ rs) (r ∷ placed schema row rs) first)
        | inr later ↦
            ap (list_any p) (cond-false _ (row ∷ r ∷ rs) (r ∷ placed schema row rs) later)
            ∙ ap (λ b. p r || b) (any_placed p row rs)
            ∙ or_swap (p r) (p row) (list_any p rs)
      ]

  any_in_order : (p : Row → Bool) (rows : List Row) → list_any p (in_key_order schema rows) ≡ list_any p rows
  any_in_order p [] = refl
  any_in_order p (row ∷ rows) = any_placed p row (in_key_order schema rows) ∙ ap (λ b. p row || b) (any_in_order p rows)

  -- no two of these rows have one key
  abbrev Distinct : List Row → Type 0
  Distinct [] = Unit {0}
  Distinct (row ∷ rows) = (has_key schema rows row ≡ false) × Distinct rows

  order_rises : (rows : List Row) → Distinct rows → Rises (key_cmp schema) (in_key_order schema rows)
  order_rises [] distinct = tt
  order_rises (row ∷ rows) distinct =
      placed_rises row (in_key_order schema rows)
      (any_in_order (λ r. is_eq (key_cmp schema row r)) rows ∙ distinct.0)
      (order_rises rows distinct.1)

  firsts_avoid : (seen rows : List Row) (r : Row) → IsIn seen r → has_key schema (firsts schema seen rows) r ≡ false
  firsts_avoid seen [] r is = refl
  firsts_avoid seen (row ∷ rows) r is =
      let later = firsts_avoid (seen ++ row ∷ []) rows r (in_more seen (row ∷ []) r is)
      in elim (cases_Bool (has_key schema seen row)) [
        | inl known ↦ ap (λ rs. has_key schema rs r) (cond-true _ (firsts schema (seen ++ row ∷ []) rows) (row ∷ firsts schema (seen ++ row ∷ []) rows) known) ∙ later
        | inr new ↦
            ap (λ rs. has_key schema rs r) (cond-false _ (firsts schema (seen ++ row ∷ []) rows) (row ∷ firsts schema (seen ++ row ∷ []) rows) new)
            ∙ or_none (is_eq (key_cmp schema r row)) (has_key schema (firsts schema (seen ++ row ∷ []) rows) r)
            (tie-sym r row ∙ none_passes (λ x. is_eq (key_cmp schema row x)) seen r new is)
            later
      ]

  firsts_distinct : (seen rows : List Row) → Distinct (firsts schema seen rows)
  firsts_distinct seen [] = tt
  firsts_distinct seen (row ∷ rows) =
      elim (cases_Bool (has_key schema seen row)) [
        | inl known ↦ subst Distinct (sym (cond-true _ (firsts schema (seen ++ row ∷ []) rows) (row ∷ firsts schema (seen ++ row ∷ []) rows) known)) (firsts_distinct (seen ++ row ∷ []) rows)
        | inr new ↦
            let next : Distinct (row ∷ firsts schema (seen ++ row ∷ []) rows) =
            (firsts_avoid (seen ++ row ∷ []) rows row (in_end seen row), firsts_distinct (seen ++ row ∷ []) rows)
            in subst Distinct (sym (cond-false _ (firsts schema (seen ++ row ∷ []) rows) (row ∷ firsts schema (seen ++ row ∷ []) rows) new)) next
      ]

  pub merged_rises : (lists : List (List Row)) → Rises (key_cmp schema) (merged schema lists)
  merged_rises lists = order_rises (firsts schema [] (flat_map (λ rows. rows) lists)) (firsts_distinct [] (flat_map (λ rows. rows) lists))

  either_way : (row x r : Row) (rs : List Row) (later : (x ≡ row) ⊎ IsIn rs x) → (x ≡ row) ⊎ IsIn (r ∷ rs) x
  either_way row x r rs (inl same) = inl same
  either_way row x r rs (inr is) = inr (inr is)

  in_placed : (row x : Row) (rows : List Row) → IsIn (placed schema row rows) x → (x ≡ row) ⊎ IsIn rows x
  in_placed row x [] is = is
  in_placed row x (r ∷ rs) is =
      elim (cases_Bool (is_lt (key_cmp schema row r))) [
        | inl first ↦ subst (λ l. IsIn l x) (cond-true _ (row ∷ r ∷ rs) (r ∷ placed schema row rs) first) is
        | inr later ↦
            let there : IsIn (r ∷ placed schema row rs) x = subst (λ l. IsIn l x) (cond-false _ (row ∷ r ∷ rs) (r ∷ placed schema row rs) later) is
            in elim there [ inl same ↦ inr (inl same) | inr more ↦ either_way row x r rs (in_placed row x rs more) ]
      ]

  behind : (row x r : Row) (rs : List Row) → ((x ≡ row) ⊎ IsIn rs x → IsIn (placed schema row rs) x) → (x ≡ row) ⊎ IsIn (r ∷ rs) x → IsIn (r ∷ placed schema row rs) x
  behind row x r rs there (inl same) = inr (there (inl same))
  behind row x r rs there (inr (inl same)) = inl same
  behind row x r rs there (inr (inr more)) = inr (there (inr more))

  placed_in : (row x : Row) (rows : List Row) → (x ≡ row) ⊎ IsIn rows x → IsIn (placed schema row rows) x
  placed_in row x [] is = is
  placed_in row x (r ∷ rs) is =
      elim (cases_Bool (is_lt (key_cmp schema row r))) [
        | inl first ↦ subst (λ l. IsIn l x) (sym (cond-true _ (row ∷ r ∷ rs) (r ∷ placed schema row rs) first)) is
        | inr later ↦
            subst (λ l. IsIn l x) (sym (cond-false _ (row ∷ r ∷ rs) (r ∷ placed schema row rs) later))
            (behind row x r rs (placed_in row x rs) is)
      ]

  in_either : (row x : Row) (rows sorted : List Row) → (IsIn sorted x → IsIn rows x) → (x ≡ row) ⊎ IsIn sorted x → IsIn (row ∷ rows) x
  in_either row x rows sorted there (inl same) = inl same
  in_either row x rows sorted there (inr later) = inr (there later)

  either_in : (row x : Row) (rows sorted : List Row) → (IsIn rows x → IsIn sorted x) → IsIn (row ∷ rows) x → (x ≡ row) ⊎ IsIn sorted x
  either_in row x rows sorted there (inl same) = inl same
  either_in row x rows sorted there (inr later) = inr (there later)

  in_order_in : (rows : List Row) (x : Row) → IsIn (in_key_order schema rows) x → IsIn rows x
  in_order_in [] x is = is
  in_order_in (row ∷ rows) x is =
      in_either row x rows (in_key_order schema rows) (in_order_in rows x) (in_placed row x (in_key_order schema rows) is)

  in_in_order : (rows : List Row) (x : Row) → IsIn rows x → IsIn (in_key_order schema rows) x
  in_in_order [] x is = is
  in_in_order (row ∷ rows) x is =
      placed_in row x (in_key_order schema rows) (either_in row x rows (in_key_order schema rows) (in_in_order rows x) is)

  -- the row stands in these rows, and no row before it, nor one that was seen, has its key
  record FirstAfter (seen rows : List Row) (row : Row) : Type 0 where
    before : List Row
    after : List Row
    there : rows ≡ before ++ row ∷ after
    first : has_key schema (seen ++ before) row ≡ false

  first_later : (seen rows : List Row) (row x : Row) → FirstAfter (seen ++ row ∷ []) rows x → FirstAfter seen (row ∷ rows) x
  first_later seen rows row x f =
      record {
        before = row ∷ f.before;
        after = f.after;
        there = ap (λ rs. row ∷ rs) f.there;
        first = ap (λ rs. has_key schema rs x) (sym (append_assoc seen (row ∷ []) f.before)) ∙ f.first;
      }

  first_here : (seen rows : List Row) (row x : Row) → has_key schema seen row ≡ false → x ≡ row → FirstAfter seen (row ∷ rows) x
  first_here seen rows row x new same =
      record {
        before = [];
        after = rows;
        there = ap (λ r. r ∷ rows) (sym same);
        first = ap (λ rs. has_key schema rs x) (append-nil seen) ∙ ap (has_key schema seen) same ∙ new;
      }

  first_either : (seen rows : List Row) (row x : Row) → has_key schema seen row ≡ false → (IsIn (firsts schema (seen ++ row ∷ []) rows) x → FirstAfter (seen ++ row ∷ []) rows x) → IsIn (row ∷ firsts schema (seen ++ row ∷ []) rows) x → FirstAfter seen (row ∷ rows) x
  first_either seen rows row x new later (inl same) = first_here seen rows row x new same
  first_either seen rows row x new later (inr more) = first_later seen rows row x (later more)

  firsts_first : (seen rows : List Row) (x : Row) → IsIn (firsts schema seen rows) x → FirstAfter seen rows x
  firsts_first seen [] x is = absurd is
  firsts_first seen (row ∷ rows) x is =
      elim (cases_Bool (has_key schema seen row)) [
        | inl known ↦
            first_later seen rows row x
            (firsts_first (seen ++ row ∷ []) rows x
            (subst (λ l. IsIn l x) (cond-true _ (firsts schema (seen ++ row ∷ []) rows) (row ∷ firsts schema (seen ++ row ∷ []) rows) known) is))
        | inr new ↦
            first_either seen rows row x new (firsts_first (seen ++ row ∷ []) rows x)
            (subst (λ l. IsIn l x) (cond-false _ (firsts schema (seen ++ row ∷ []) rows) (row ∷ firsts schema (seen ++ row ∷ []) rows) new) is)
      ]

  first_firsts : (seen before after : List Row) (x : Row) → has_key schema (seen ++ before) x ≡ false → IsIn (firsts schema seen (before ++ x ∷ after)) x
  first_firsts seen [] after x first =
      let new : has_key schema seen x ≡ false = ap (λ rs. has_key schema rs x) (sym (append-nil seen)) ∙ first
      in subst (λ l. IsIn l x) (sym (cond-false _ (firsts schema (seen ++ x ∷ []) after) (x ∷ firsts schema (seen ++ x ∷ []) after) new)) (inl refl)
  first_firsts seen (row ∷ before) after x first =
      let rest = firsts schema (seen ++ row ∷ []) (before ++ x ∷ after)
      in let later : IsIn rest x =
      first_firsts (seen ++ row ∷ []) before after x (ap (λ rs. has_key schema rs x) (append_assoc seen (row ∷ []) before) ∙ first)
      in elim (cases_Bool (has_key schema seen row)) [
        | inl known ↦ subst (λ l. IsIn l x) (sym (cond-true _ rest (row ∷ rest) known)) later
        | inr new ↦ subst (λ l. IsIn l x) (sym (cond-false _ rest (row ∷ rest) new)) (inr later)
      ]

  pub merged_is_first : (lists : List (List Row)) (x : Row) → IsIn (merged schema lists) x → IsFirst schema (flat_map (λ rows. rows) lists) x
  merged_is_first lists x is =
      let f = firsts_first [] (flat_map (λ rows. rows) lists) x (in_order_in (firsts schema [] (flat_map (λ rows. rows) lists)) x is)
      in record { before = f.before; after = f.after; there = f.there; first = f.first }

  pub first_is_merged : (lists : List (List Row)) (x : Row) → IsFirst schema (flat_map (λ rows. rows) lists) x → IsIn (merged schema lists) x
  first_is_merged lists x f =
      in_in_order (firsts schema [] (flat_map (λ rows. rows) lists)) x
      (subst (λ rows. IsIn (firsts schema [] rows) x) (sym f.there) (first_firsts [] f.before f.after x f.first))

  placed_front : (row : Row) (rows : List Row) → IsBelow (key_cmp schema) row rows → placed schema row rows ≡ row ∷ rows
  placed_front row [] is = refl
  placed_front row (r ∷ rs) is = cond-true _ (row ∷ r ∷ rs) (r ∷ placed schema row rs) (ap is_lt is.0)

  -- rows that rise are their own merge
  order_same : (rows : List Row) → Rises (key_cmp schema) rows → in_key_order schema rows ≡ rows
  order_same [] rises = refl
  order_same (row ∷ rows) rises = ap (placed schema row) (order_same rows rises.1) ∙ placed_front row rows rises.0

  -- none of these has the key of one that was seen
  abbrev AllNew : List Row → List Row → Type 0
  AllNew seen [] = Unit {0}
  AllNew seen (row ∷ rows) = (has_key schema seen row ≡ false) × AllNew seen rows

  above_tie : (o : Ordering) → o ≡ Less → is_eq (ordering_reverse o) ≡ false
  above_tie o e = ap (λ x. is_eq (ordering_reverse x)) e

  new_more : (seen rows : List Row) (row : Row) → AllNew seen rows → IsBelow (key_cmp schema) row rows → AllNew (seen ++ row ∷ []) rows
  new_more seen [] row new is = tt
  new_more seen (r ∷ rs) row new is = (
    any_append (λ x. is_eq (key_cmp schema r x)) seen (row ∷ []) new.0
        (or_none (is_eq (key_cmp schema r row)) false (ap is_eq (flip r row) ∙ above_tie (key_cmp schema row r) is.0) refl),
    new_more seen rs row new.1 is.1,
  )

  firsts_same : (seen rows : List Row) → AllNew seen rows → Rises (key_cmp schema) rows → firsts schema seen rows ≡ rows
  firsts_same seen [] new rises = refl
  firsts_same seen (row ∷ rows) new rises =
      cond-false _ (firsts schema (seen ++ row ∷ []) rows) (row ∷ firsts schema (seen ++ row ∷ []) rows) new.0
      ∙ ap (λ rs. row ∷ rs) (firsts_same (seen ++ row ∷ []) rows (new_more seen rows row new.1 rises.0) rises.1)

  all_new : (rows : List Row) → AllNew [] rows
  all_new [] = tt
  all_new (row ∷ rows) = (refl, all_new rows)

  pub merged_alone : (rows : List Row) → Rises (key_cmp schema) rows → merged schema (rows ∷ []) ≡ rows
  merged_alone rows rises =
      ap (λ all. in_key_order schema (firsts schema [] all)) (append-nil rows)
      ∙ ap (in_key_order schema) (firsts_same [] rows (all_new rows) rises)
      ∙ order_same rows rises
