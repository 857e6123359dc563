-- A row of one user more, or a table's of one user less, leaves the rows of another as they are.
use Rattle.std.proofs.Common.{◌≡◌, ◌≢◌, ◌⊎◌, ℕ, zero, suc, ◌+◌, ◌-◌, ◌==◌, Bool, true, false, List, [], ◌∷◌, ◌++◌, filter, map, take, length, if◌then◌else◌, refl, sym, ◌∙◌, ap, subst, inl, inr, append_assoc, arith}
use Rattle.std.specs.Prelude.{not, slice_index_or, Option, Some, None, codes}
use Rattle.std.specs.Ordering.{ordering_reverse}
use Rattle.std.specs.Str.{bytes_eq}
use Rattle.std.specs.declared.cmp.Ordering.{Ordering}
use Rattle.std.specs.declared.cmp.Ordering.TheVariants.{Less, Greater}
use Rattle.std.proofs.lemmas.Bool.{cond-true, cond-false, cases_Bool, eq-eqb}
use Rattle.std.proofs.lemmas.List.{append-nil}
use Rattle.std.proofs.lemmas.Slice.Eq.{bytes_eq-Decides}
use Rattle.ov_value.specs.Order.{key_cmp_total}
use Rattle.ov_value.specs.Rows.{key_cmp, value_at}
use Rattle.ov_value.specs.Shapes.{Shape}
use Rattle.ov_value.specs.declared.value.Value.{Value}
use Rattle.ov_value.specs.declared.value.Value.TheVariants.{Text}
use Rattle.ov_model.specs.Act.{Session, Deed, unless}
use Rattle.ov_model.specs.Book.{Row, Version}
use Rattle.ov_model.specs.Deed.{changes, deed, is_own, own_rows, stage_of, stage_refusal, staged_refusal, text_in_row, text_or_none, unstage_refusal, with_staged}
use Rattle.ov_model.specs.Lists.{IsIn, IsBelow, Rises}
use Rattle.ov_model.specs.Merge.{IsFirst, merged}
use Rattle.ov_model.specs.Moves.{change, committed, new_set, numbered, version_of}
use Rattle.ov_model.specs.Records.{rows_at}
use Rattle.ov_model.specs.Registry.{as_text, change_of, change_refusal, is_table, last_alone, last_rows, stage_name, stage_schema, table_row, version_rows, with_row, without_row}
use Rattle.ov_model.specs.Steps.{all_moved}
use Rattle.ov_model.specs.Users.{permit}
use Rattle.ov_model.specs.World.{Dataset, World, first_set, named, set_named}
use Rattle.ov_model.specs.declared.command.Command.TheVariants as asks
use Rattle.ov_model.specs.declared.refusal.Refusal.{Refusal}
use Rattle.ov_model.specs.declared.reply.Reply.{Reply}
use Rattle.ov_model.proofs.Merging.{first_is_merged, merged_alone, merged_is_first, merged_rises}
use Rattle.ov_model.proofs.Owning.{table-texts}
use Rattle.ov_model.proofs.Ruling.{silent-permits}

-- ---- members

kept_if : (t : Bool) (x y : Row) (rest : List Row) → IsIn (if t then x ∷ rest else rest) y → ((y ≡ x) × (t ≡ true)) ⊎ IsIn rest y
kept_if true x y rest (inl here) = inl (here, refl)
kept_if true x y rest (inr later) = inr later
kept_if false x y rest is = inr is

in_filter : (test : Row → Bool) (xs : List Row) (x : Row) → IsIn (filter test xs) x → IsIn xs x × (test x ≡ true)
in_filter test [] x is = absurd is
in_filter test (y ∷ ys) x is = elim (kept_if (test y) y x (filter test ys) is) [
  | inl here ↦ (inl here.0, ap test here.0 ∙ here.1)
  | inr later ↦ let more = in_filter test ys x later in (inr more.0, more.1)
]

put_first : (t : Bool) (x y : Row) (rest : List Row) → y ≡ x → t ≡ true → IsIn (if t then x ∷ rest else rest) y
put_first true x y rest here passes = inl here
put_first false x y rest here passes = absurd cc

put_later : (t : Bool) (x y : Row) (rest : List Row) → IsIn rest y → IsIn (if t then x ∷ rest else rest) y
put_later true x y rest is = inr is
put_later false x y rest is = is

filter_in : (test : Row → Bool) (xs : List Row) (x : Row) → IsIn xs x → test x ≡ true → IsIn (filter test xs) x
filter_in test [] x is passes = absurd is
filter_in test (y ∷ ys) x (inl here) passes = put_first (test y) y x (filter test ys) here (ap test (sym here) ∙ passes)
filter_in test (y ∷ ys) x (inr later) passes = put_later (test y) y x (filter test ys) (filter_in test ys x later passes)

in_middle : (before after : List Row) (x : Row) → IsIn (before ++ x ∷ after) x
in_middle [] after x = inl refl
in_middle (r ∷ before) after x = inr (in_middle before after x)

in_either : (xs ys : List Row) (x : Row) → IsIn (xs ++ ys) x → IsIn xs x ⊎ IsIn ys x
in_either [] ys x is = inr is
in_either (r ∷ xs) ys x (inl here) = inl (inl here)
in_either (r ∷ xs) ys x (inr later) = elim (in_either xs ys x later) [ inl first ↦ inl (inr first) | inr second ↦ inr second ]

-- what passes the first test passes the second one
filter_both : (p q : Row → Bool) → ((r : Row) → p r ≡ true → q r ≡ true) → (rows : List Row) → filter p (filter q rows) ≡ filter p rows
filter_both p q both [] = refl
filter_both p q both (r ∷ rows) = elim (cases_Bool (q r)) [
  | inl is ↦
      ap (filter p) (cond-true (q r) (r ∷ filter q rows) (filter q rows) is) ∙ ap (λ (rest : List Row). if p r then r ∷ rest else rest) (filter_both p q both rows)
  | inr isnt ↦
      let no : p r ≡ false = none (p r) refl isnt
      in ap (filter p) (cond-false (q r) (r ∷ filter q rows) (filter q rows) isnt)
      ∙ (filter_both p q both rows ∙ sym (cond-false (p r) (r ∷ filter p rows) (filter p rows) no))
]
  where
    none : (t : Bool) → p r ≡ t → q r ≡ false → t ≡ false
    none false is isnt = refl
    none true is isnt = sym (both r is) ∙ isnt

-- ---- lists that rise

less_greater : Less ≡ Greater → ⊥
less_greater e = cc

module _ (schema : Shape) where
  abbrev R : Row → Row → Ordering
  R = key_cmp schema

  below_in : (x y : Row) (rows : List Row) → IsBelow R x rows → IsIn rows y → R x y ≡ Less
  below_in x y [] below is = absurd is
  below_in x y (r ∷ rows) below (inl here) = ap (R x) here ∙ below.0
  below_in x y (r ∷ rows) below (inr later) = below_in x y rows below.1 later

  irreflexive : (x : Row) → R x x ≡ Less → ⊥
  irreflexive x e =
      let turn : R x x ≡ ordering_reverse (R x x) = (key_cmp_total schema).antisymm x x
      in less_greater (sym e ∙ (turn ∙ ap ordering_reverse e))

  not_both : (x y : Row) → R x y ≡ Less → R y x ≡ Less → ⊥
  not_both x y one other = irreflexive x ((key_cmp_total schema).trans x y x one other)

  below_if : (t : Bool) (x y : Row) (rest : List Row) → R x y ≡ Less → IsBelow R x rest → IsBelow R x (if t then y ∷ rest else rest)
  below_if true x y rest less below = (less, below)
  below_if false x y rest less below = below

  below_filter : (p : Row → Bool) (x : Row) (rows : List Row) → IsBelow R x rows → IsBelow R x (filter p rows)
  below_filter p x [] below = tt
  below_filter p x (y ∷ rows) below = below_if (p y) x y (filter p rows) below.0 (below_filter p x rows below.1)

  rises_if : (t : Bool) (x : Row) (rest : List Row) → IsBelow R x rest → Rises R rest → Rises R (if t then x ∷ rest else rest)
  rises_if true x rest below rises = (below, rises)
  rises_if false x rest below rises = rises

  rises_filter : (p : Row → Bool) (rows : List Row) → Rises R rows → Rises R (filter p rows)
  rises_filter p [] rises = tt
  rises_filter p (x ∷ rows) rises = rises_if (p x) x (filter p rows) (below_filter p x rows rises.0) (rises_filter p rows rises.1)

  heads : (x y : Row) (a b : List Row) → IsBelow R x a → IsBelow R y b → IsIn (y ∷ b) x → IsIn (x ∷ a) y → x ≡ y
  heads x y a b low high (inl same) back = same
  heads x y a b low high (inr later) (inl same) = sym same
  heads x y a b low high (inr later) (inr more) = absurd (not_both x y (below_in x y a low more) (below_in y x b high later))

  tail_in : (x y z : Row) (a b : List Row) → x ≡ y → IsBelow R x a → IsIn a z → IsIn (y ∷ b) z → IsIn b z
  tail_in x y z a b same low is (inl here) = absurd (irreflexive x (ap (R x) (same ∙ sym here) ∙ below_in x z a low is))
  tail_in x y z a b same low is (inr later) = later

  -- with the same members they are one
  rises_unique : (a b : List Row) → Rises R a → Rises R b → ((x : Row) → IsIn a x → IsIn b x) → ((x : Row) → IsIn b x → IsIn a x) → a ≡ b
  rises_unique [] [] one other forth back = refl
  rises_unique [] (y ∷ b) one other forth back = absurd (back y (inl refl))
  rises_unique (x ∷ a) [] one other forth back = absurd (forth x (inl refl))
  rises_unique (x ∷ a) (y ∷ b) one other forth back =
      let head : x ≡ y = heads x y a b one.0 other.0 (forth x (inl refl)) (back y (inl refl))
      in let rest : a ≡ b =
      rises_unique a b one.1 other.1 (λ z is. tail_in x y z a b head one.0 is (forth z (inr is))) (λ z is. tail_in y x z b a (sym head) other.0 is (back z (inr is)))
      in λ i. head i ∷ rest i

  -- ---- a row more

  module _ (p : Row → Bool) (rows : List Row) (row : Row) (rises : Rises R rows) (isnt : p row ≡ false) where
    all : List Row
    all = rows ++ row ∷ []

    abbrev made : List Row
    made = merged schema ((rows ++ row ∷ []) ∷ [])

    forth_row : (x : Row) → p x ≡ true → IsIn rows x ⊎ IsIn (row ∷ []) x → IsIn rows x
    forth_row x passes (inl is) = is
    forth_row x passes (inr (inl here)) = absurd (no (sym passes ∙ (ap p here ∙ isnt)))
      where
        no : true ≡ false → ⊥
        no e = cc
    forth_row x passes (inr (inr is)) = absurd is

    forth_more : (x : Row) → IsIn (filter p made) x → IsIn (filter p rows) x
    forth_more x is =
        let both = in_filter p made x is
        in let first = merged_is_first schema ((rows ++ row ∷ []) ∷ []) x both.0
        in let there : IsIn ((rows ++ row ∷ []) ++ []) x = subst (λ (l : List Row). IsIn l x) (sym first.there) (in_middle first.before first.after x)
        in let among : IsIn (rows ++ row ∷ []) x = subst (λ (l : List Row). IsIn l x) (append-nil (rows ++ row ∷ [])) there
        in filter_in p rows x (forth_row x both.1 (in_either rows (row ∷ []) x among)) both.1

    first_more : (x : Row) → IsFirst schema (rows ++ []) x → IsFirst schema ((rows ++ row ∷ []) ++ []) x
    first_more x first = record {
      before = first.before;
      after = first.after ++ row ∷ [];
      there =
          append-nil (rows ++ row ∷ [])
          ∙ (ap (λ (l : List Row). l ++ row ∷ []) (sym (append-nil rows) ∙ first.there) ∙ append_assoc first.before (x ∷ first.after) (row ∷ []));
      first = first.first;
    }

    back_more : (x : Row) → IsIn (filter p rows) x → IsIn (filter p made) x
    back_more x is =
        let both = in_filter p rows x is
        in let merged_too : IsIn (merged schema (rows ∷ [])) x = subst (λ (l : List Row). IsIn l x) (sym (merged_alone schema rows rises)) both.0
        in let first : IsFirst schema (rows ++ []) x = merged_is_first schema (rows ∷ []) x merged_too
        in filter_in p made x (first_is_merged schema ((rows ++ row ∷ []) ∷ []) x (first_more x first)) both.1

    pub row_more : filter p made ≡ filter p rows
    row_more =
        rises_unique (filter p made) (filter p rows) (rises_filter p made (merged_rises schema ((rows ++ row ∷ []) ∷ []))) (rises_filter p rows rises) forth_more back_more

-- ---- of another user

other_text : (user owner : List ℕ) → owner ≢ user → bytes_eq owner user ≡ false
other_text user owner differ = by (bytes_eq owner user) refl
  where
    by : (t : Bool) → bytes_eq owner user ≡ t → t ≡ false
    by false e = refl
    by true e = absurd (differ ((bytes_eq-Decides owner user).0 e))

own_more : (user owner table cvd : List ℕ) (made : ℕ) (vids : List ℕ) (rows : List Row) → Rises (key_cmp stage_schema) rows → owner ≢ user
    → filter (is_own user) (version_rows stage_schema (with_row rows (table_row owner table cvd made vids))) ≡ filter (is_own user) rows
own_more user owner table cvd made vids rows rises differ =
    row_more stage_schema (is_own user) rows (table_row owner table cvd made vids) rises (other_text user owner differ)

table_not : (user owner table : List ℕ) → owner ≢ user → (row : Row) → is_own user row ≡ true → not (is_table owner table row) ≡ true
table_not user owner table differ row own = by (is_table owner table row) refl
  where
    no : true ≡ false → ⊥
    no e = cc

    by : (t : Bool) → is_table owner table row ≡ t → not t ≡ true
    by false e = refl
    by true e =
        let text : value_at row 0 ≡ Text owner = (table-texts owner table row e).0
        in let name : text_in_row row 0 ≡ owner = ap (λ (v : Value). text_or_none (as_text v)) text
        in absurd (no (sym own ∙ (ap (λ (n : List ℕ). bytes_eq n user) name ∙ other_text user owner differ)))

own_less : (user owner table : List ℕ) (rows : List Row) → Rises (key_cmp stage_schema) rows → owner ≢ user
    → filter (is_own user) (version_rows stage_schema (without_row rows owner table)) ≡ filter (is_own user) rows
own_less user owner table rows rises differ =
    ap (filter (is_own user)) (merged_alone stage_schema (without_row rows owner table) (rises_filter stage_schema (λ row. not (is_table owner table row)) rows rises))
    ∙ filter_both (is_own user) (λ row. not (is_table owner table row)) (table_not user owner table differ) rows

-- ---- the World after the change

found_end : (sets : List Dataset) (d : Dataset) → first_set (named stage_name) sets ≡ None → named stage_name d ≡ true → first_set (named stage_name) (sets ++ d ∷ []) ≡ Some d
found_end [] d none is = cond-true (named stage_name d) (Some d) None is
found_end (x ∷ sets) d none is = elim (cases_Bool (named stage_name x)) [
  | inl here ↦ absurd (some_none x (sym (cond-true (named stage_name x) (Some x) (first_set (named stage_name) sets) here) ∙ none))
  | inr later ↦
      cond-false (named stage_name x) (Some x) (first_set (named stage_name) (sets ++ d ∷ [])) later
      ∙ found_end sets d (sym (cond-false (named stage_name x) (Some x) (first_set (named stage_name) sets) later) ∙ none) is
]
  where
    some_none : (x : Dataset) → Some x ≡ None → ⊥
    some_none x e = cc

module _ (f : Dataset → Dataset) (keeps : (d : Dataset) → (f d).cvd.name ≡ d.cvd.name) where
  named_if : (t : Bool) (d : Dataset) → named stage_name (if t then f d else d) ≡ named stage_name d
  named_if true d = ap (λ (n : List ℕ). bytes_eq n stage_name) (keeps d)
  named_if false d = refl

  found_changed : (number : ℕ) (sets : List Dataset) (d : Dataset) → first_set (named stage_name) sets ≡ Some d → number ≡ d.cvd.number
      → first_set (named stage_name) (change number f sets) ≡ Some (f d)
  found_changed number [] d found is = absurd cc
  found_changed number (x ∷ sets) d found is = elim (cases_Bool (named stage_name x)) [
    | inl here ↦
        let same : Some x ≡ Some d = sym (cond-true (named stage_name x) (Some x) (first_set (named stage_name) sets) here) ∙ found
        in let x_is : x ≡ d = cc
        in let its : (x.cvd.number == number) ≡ true = eq-eqb x.cvd.number number (ap (λ (y : Dataset). y.cvd.number) x_is ∙ sym is)
        in let one : (if numbered number x then f x else x) ≡ f x = cond-true (numbered number x) (f x) x its
        in ap (λ (y : Dataset). if named stage_name y then Some y else first_set (named stage_name) (change number f sets)) one
        ∙ (cond-true (named stage_name (f x)) (Some (f x)) (first_set (named stage_name) (change number f sets))
        (ap (λ (n : List ℕ). bytes_eq n stage_name) (keeps x) ∙ here)
        ∙ ap (λ (y : Dataset). Some (f y)) x_is)
    | inr later ↦
        cond-false (named stage_name (if numbered number x then f x else x)) (Some (if numbered number x then f x else x)) (first_set (named stage_name) (change number f sets))
        (named_if (numbered number x) x ∙ later)
        ∙ found_changed number sets d (sym (cond-false (named stage_name x) (Some x) (first_set (named stage_name) sets) later) ∙ found) is
  ]

last_at : (versions : List Version) (v : Version) → rows_at (versions ++ v ∷ []) (length (versions ++ v ∷ [])) ≡ v.rows
last_at versions v = at versions
  where
    long : (versions : List Version) → length (versions ++ v ∷ []) - 1 ≡ length versions
    long [] = refl
    long (u ∷ versions) = omega (arith, long_one versions)
      where
        long_one : (versions : List Version) → length (versions ++ v ∷ []) ≡ length versions + 1
        long_one [] = refl
        long_one (u ∷ versions) = omega (arith, long_one versions)

    end : (versions : List Version) → slice_index_or (map (λ u. u.rows) (versions ++ v ∷ [])) (length versions) [] ≡ v.rows
    end [] = refl
    end (u ∷ versions) = end versions

    at : (versions : List Version) → rows_at (versions ++ v ∷ []) (length (versions ++ v ∷ [])) ≡ v.rows
    at versions = ap (λ (k : ℕ). slice_index_or (map (λ u. u.rows) (versions ++ v ∷ [])) k []) (long versions) ∙ end versions

module _ (w : World) (user : List ℕ) where
  abbrev stage : Option Dataset
  stage = set_named w stage_name

  abbrev Keeps : Deed → Type 0
  Keeps d = (k : ℕ) → own_rows user (set_named (all_moved (take k d.moves) w) stage_name) ≡ own_rows user stage

  -- the rows after a change to these
  changed_rows : (rows : List Row) (o : Option Dataset) → stage ≡ o
      → last_rows (set_named (all_moved (change_of stage_name stage_schema rows o ∷ []) w) stage_name) ≡ rows
  changed_rows rows None found = ap last_rows (found_end w.sets (new_set w.next stage_name stage_schema rows) found refl)
  changed_rows rows (Some d) found =
      ap last_rows (found_changed (committed (last_alone d) (codes "stage") [] rows) (λ x. refl) d.cvd.number w.sets d found refl)
      ∙ last_at d.cvd.versions (version_of (last_alone d) (codes "stage") rows)

  nothing : (k : ℕ) → own_rows user (set_named (all_moved (take k []) w) stage_name) ≡ own_rows user stage
  nothing zero = refl
  nothing (suc k) = refl

  keeps_unless : (s : Session) (refusal : Option Refusal) (d : Deed) → (refusal ≡ None → Keeps d) → Keeps (unless s refusal d)
  keeps_unless s None d more = more refl
  keeps_unless s (Some refusal) d more = nothing

  no_more : (k : ℕ) (v : World) → all_moved (take k []) v ≡ v
  no_more zero v = refl
  no_more (suc k) v = refl

  keeps_changes : (s t : Session) (rows : List Row) (reply : Reply) → filter (is_own user) (version_rows stage_schema rows) ≡ own_rows user stage
      → Keeps (changes w s t stage_name stage_schema rows reply stage)
  keeps_changes s t rows reply same =
      keeps_unless s (change_refusal w stage_name (version_rows stage_schema rows) stage) _ (λ e. by)
    where
      by : (k : ℕ) → own_rows user (set_named (all_moved (take k (change_of stage_name stage_schema (version_rows stage_schema rows) stage ∷ [])) w) stage_name) ≡ own_rows user stage
      by zero = refl
      by (suc k) =
          ap (λ (v : World). own_rows user (set_named v stage_name)) (no_more k (all_moved (change_of stage_name stage_schema (version_rows stage_schema rows) stage ∷ []) w))
          ∙ (ap (filter (is_own user)) (changed_rows (version_rows stage_schema rows) stage refl) ∙ same)

  module _ (s : Session) (rises : Rises (key_cmp stage_schema) (last_rows stage)) (differ : s.user ≢ user) where
    stage_keeps : (cvd table vids : List ℕ) (o : Option Dataset) → Keeps (stage_of w s cvd table vids stage o)
    stage_keeps cvd table vids None = nothing
    stage_keeps cvd table vids (Some d) =
        keeps_unless s (staged_refusal s table vids d stage) _
        (λ e. keeps_changes s (with_staged s table vids d) (with_row (last_rows stage) (table_row s.user table d.cvd.name d.cvd.number vids)) _
        (own_more user s.user table d.cvd.name d.cvd.number vids (last_rows stage) rises differ))

    pub staging_keeps : (cvd vids table : List ℕ) (file : Option (List ℕ)) → Keeps (deed w s (asks.Checkout cvd vids file (Some table)))
    staging_keeps cvd vids table file =
        keeps_unless s (permit s.user (asks.Checkout cvd vids file (Some table))) _
        (λ e. keeps_unless s (stage_refusal table vids stage) _ (λ f. stage_keeps cvd table vids (set_named w cvd)))

    not_false : (t : Bool) → not t ≡ false → t ≡ true
    not_false true e = refl
    not_false false e = absurd cc

    pub unstaging_keeps : (owner table : List ℕ) → Keeps (deed w s (asks.Unstage owner table))
    unstaging_keeps owner table =
        keeps_unless s (permit s.user (asks.Unstage owner table)) _ (λ free.
        let silent = (silent-permits s.user (asks.Unstage owner table)).0 free
        in let own : owner ≡ s.user = (bytes_eq-Decides owner s.user).0 (not_false (bytes_eq owner s.user) silent.1.0)
        in keeps_unless s (unstage_refusal owner table stage) _ (λ e. keeps_changes s s (without_row (last_rows stage) owner table) _
        (own_less user owner table (last_rows stage) rises (subst (λ (n : List ℕ). n ≢ user) (sym own) differ))))
