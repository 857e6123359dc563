-- Moves that leave the dataset of the staged tables as it is.
use Rattle.std.proofs.Common.{◌≡◌, ◌≢◌, ℕ, zero, suc, ◌==◌, Bool, true, false, List, [], ◌∷◌, ◌++◌, map, filter, take, length, if◌then◌else◌, refl, sym, ◌∙◌, ap, subst, inl, inr, arith}
use Rattle.std.specs.Prelude.{not, Option, Some, None}
use Rattle.std.specs.Str.{bytes_eq}
use Rattle.std.proofs.lemmas.Bool.{cond-true, cond-false, cases_Bool, ne_eqb, eqb-true}
use Rattle.std.proofs.lemmas.Slice.Eq.{bytes_eq-Decides}
use Rattle.ov_value.specs.declared.column.Column.{Column}
use Rattle.ov_model.specs.Book.{Row, Cvd}
use Rattle.ov_model.specs.Deed.{is_own, own_rows}
use Rattle.ov_model.specs.Moves.{Move, Init, Commit, BeginPlan, Copy, Flip, Drop, Checkpoint, change, committed, moved, new_set, numbered, wide}
use Rattle.ov_model.specs.Plans.{copied_more, flipped, flipped_by, planned}
use Rattle.ov_model.specs.Records.{rows_at}
use Rattle.ov_model.specs.Registry.{stage_name}
use Rattle.ov_model.specs.Steps.{all_moved}
use Rattle.ov_model.specs.World.{Plan, Dataset, World, cvd_in, first_set, named, set_named}
use Rattle.ov_model.proofs.Alike.{first_named, found_in_book}
use Rattle.law_users.specs.Owners.{AreApart, HaveNumbersBelow, IsApart}

-- the dataset of the staged tables, without its partitions
abbrev pub stage_of : World → Option Cvd
stage_of w = cvd_in (set_named w stage_name)

abbrev in_book : List Dataset → Option Cvd
in_book sets = first_named stage_name (map (λ d. d.cvd) sets)

abbrev pub IsOther : ℕ → Option Cvd → Type 0
IsOther number None = Unit {0}
IsOther number (Some cvd) = (cvd.number == number) ≡ false

abbrev pub Spares : Move → Option Cvd → Type 0
Spares (Init name schema rows) c = bytes_eq name stage_name ≡ false
Spares (Commit number parents message added rows) c = IsOther number c
Spares (BeginPlan number p q) c = Unit {0}
Spares (Copy number) c = Unit {0}
Spares (Flip number) c = Unit {0}
Spares (Drop number) c = IsOther number c
Spares Checkpoint c = Unit {0}

-- ---- one move

found_here : (c : Cvd) (cs : List Cvd) → bytes_eq c.name stage_name ≡ true → first_named stage_name (c ∷ cs) ≡ Some c
found_here c cs is = cond-true (bytes_eq c.name stage_name) (Some c) (first_named stage_name cs) is

found_later : (c : Cvd) (cs : List Cvd) → bytes_eq c.name stage_name ≡ false → first_named stage_name (c ∷ cs) ≡ first_named stage_name cs
found_later c cs is = cond-false (bytes_eq c.name stage_name) (Some c) (first_named stage_name cs) is

append_spares : (sets : List Dataset) (d : Dataset) → bytes_eq d.cvd.name stage_name ≡ false → in_book (sets ++ d ∷ []) ≡ in_book sets
append_spares [] d is = found_later d.cvd [] is
append_spares (x ∷ sets) d is = ap (λ (later : Option Cvd). if bytes_eq x.cvd.name stage_name then Some x.cvd else later) (append_spares sets d is)

-- a change that leaves each dataset's versions
same_if : (t : Bool) (f : Dataset → Dataset) (d : Dataset) → (f d).cvd ≡ d.cvd → (let one : Dataset = (if t then f d else d) in one).cvd ≡ d.cvd
same_if true f d same = same
same_if false f d same = refl

change_same : (number : ℕ) (f : Dataset → Dataset) → ((d : Dataset) → (f d).cvd ≡ d.cvd) → (sets : List Dataset)
    → map (λ d. d.cvd) (change number f sets) ≡ map (λ d. d.cvd) sets
change_same number f same [] = refl
change_same number f same (d ∷ sets) = λ i. same_if (numbered number d) f d (same d) i ∷ change_same number f same sets i

-- a change of another dataset
name_if : (t : Bool) (f : Dataset → Dataset) (d : Dataset) → (f d).cvd.name ≡ d.cvd.name → (let one : Dataset = (if t then f d else d) in one).cvd.name ≡ d.cvd.name
name_if true f d same = same
name_if false f d same = refl

module _ (number : ℕ) (f : Dataset → Dataset) (keeps : (d : Dataset) → (f d).cvd.name ≡ d.cvd.name) where
  abbrev one : Dataset → Dataset
  one d = if numbered number d then f d else d

  change_spares : (sets : List Dataset) → IsOther number (in_book sets) → in_book (change number f sets) ≡ in_book sets
  change_spares [] other = refl
  change_spares (d ∷ sets) other = elim (cases_Bool (bytes_eq d.cvd.name stage_name)) [
    | inl is ↦
        let found : in_book (d ∷ sets) ≡ Some d.cvd = found_here d.cvd (map (λ x. x.cvd) sets) is
        in let no : (d.cvd.number == number) ≡ false = subst (IsOther number) found other
        in let same : one d ≡ d = cond-false (numbered number d) (f d) d no
        in ap (λ (x : Dataset). first_named stage_name (x.cvd ∷ map (λ y. y.cvd) (change number f sets))) same
        ∙ (found_here d.cvd (map (λ y. y.cvd) (change number f sets)) is ∙ sym found)
    | inr isnt ↦
        let after : bytes_eq (one d).cvd.name stage_name ≡ false = ap (λ (n : List ℕ). bytes_eq n stage_name) (name_if (numbered number d) f d (keeps d)) ∙ isnt
        in let before : in_book (d ∷ sets) ≡ in_book sets = found_later d.cvd (map (λ x. x.cvd) sets) isnt
        in found_later (one d).cvd (map (λ y. y.cvd) (change number f sets)) after
        ∙ (change_spares sets (subst (IsOther number) before other) ∙ sym before)
  ]

left_if : (t : Bool) (d : Dataset) (rest : List Dataset) (sets : List Dataset) → bytes_eq d.cvd.name stage_name ≡ false → in_book rest ≡ in_book sets
    → in_book (if t then d ∷ rest else rest) ≡ in_book sets
left_if true d rest sets isnt same = found_later d.cvd (map (λ x. x.cvd) rest) isnt ∙ same
left_if false d rest sets isnt same = same

drop_spares : (number : ℕ) (sets : List Dataset) → IsOther number (in_book sets) → in_book (filter (λ d. not (numbered number d)) sets) ≡ in_book sets
drop_spares number [] other = refl
drop_spares number (d ∷ sets) other = elim (cases_Bool (bytes_eq d.cvd.name stage_name)) [
  | inl is ↦
      let found : in_book (d ∷ sets) ≡ Some d.cvd = found_here d.cvd (map (λ x. x.cvd) sets) is
      in let no : (d.cvd.number == number) ≡ false = subst (IsOther number) found other
      in let rest : List Dataset = filter (λ x. not (numbered number x)) sets
      in let kept : (if not (numbered number d) then d ∷ rest else rest) ≡ d ∷ rest = cond-true (not (numbered number d)) (d ∷ rest) rest (ap not no)
      in ap in_book kept ∙ (found_here d.cvd (map (λ x. x.cvd) rest) is ∙ sym found)
  | inr isnt ↦
      let before : in_book (d ∷ sets) ≡ in_book sets = found_later d.cvd (map (λ x. x.cvd) sets) isnt
      in left_if (not (numbered number d)) d (filter (λ x. not (numbered number x)) sets) sets isnt (drop_spares number sets (subst (IsOther number) before other)) ∙ sym before
]

flipped_same : (d : Dataset) (plan : Option Plan) → (flipped_by d plan).cvd ≡ d.cvd
flipped_same d None = refl
flipped_same d (Some plan) = refl

wide_name : (added : List Column) (d : Dataset) → (wide added d).cvd.name ≡ d.cvd.name
wide_name [] d = refl
wide_name (column ∷ added) d = refl

book_spares : (m : Move) (w : World) → Spares m (in_book w.sets) → in_book (moved m w).sets ≡ in_book w.sets
book_spares (Init name schema rows) w spares = append_spares w.sets (new_set w.next name schema rows) spares
book_spares (Commit number parents message added rows) w spares = change_spares number (committed parents message added rows) (wide_name added) w.sets spares
book_spares (BeginPlan number p q) w spares = ap (first_named stage_name) (change_same number (planned p q) (λ d. refl) w.sets)
book_spares (Copy number) w spares = ap (first_named stage_name) (change_same number copied_more (λ d. refl) w.sets)
book_spares (Flip number) w spares = ap (first_named stage_name) (change_same number flipped (λ d. flipped_same d d.plan) w.sets)
book_spares (Drop number) w spares = drop_spares number w.sets spares
book_spares Checkpoint w spares = refl

pub spared : (m : Move) (w : World) → Spares m (stage_of w) → stage_of (moved m w) ≡ stage_of w
spared m w spares =
    found_in_book stage_name (moved m w).sets ∙ (book_spares m w (subst (Spares m) (found_in_book stage_name w.sets) spares) ∙ sym (found_in_book stage_name w.sets))

-- ---- several

abbrev pub AllSpare : List Move → Option Cvd → Type 0
AllSpare [] c = Unit {0}
AllSpare (m ∷ ms) c = Spares m c × AllSpare ms c

pub all_spared : (ms : List Move) (w : World) (k : ℕ) → AllSpare ms (stage_of w) → stage_of (all_moved (take k ms) w) ≡ stage_of w
all_spared ms w zero spare = refl
all_spared [] w (suc k) spare = refl
all_spared (m ∷ ms) w (suc k) spare =
    let one = spared m w spare.0
    in all_spared ms (moved m w) k (subst (AllSpare ms) (sym one) spare.1) ∙ one

-- a user's rows hang on it alone
abbrev pub own_in : List ℕ → Option Cvd → List Row
own_in user None = []
own_in user (Some cvd) = filter (is_own user) (rows_at cvd.versions (length cvd.versions))

own_is : (user : List ℕ) (d : Option Dataset) → own_rows user d ≡ own_in user (cvd_in d)
own_is user None = refl
own_is user (Some d) = refl

pub own_spared : (user : List ℕ) (ms : List Move) (w : World) (k : ℕ) → AllSpare ms (stage_of w)
    → own_rows user (set_named (all_moved (take k ms) w) stage_name) ≡ own_rows user (set_named w stage_name)
own_spared user ms w k spare =
    own_is user (set_named (all_moved (take k ms) w) stage_name) ∙ (ap (own_in user) (all_spared ms w k spare) ∙ sym (own_is user (set_named w stage_name)))

-- ---- numbers of other datasets

same_number : (a b : ℕ) → (a == b) ≡ true → a ≡ b
same_number a b e = eqb-true a b e

other_number : (a b : ℕ) → a ≢ b → (a == b) ≡ false
other_number a b differ = ne_eqb a b differ

-- one that a test finds among those that a dataset is apart from
apart_found : (test : Dataset → Bool) (sets : List Dataset) (d e : Dataset) → IsApart d sets → first_set test sets ≡ Some e → d.cvd.number ≢ e.cvd.number
apart_found test [] d e apart found = absurd cc
apart_found test (x ∷ sets) d e apart found = elim (cases_Bool (test x)) [
  | inl is ↦
      let same : Some x ≡ Some e = sym (cond-true (test x) (Some x) (first_set test sets) is) ∙ found
      in let x_is : x ≡ e = cc
      in subst (λ (y : Dataset). d.cvd.number ≢ y.cvd.number) x_is apart.0.0
  | inr isnt ↦ apart_found test sets d e apart.1 (sym (cond-false (test x) (Some x) (first_set test sets) isnt) ∙ found)
]

turned : (a b : ℕ) → a ≢ b → b ≢ a
turned a b differ = λ same. differ (sym same)

-- the dataset of the staged tables isn't the one that a test on names finds, where the name is another
other_found : (d : Dataset) (sets : List Dataset) (o : Option Dataset) → IsApart d sets → first_set (named stage_name) sets ≡ o → IsOther d.cvd.number (cvd_in o)
other_found d sets None apart found = tt
other_found d sets (Some e) apart found = other_number e.cvd.number d.cvd.number (turned d.cvd.number e.cvd.number (apart_found (named stage_name) sets d e apart found))

not_both : (name : List ℕ) (c : Cvd) → bytes_eq c.name name ≡ true → bytes_eq name stage_name ≡ false → bytes_eq c.name stage_name ≡ false
not_both name c is isnt =
    let same : c.name ≡ name = (bytes_eq-Decides c.name name).0 is
    in ap (λ (n : List ℕ). bytes_eq n stage_name) same ∙ isnt

in_sets : (name : List ℕ) (sets : List Dataset) (d : Dataset) → AreApart sets → first_set (named name) sets ≡ Some d → bytes_eq name stage_name ≡ false
    → IsOther d.cvd.number (cvd_in (first_set (named stage_name) sets))
in_sets name [] d apart found isnt = absurd cc
in_sets name (x ∷ sets) d apart found isnt = elim (cases_Bool (named name x)) [
  | inl is ↦
      let same : Some x ≡ Some d = sym (cond-true (named name x) (Some x) (first_set (named name) sets) is) ∙ found
      in let x_is : x ≡ d = cc
      in let later : first_set (named stage_name) (x ∷ sets) ≡ first_set (named stage_name) sets =
      cond-false (named stage_name x) (Some x) (first_set (named stage_name) sets) (not_both name x.cvd is isnt)
      in subst (λ (o : Option Dataset). IsOther d.cvd.number (cvd_in o)) (sym later)
      (subst (λ (y : Dataset). IsOther y.cvd.number (cvd_in (first_set (named stage_name) sets))) x_is
      (other_found x sets (first_set (named stage_name) sets) apart.0 refl))
  | inr other ↦
      let found_then : first_set (named name) sets ≡ Some d = sym (cond-false (named name x) (Some x) (first_set (named name) sets) other) ∙ found
      in elim (cases_Bool (named stage_name x)) [
        | inl here ↦
            subst (λ (o : Option Dataset). IsOther d.cvd.number (cvd_in o)) (sym (cond-true (named stage_name x) (Some x) (first_set (named stage_name) sets) here))
            (other_number x.cvd.number d.cvd.number (apart_found (named name) sets x d apart.0 found_then))
        | inr later ↦
            subst (λ (o : Option Dataset). IsOther d.cvd.number (cvd_in o)) (sym (cond-false (named stage_name x) (Some x) (first_set (named stage_name) sets) later))
            (in_sets name sets d apart.1 found_then isnt)
      ]
]

pub other_named : (w : World) (name : List ℕ) (d : Dataset) → AreApart w.sets → set_named w name ≡ Some d → bytes_eq name stage_name ≡ false
    → IsOther d.cvd.number (stage_of w)
other_named w name d apart found isnt = in_sets name w.sets d apart found isnt

-- nor has it the next number
below_found : (test : Dataset → Bool) (next : ℕ) (sets : List Dataset) → HaveNumbersBelow next sets → IsOther next (cvd_in (first_set test sets))
below_found test next [] below = tt
below_found test next (d ∷ sets) below = by (test d) (below_found test next sets below.1)
  where
    by : (t : Bool) → IsOther next (cvd_in (first_set test sets)) → IsOther next (cvd_in (if t then Some d else first_set test sets))
    by true rest = other_number d.cvd.number next (λ same. omega (arith, same, below.0))
    by false rest = rest

pub next_is_other : (w : World) → HaveNumbersBelow w.next w.sets → IsOther w.next (stage_of w)
next_is_other w below = below_found (named stage_name) w.next w.sets below
