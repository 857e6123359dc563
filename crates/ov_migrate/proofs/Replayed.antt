-- What is true of numbers that events make: a dataset's name finds it, and no more is copied for a target than it misses.
use Rattle.std.proofs.Common.{◌≡◌, ◌+◌, ◌≤◌, ℕ, Bool, true, false, ◌&&◌, ◌||◌, List, [], ◌∷◌, ◌++◌, length, refl, sym, ◌∙◌, ap, subst, inl, inr, arith}
use Rattle.std.specs.Prelude.{Option, Some, None, find, nat_le, nat_lt, if◌then◌else◌}
use Rattle.std.specs.List.{list_any}
use Rattle.std.specs.Bool.{Decides}
use Rattle.std.specs.Str.{bytes_eq}
use Rattle.std.proofs.lemmas.Bool.{leb-true}
use Rattle.std.proofs.lemmas.Slice.Eq.{bytes_eq-Decides}
use Rattle.ov_host.specs.declared.area.Extent.{Extent}
use Rattle.ov_model.specs.Lists.{IsIn}
use Rattle.ov_catalog.specs.Applying.{is_named}
use Rattle.ov_catalog.specs.Events.{current}
use Rattle.ov_catalog.specs.Numbers.{PlanNumbers, SetNumbers, Numbers}
use Rattle.ov_catalog.specs.Wholes.{is_plan}
use Rattle.law_snapshots.specs.Whole.{AreNew, names_of}
use Rattle.law_snapshots.proofs.Carrying.{all_whole, one_whole}
use Rattle.ov_core.specs.Held.{IsReplayed}

abbrev pub Set : Type 0
Set = SetNumbers Extent Extent

-- ---- tests

left_true : (a b : Bool) → (a && b) ≡ true → a ≡ true
left_true true b e = refl
left_true false b e = cc

right_true : (a b : Bool) → (a && b) ≡ true → b ≡ true
right_true true b e = e
right_true false b e = cc

or_left : (a b : Bool) → (a || b) ≡ false → a ≡ false
or_left true b e = cc
or_left false b e = refl

or_right : (a b : Bool) → (a || b) ≡ false → b ≡ false
or_right true b e = cc
or_right false b e = e

when_same : (a b : List ℕ) → a ≡ b → bytes_eq a b ≡ true
when_same a b same = by (bytes_eq a b) (bytes_eq-Decides a b)
  where
    by : (x : Bool) → Decides x (a ≡ b) → x ≡ true
    by true is = refl
    by false is = is.1 same

-- ---- names, each of which is none of those before it

in_more : (names : List (List ℕ)) (last name : List ℕ) → IsIn names name → IsIn (names ++ last ∷ []) name
in_more [] last name is = absurd is
in_more (x ∷ names) last name (inl is) = inl is
in_more (x ∷ names) last name (inr is) = inr (in_more names last name is)

in_last : (names : List (List ℕ)) (last : List ℕ) → IsIn (names ++ last ∷ []) last
in_last [] last = inl refl
in_last (x ∷ names) last = inr (in_last names last)

other_than : (before : List (List ℕ)) (name other : List ℕ) → IsIn before name → list_any (λ x. bytes_eq x other) before ≡ false → bytes_eq name other ≡ false
other_than [] name other is none = absurd is
other_than (x ∷ before) name other (inl is) none =
    subst (λ (k : List ℕ). bytes_eq k other ≡ false) (sym is) (or_left (bytes_eq x other) (list_any (λ y. bytes_eq y other) before) none)
other_than (x ∷ before) name other (inr is) none =
    other_than before name other is (or_right (bytes_eq x other) (list_any (λ y. bytes_eq y other) before) none)

other_later : (before : List (List ℕ)) (name : List ℕ) (sets : List Set) (s : Set) → IsIn before name → AreNew before (names_of sets) → IsIn sets s
    → bytes_eq name s.name ≡ false
other_later before name [] s there new is = absurd is
other_later before name (d ∷ sets) s there new (inl is) =
    subst (λ (x : Set). bytes_eq name x.name ≡ false) (sym is) (other_than before name d.name there new.0)
other_later before name (d ∷ sets) s there new (inr is) =
    other_later (before ++ d.name ∷ []) name sets s (in_more before d.name name there) new.1 is

in_named : (before : List (List ℕ)) (sets : List Set) (s : Set) → AreNew before (names_of sets) → IsIn sets s → find (is_named s.name) sets ≡ Some s
in_named before [] s new is = absurd is
in_named before (d ∷ sets) s new (inl is) =
    let same : bytes_eq d.name s.name ≡ true = when_same d.name s.name (ap (λ x. x.name) (sym is))
    in ap (λ b. if b then Some d else find (is_named s.name) sets) same ∙ ap Some (sym is)
in_named before (d ∷ sets) s new (inr is) =
    let other : bytes_eq d.name s.name ≡ false = other_later (before ++ d.name ∷ []) d.name sets s (in_last before d.name) new.1 is
    in ap (λ b. if b then Some d else find (is_named s.name) sets) other ∙ in_named (before ++ d.name ∷ []) sets s new.1 is

-- ---- plans

-- no more is copied than the current target misses
abbrev pub PlanIsFit : Option (PlanNumbers Extent) → Type 0
PlanIsFit None = Unit {0}
PlanIsFit (Some p) = (current p).kept_records + p.copied ≤ (current p).size

fit_of : (d : Set) (plan : Option (PlanNumbers Extent)) → is_plan d plan ≡ true → PlanIsFit plan
fit_of d None is = tt
fit_of d (Some p) is =
    let low : Bool = nat_lt p.at (length p.targets)
    in let fits : Bool = nat_le (p.copied + (current p).kept_records) (current p).size
    in omega (arith, leb-true (p.copied + (current p).kept_records) (current p).size (right_true low fits (left_true (low && fits) _ is)))

-- ---- one that is found

pub first_found : (test : Set → Bool) (sets : List Set) (s : Set) → find test sets ≡ Some s → IsIn sets s
first_found test [] s e = absurd cc
first_found test (d ∷ sets) s e = by (test d) e (first_found test sets s)
  where
    by : (b : Bool) → (if b then Some d else find test sets) ≡ Some s → (find test sets ≡ Some s → IsIn sets s) → IsIn (d ∷ sets) s
    by true is later = inl (sym (ap (λ o. elim o as (λ _. Set) [ None ↦ d | Some x ↦ x ]) is))
    by false is later = inr (later is)

-- ---- of the numbers that a store keeps

-- a dataset's name finds it
pub named_again : (n : Numbers Extent Extent) (s : Set) → IsReplayed n → IsIn n.sets s → find (is_named s.name) n.sets ≡ Some s
named_again n s is there =
    in_named [] n.sets s (subst (λ (m : Numbers Extent Extent). AreNew [] (names_of m.sets)) (sym is.are) (all_whole is.format is.events is.follow).names) there

pub plan_fits : (n : Numbers Extent Extent) (s : Set) → IsReplayed n → IsIn n.sets s → PlanIsFit s.plan
plan_fits n s is there =
    fit_of s s.plan (one_whole is.format is.events s is.follow (subst (λ (m : Numbers Extent Extent). IsIn m.sets s) is.are there)).plan
