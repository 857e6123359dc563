-- Members of pieces, and records of versions.
use Rattle.std.proofs.Common.{◌≡◌, ◌<◌, ℕ, zero, suc, ◌+◌, ◌-◌, Bool, true, false, List, [], ◌∷◌, ◌++◌, length, filter, take, get_or, refl, sym, ◌∙◌, ap, subst, inl, inr, arith}
use Rattle.std.specs.Prelude.{◌⊎◌, ◌||◌, if◌then◌else◌, not}
use Rattle.std.specs.List.{list_any}
use Rattle.std.proofs.lemmas.Bool.{cases_Bool}
use Rattle.std.proofs.lemmas.List.{append-nil, length-append}
use Rattle.ov_model.specs.Holding.{VersionsAreIn}
use Rattle.ov_model.specs.Lists.{IsIn, AreIn, joined}
use Rattle.ov_model.specs.Moves.{piece_of}
use Rattle.ov_model.specs.Records.{Rec, is_same_rec, is_among, lacking, of_version}
use Rattle.ov_model.proofs.Holds.{same_recs}
use Rattle.ov_model.proofs.Origins.{in_left, in_right, are_more}
use Rattle.law_partitions.specs.Pieces.{AllFull, IsOfOne, AreOf}

-- ---- members

in_if : (t rest : Bool) (r x : Rec) (xs : List Rec) → (t ≡ true → r ≡ x) → (rest ≡ true → IsIn xs r) → (t || rest) ≡ true → (r ≡ x) ⊎ IsIn xs r
in_if true rest r x xs here later e = inl (here refl)
in_if false rest r x xs here later e = inr (later e)

pub among_in : (xs : List Rec) (r : Rec) → is_among xs r ≡ true → IsIn xs r
among_in [] r e = cc
among_in (x ∷ xs) r e = in_if (is_same_rec r x) (is_among xs r) r x xs (λ t. same_recs r x t) (among_in xs r) e

pub in_either : (a b : List Rec) (r : Rec) → IsIn (a ++ b) r → IsIn a r ⊎ IsIn b r
in_either [] b r is = inr is
in_either (x ∷ a) b r (inl same) = inl (inl same)
in_either (x ∷ a) b r (inr later) =
    elim (in_either a b r later) [
      | inl first ↦ inl (inr first)
      | inr second ↦ inr second
    ]

filter_if : (t : Bool) (p : Rec → Bool) (x r : Rec) (rest rs : List Rec) → p x ≡ t → (IsIn rest r → IsIn rs r × (p r ≡ true)) → IsIn (if t then x ∷ rest else rest) r → IsIn (x ∷ rs) r × (p r ≡ true)
filter_if true p x r rest rs passes later (inl same) = (inl same, ap p same ∙ passes)
filter_if true p x r rest rs passes later (inr is) = (inr (later is).0, (later is).1)
filter_if false p x r rest rs passes later is = (inr (later is).0, (later is).1)

pub in_filtered : (p : Rec → Bool) (rs : List Rec) (r : Rec) → IsIn (filter p rs) r → IsIn rs r × (p r ≡ true)
in_filtered p [] r is = absurd is
in_filtered p (x ∷ rs) r is = filter_if (p x) p x r (filter p rs) rs refl (in_filtered p rs r) is

pub in_taken : (n : ℕ) (rs : List Rec) (r : Rec) → IsIn (take n rs) r → IsIn rs r
in_taken zero rs r is = absurd is
in_taken (suc n) [] r is = absurd is
in_taken (suc n) (x ∷ rs) r (inl same) = inl same
in_taken (suc n) (x ∷ rs) r (inr later) = inr (in_taken n rs r later)

more_in : (x : Rec) (rs all : List Rec) → AreIn rs all → AreIn rs (x ∷ all)
more_in x [] all are = tt
more_in x (r ∷ rs) all are = (inr are.0, more_in x rs all are.1)

pub all_in : (rs : List Rec) → AreIn rs rs
all_in [] = tt
all_in (r ∷ rs) = (inl refl, more_in r rs rs (all_in rs))

-- a record is among some, or it is one that they lack
lack_if : (t : Bool) (r : Rec) (rest : List Rec) → t ≡ false → IsIn (if not t then r ∷ rest else rest) r
lack_if true r rest e = cc
lack_if false r rest e = inl refl

keep_if : (t : Bool) (x r : Rec) (rest : List Rec) → IsIn rest r → IsIn (if t then x ∷ rest else rest) r
keep_if true x r rest is = inr is
keep_if false x r rest is = is

lacking_in : (rs others : List Rec) (r : Rec) → is_among others r ≡ false → IsIn rs r → IsIn (lacking rs others) r
lacking_in [] others r none is = absurd is
lacking_in (x ∷ rs) others r none (inl same) =
    subst (λ y. IsIn (if not (is_among others y) then y ∷ lacking rs others else lacking rs others) r) same
    (lack_if (is_among others r) r (lacking rs others) none)
lacking_in (x ∷ rs) others r none (inr later) = keep_if (not (is_among others x)) x r (lacking rs others) (lacking_in rs others r none later)

pub with_lacking : (rs others all : List Rec) → AreIn rs all → AreIn rs (others ++ lacking all others)
with_lacking [] others all are = tt
with_lacking (r ∷ rs) others all are = (
  elim (cases_Bool (is_among others r)) [
    | inl there ↦ in_left others (lacking all others) r (among_in others r there)
    | inr none ↦ in_right others (lacking all others) r (lacking_in all others r none are.0)
  ],
  with_lacking rs others all are.1,
)

-- ---- pieces

pub piece_all : (rs : List Rec) → joined (piece_of rs) ≡ rs
piece_all [] = refl
piece_all (r ∷ rs) = append-nil (r ∷ rs)

pub piece_full : (rs : List Rec) → AllFull (piece_of rs)
piece_full [] = tt
piece_full (r ∷ rs) = (omega arith, tt)

pub append_assoc : (xs ys zs : List Rec) → (xs ++ ys) ++ zs ≡ xs ++ (ys ++ zs)
append_assoc [] ys zs = refl
append_assoc (y ∷ xs) ys zs = ap (λ l. y ∷ l) (append_assoc xs ys zs)

pub joined-append : (a b : List (List Rec)) → joined (a ++ b) ≡ joined a ++ joined b
joined-append [] b = refl
joined-append (x ∷ a) b = ap (λ l. x ++ l) (joined-append a b) ∙ sym (append_assoc x (joined a) (joined b))

pub full-append : (a b : List (List Rec)) → AllFull a → AllFull b → AllFull (a ++ b)
full-append [] b full more = more
full-append (x ∷ a) b full more = (full.0, full-append a b full.1 more)

-- ---- records of versions

pub is_of : (done : List (List Rec)) (vids : List ℕ) (rs : List Rec) (r : Rec) → AreOf done vids rs → IsIn rs r → IsOfOne done vids r
is_of done vids [] r are is = absurd is
is_of done vids (x ∷ rs) r are (inl same) = subst (IsOfOne done vids) (sym same) are.0
is_of done vids (x ∷ rs) r are (inr later) = is_of done vids rs r are.1 later

each_of : (done : List (List Rec)) (vids : List ℕ) (rs all : List Rec) → AreIn rs all → ((r : Rec) → IsIn all r → IsOfOne done vids r) → AreOf done vids rs
each_of done vids [] all are each = tt
each_of done vids (r ∷ rs) all are each = (each r are.0, each_of done vids rs all are.1 each)

pub are_of : (done : List (List Rec)) (vids : List ℕ) (rs : List Rec) → ((r : Rec) → IsIn rs r → IsOfOne done vids r) → AreOf done vids rs
are_of done vids rs each = each_of done vids rs rs (all_in rs) each

pub of-append : (done : List (List Rec)) (vids : List ℕ) (a b : List Rec) → AreOf done vids a → AreOf done vids b → AreOf done vids (a ++ b)
of-append done vids [] b are more = more
of-append done vids (r ∷ a) b are more = (are.0, of-append done vids a b are.1 more)

pub of_left : (done : List (List Rec)) (a b : List ℕ) (r : Rec) → IsOfOne done a r → IsOfOne done (a ++ b) r
of_left done [] b r is = absurd is
of_left done (vid ∷ a) b r (inl here) = inl here
of_left done (vid ∷ a) b r (inr later) = inr (of_left done a b r later)

pub of_right : (done : List (List Rec)) (a b : List ℕ) (r : Rec) → IsOfOne done b r → IsOfOne done (a ++ b) r
of_right done [] b r is = is
of_right done (vid ∷ a) b r is = inr (of_right done a b r is)

any_of : (done : List (List Rec)) (vid : ℕ) (vids : List ℕ) (r : Rec) (t rest : Bool) → (t ≡ true → IsIn (of_version done vid) r) → (rest ≡ true → IsOfOne done vids r) → (t || rest) ≡ true → IsOfOne done (vid ∷ vids) r
any_of done vid vids r true rest here later e = inl (here refl)
any_of done vid vids r false rest here later e = inr (later e)

pub of_any : (done : List (List Rec)) (vids : List ℕ) (r : Rec) → list_any (λ vid. is_among (of_version done vid) r) vids ≡ true → IsOfOne done vids r
of_any done [] r e = cc
of_any done (vid ∷ vids) r e =
    any_of done vid vids r (is_among (of_version done vid) r) (list_any (λ v. is_among (of_version done v) r) vids)
    (among_in (of_version done vid) r) (of_any done vids r) e

-- with the records of a version more
at_longer : (done : List (List Rec)) (l : List Rec) (k : ℕ) (r : Rec) → IsIn (get_or done k []) r → IsIn (get_or (done ++ l ∷ []) k []) r
at_longer [] l k r is = absurd is
at_longer (x ∷ done) l zero r is = is
at_longer (x ∷ done) l (suc k) r is = at_longer done l k r is

pub of_longer : (done : List (List Rec)) (l : List Rec) (vids : List ℕ) (r : Rec) → IsOfOne done vids r → IsOfOne (done ++ l ∷ []) vids r
of_longer done l [] r is = is
of_longer done l (vid ∷ vids) r (inl here) = inl (at_longer done l (vid - 1) r here)
of_longer done l (vid ∷ vids) r (inr later) = inr (of_longer done l vids r later)

pub are_longer : (done : List (List Rec)) (l : List Rec) (vids : List ℕ) (rs : List Rec) → AreOf done vids rs → AreOf (done ++ l ∷ []) vids rs
are_longer done l vids [] are = tt
are_longer done l vids (r ∷ rs) are = (of_longer done l vids r are.0, are_longer done l vids rs are.1)

at_last : (done : List (List Rec)) (l : List Rec) → get_or (done ++ l ∷ []) (length done) [] ≡ l
at_last [] l = refl
at_last (x ∷ done) l = at_last done l

pub last_is : (done : List (List Rec)) (l : List Rec) → of_version (done ++ l ∷ []) (length done + 1) ≡ l
last_is done l =
    let place : length done + 1 - 1 ≡ length done = omega arith
    in ap (λ k. get_or (done ++ l ∷ []) k []) place ∙ at_last done l

at_more : (done : List (List Rec)) (l : List Rec) (k : ℕ) → k < length done → get_or (done ++ l ∷ []) k [] ≡ get_or done k []
at_more [] l k low = absurd (omega (arith, low))
at_more (x ∷ done) l zero low = refl
at_more (x ∷ done) l (suc k) low = at_more done l k (omega (arith, low))

pub versions_more : (done : List (List Rec)) (l : List Rec) (vids : List ℕ) (all more : List Rec) → VersionsAreIn done vids all → VersionsAreIn (done ++ l ∷ []) vids (all ++ more)
versions_more done l [] all more are = tt
versions_more done l (vid ∷ vids) all more are = (
  (
    (are.0.0.0, omega (arith, length-append done (l ∷ []), are.0.0.1)),
    subst (λ rs. AreIn rs (all ++ more)) (sym (at_more done l (vid - 1) (omega (arith, are.0.0.0, are.0.0.1)))) (are_more (of_version done vid) all more are.0.1),
  ),
  versions_more done l vids all more are.1,
)

pub versions-append : (done : List (List Rec)) (a b : List ℕ) (all : List Rec) → VersionsAreIn done a all → VersionsAreIn done b all → VersionsAreIn done (a ++ b) all
versions-append done [] b all are more = more
versions-append done (vid ∷ a) b all are more = (are.0, versions-append done a b all are.1 more)

pub last_in : (done : List (List Rec)) (l all : List Rec) → AreIn l all → VersionsAreIn (done ++ l ∷ []) ((length done + 1) ∷ []) all
last_in done l all are =
    (((omega arith, omega (arith, length-append done (l ∷ []))), subst (λ rs. AreIn rs all) (sym (last_is done l)) are), tt)

pub last_of : (done : List (List Rec)) (l : List Rec) (r : Rec) → IsIn l r → IsOfOne (done ++ l ∷ []) ((length done + 1) ∷ []) r
last_of done l r is = inl (subst (λ rs. IsIn rs r) (sym (last_is done l)) is)
