-- Every record of a version stays in its partition.
use Rattle.std.proofs.Common.{◌≡◌, ◌≤◌, ◌<◌, ◌⊎◌, ℕ, zero, suc, ◌+◌, ◌-◌, Bool, true, false, ◌==◌, List, [], ◌∷◌, ◌++◌, length, map, filter, get_or, refl, sym, ◌∙◌, ap, subst, inl, inr, arith}
use Rattle.std.specs.Prelude.{codes, ◌&&◌, ◌||◌, not, Option, Some, None, if◌then◌else◌}
use Rattle.std.specs.List.{list_any}
use Rattle.std.proofs.lemmas.List.{length-append, length-map, append-nil}
use Rattle.std.proofs.lemmas.Bool.{cases_Bool, eqb-true}
use Rattle.ov_place.specs.declared.place_facts.Place.{Place}
use Rattle.ov_place.specs.declared.place_facts.Place.TheVariants.{Own, Join}
use Rattle.ov_value.specs.declared.column.Column.{Column}
use Rattle.ov_model.specs.Book.{Version}
use Rattle.ov_model.specs.Holding.{VersionsAreIn, PartsHold, IsHeld, AreHeld, HasAll, AllHaveAll, MayFlip}
use Rattle.ov_model.specs.Lists.{IsIn, AreIn, AllAreIn, joined}
use Rattle.ov_model.specs.Moves.{Move, Init, Commit, BeginPlan, Copy, Flip, Drop, Checkpoint, moved, change, numbered, committed, with_version, version_of, wide, wide_part, wide_rec, placed_at, parts_with, with_joined, own_part, piece_of, new_set}
use Rattle.ov_model.specs.Placed.{AreVersions, ArePlaced, IsPlaced, PlanIs, times}
use Rattle.ov_model.specs.Plans.{planned, copied_more, current, kept_pieces, missing, records_in, leaving, left_parts, target_part, flipped_by, flipped}
use Rattle.ov_model.specs.Records.{Rec, is_same_rec, is_same_row, is_among, in_order, ordered_records, lacking, recs, records_of, of_version, order_of}
use Rattle.ov_model.specs.World.{Part, Plan, Dataset, World, held, is_one}
use Rattle.ov_model.proofs.Growing.{recs_more, length_recs, same_rec-refl}
use Rattle.ov_model.proofs.Origins.{all_known, next_known, in_left, in_right, in_filter, are_more}
use Rattle.ov_model.proofs.Counting.{one_same, not_listed}
use Rattle.ov_model.proofs.Placing.{target_at}
use Rattle.ov_model.proofs.Widening.{same_rows, map_are_in, joined_map, wide_version_recs, wide_recs}

-- ---- what is among records is in them

both_true : (a b : Bool) → (a && b) ≡ true → (a ≡ true) × (b ≡ true)
both_true true b e = (refl, e)
both_true false b e = cc

pub same_recs : (a b : Rec) → is_same_rec a b ≡ true → a ≡ b
same_recs a b e =
    let both = both_true (a.origin == b.origin) (is_same_row a.row b.row) e
    in λ i. record { origin = eqb-true a.origin b.origin both.0 i; row = same_rows a.row b.row both.1 i }

in_if : (t rest : Bool) (r x : Rec) (xs : List Rec) → (t ≡ true → r ≡ x) → (rest ≡ true → IsIn xs r) → (t || rest) ≡ true → (r ≡ x) ⊎ IsIn xs r
in_if true rest r x xs here later e = inl (here refl)
in_if false rest r x xs here later e = inr (later e)

pub among_in : (xs : List Rec) (r : Rec) → is_among xs r ≡ true → IsIn xs r
among_in [] r e = cc
among_in (x ∷ xs) r e = in_if (is_same_rec r x) (is_among xs r) r x xs (λ t. same_recs r x t) (among_in xs r) e

pub in_among : (xs : List Rec) (r : Rec) → IsIn xs r → is_among xs r ≡ true
in_among [] r is = absurd is
in_among (x ∷ xs) r (inl same) = or_true (is_same_rec r x) (is_among xs r) (ap (is_same_rec r) (sym same) ∙ same_rec-refl r)
  where
    or_true : (a b : Bool) → a ≡ true → (a || b) ≡ true
    or_true true b e = refl
    or_true false b e = cc
in_among (x ∷ xs) r (inr later) = or_later (is_same_rec r x) (is_among xs r) (in_among xs r later)
  where
    or_later : (a b : Bool) → b ≡ true → (a || b) ≡ true
    or_later true b e = refl
    or_later false b e = e

more_in : (x : Rec) (rs all : List Rec) → AreIn rs all → AreIn rs (x ∷ all)
more_in x [] all are = tt
more_in x (r ∷ rs) all are = (inr are.0, more_in x rs all are.1)

all_in : (rs : List Rec) → AreIn rs rs
all_in [] = tt
all_in (r ∷ rs) = (inl refl, more_in r rs rs (all_in rs))

-- a record is among some, or it is one that they lack
lack_if : (t : Bool) (r : Rec) (rest : List Rec) → t ≡ false → IsIn (if not t then r ∷ rest else rest) r
lack_if true r rest e = cc
lack_if false r rest e = inl refl

keep_if : (t : Bool) (x r : Rec) (rest : List Rec) → IsIn rest r → IsIn (if t then x ∷ rest else rest) r
keep_if true x r rest is = inr is
keep_if false x r rest is = is

lacking_in : (rs others : List Rec) (r : Rec) → is_among others r ≡ false → IsIn rs r → IsIn (lacking rs others) r
lacking_in [] others r none is = absurd is
lacking_in (x ∷ rs) others r none (inl same) =
    subst (λ y. IsIn (if not (is_among others y) then y ∷ lacking rs others else lacking rs others) r) same
    (lack_if (is_among others r) r (lacking rs others) none)
lacking_in (x ∷ rs) others r none (inr later) = keep_if (not (is_among others x)) x r (lacking rs others) (lacking_in rs others r none later)

with_lacking : (rs others all : List Rec) → AreIn rs all → AreIn rs (others ++ lacking all others)
with_lacking [] others all are = tt
with_lacking (r ∷ rs) others all are = (
  elim (cases_Bool (is_among others r)) [
    | inl there ↦ in_left others (lacking all others) r (among_in others r there)
    | inr none ↦ in_right others (lacking all others) r (lacking_in all others r none are.0)
  ],
  with_lacking rs others all are.1,
)

-- all records of the next version are among those in the order of their rids
in_the_order : (rs l all : List Rec) → AreIn rs all → AreIn rs l → AreIn rs (in_order all l)
in_the_order [] l all are is = tt
in_the_order (r ∷ rs) l all are is = (in_filter (is_among l) all r (in_among l r is.0) are.0, in_the_order rs l all are.1 is.1)

pub all_ordered : (vs : List Version) (v : Version) → AreIn (records_of v (recs vs [])) (ordered_records vs v)
all_ordered vs v = in_the_order (records_of v (recs vs [])) (records_of v (recs vs [])) (order_of (vs ++ v ∷ [])) (next_known vs v) (all_in (records_of v (recs vs [])))

-- ---- pieces

piece_all : (rs : List Rec) → joined (piece_of rs) ≡ rs
piece_all [] = refl
piece_all (r ∷ rs) = append-nil (r ∷ rs)

joined-append : (a b : List (List Rec)) → joined (a ++ b) ≡ joined a ++ joined b
joined-append [] b = refl
joined-append (x ∷ a) b = ap (λ l. x ++ l) (joined-append a b) ∙ sym (append_assoc x (joined a) (joined b))
  where
    append_assoc : (xs ys zs : List Rec) → (xs ++ ys) ++ zs ≡ xs ++ (ys ++ zs)
    append_assoc [] ys zs = refl
    append_assoc (y ∷ xs) ys zs = ap (λ l. y ∷ l) (append_assoc xs ys zs)

-- ---- versions more, records more, versions less

at_more : (done : List (List Rec)) (l : List Rec) (k : ℕ) → k < length done → get_or (done ++ l ∷ []) k [] ≡ get_or done k []
at_more [] l k low = absurd (omega (arith, low))
at_more (x ∷ done) l zero low = refl
at_more (x ∷ done) l (suc k) low = at_more done l k (omega (arith, low))

versions_more : (done : List (List Rec)) (l : List Rec) (vids : List ℕ) (all more : List Rec) → VersionsAreIn done vids all → VersionsAreIn (done ++ l ∷ []) vids (all ++ more)
versions_more done l [] all more are = tt
versions_more done l (vid ∷ vids) all more are = (
  (
    (are.0.0.0, omega (arith, length-append done (l ∷ []), are.0.0.1)),
    subst (λ rs. AreIn rs (all ++ more)) (sym (at_more done l (vid - 1) (omega (arith, are.0.0.0, are.0.0.1)))) (are_more (of_version done vid) all more are.0.1),
  ),
  versions_more done l vids all more are.1,
)

versions-append : (done : List (List Rec)) (a b : List ℕ) (all : List Rec) → VersionsAreIn done a all → VersionsAreIn done b all → VersionsAreIn done (a ++ b) all
versions-append done [] b all are more = more
versions-append done (vid ∷ a) b all are more = (are.0, versions-append done a b all are.1 more)

parts-append : (done : List (List Rec)) (a b : List Part) → PartsHold done a → PartsHold done b → PartsHold done (a ++ b)
parts-append done [] b are more = more
parts-append done (part ∷ a) b are more = (are.0, parts-append done a b are.1 more)

same_all : (done : List (List Rec)) (vids : List ℕ) (all other : List Rec) → all ≡ other → VersionsAreIn done vids all → VersionsAreIn done vids other
same_all done vids all other e are = subst (VersionsAreIn done vids) e are

parts_more : (done : List (List Rec)) (l : List Rec) (parts : List Part) → PartsHold done parts → PartsHold (done ++ l ∷ []) parts
parts_more done l [] are = tt
parts_more done l (part ∷ parts) are = (
  subst (VersionsAreIn (done ++ l ∷ []) part.versions) (append-nil (held part)) (versions_more done l part.versions (held part) [] are.0),
  parts_more done l parts are.1,
)

at_last : (done : List (List Rec)) (l : List Rec) → get_or (done ++ l ∷ []) (length done) [] ≡ l
at_last [] l = refl
at_last (x ∷ done) l = at_last done l

-- the last version alone
last_in : (done : List (List Rec)) (l all : List Rec) → AreIn l all → VersionsAreIn (done ++ l ∷ []) ((length done + 1) ∷ []) all
last_in done l all are =
    let place : length done + 1 - 1 ≡ length done = omega arith
    in let last : of_version (done ++ l ∷ []) (length done + 1) ≡ l = ap (λ k. get_or (done ++ l ∷ []) k []) place ∙ at_last done l
    in (((omega arith, omega (arith, length-append done (l ∷ []))), subst (λ rs. AreIn rs all) (sym last) are), tt)

-- `l` are the records of the last version, and `rs` those that come to its partition, all of them and maybe others
module _ (done : List (List Rec)) (l rs : List Rec) (ours : AreIn l rs) where
  own_held : (id : ℕ) → PartsHold (done ++ l ∷ []) (own_part id (length done + 1) rs ∷ [])
  own_held id = (subst (VersionsAreIn (done ++ l ∷ []) ((length done + 1) ∷ [])) (sym (piece_all rs)) (last_in done l rs ours), tt)

  joined_held : (part : Part) → VersionsAreIn done part.versions (held part) → VersionsAreIn (done ++ l ∷ []) (with_joined (length done + 1) rs part).versions (held (with_joined (length done + 1) rs part))
  joined_held part are =
      let all : held part ++ lacking rs (held part) ≡ held (with_joined (length done + 1) rs part) =
      ap (λ x. held part ++ x) (sym (piece_all (lacking rs (held part)))) ∙ sym (joined-append part.pieces (piece_of (lacking rs (held part))))
      in subst (VersionsAreIn (done ++ l ∷ []) (part.versions ++ (length done + 1) ∷ [])) all
      (versions-append (done ++ l ∷ []) part.versions ((length done + 1) ∷ []) (held part ++ lacking rs (held part))
      (versions_more done l part.versions (held part) (lacking rs (held part)) are)
      (last_in done l (held part ++ lacking rs (held part)) (with_lacking l (held part) rs ours)))

  either_held : (t : Bool) (part : Part) → VersionsAreIn done part.versions (held part)
      → VersionsAreIn (done ++ l ∷ []) (if t then with_joined (length done + 1) rs part else part).versions (held (if t then with_joined (length done + 1) rs part else part))
  either_held true part are = joined_held part are
  either_held false part are =
      subst (VersionsAreIn (done ++ l ∷ []) part.versions) (append-nil (held part)) (versions_more done l part.versions (held part) [] are)

  all_joined : (id : ℕ) (parts : List Part) → PartsHold done parts
      → PartsHold (done ++ l ∷ []) (map (λ part. if part.id == id then with_joined (length done + 1) rs part else part) parts)
  all_joined id [] are = tt
  all_joined id (part ∷ parts) are = (either_held (part.id == id) part are.0, all_joined id parts are.1)

  placed_held : (place : Place) (next : ℕ) (parts : List Part) → PartsHold done parts
      → PartsHold (done ++ l ∷ []) (parts_with place next (length done + 1) rs parts)
  placed_held Own next parts are = parts-append (done ++ l ∷ []) parts (own_part next (length done + 1) rs ∷ []) (parts_more done l parts are) (own_held next)
  placed_held (Join id) next parts are = all_joined id parts are

version_held : (v : Version) (d : Dataset) → IsHeld d → IsHeld (with_version v d)
version_held v d is =
    let done : List (List Rec) = recs d.cvd.versions []
    in let l : List Rec = records_of v done
    in let rs : List Rec = ordered_records d.cvd.versions v
    in let number : length done ≡ length d.cvd.versions = length_recs d.cvd.versions [] ∙ omega arith
    in subst (λ rss. PartsHold rss (with_version v d).parts) (sym (recs_more d.cvd.versions v []))
    (subst (λ n. PartsHold (done ++ l ∷ []) (parts_with (placed_at d v) d.next_part (n + 1) rs d.parts)) number
    (placed_held done l rs (all_ordered d.cvd.versions v) (placed_at d v) d.next_part d.parts is))

-- ---- columns more

versions_wide : (n : ℕ) (done : List (List Rec)) (vids : List ℕ) (all : List Rec) → VersionsAreIn done vids all → VersionsAreIn (map (map (wide_rec n)) done) vids (map (wide_rec n) all)
versions_wide n done [] all are = tt
versions_wide n done (vid ∷ vids) all are = (
  (
    (are.0.0.0, omega (arith, length-map done (map (wide_rec n)), are.0.0.1)),
    subst (λ rs. AreIn rs (map (wide_rec n) all)) (sym (wide_version_recs n done vid)) (map_are_in (wide_rec n) (of_version done vid) all are.0.1),
  ),
  versions_wide n done vids all are.1,
)

parts_wide : (n : ℕ) (done : List (List Rec)) (parts : List Part) → PartsHold done parts → PartsHold (map (map (wide_rec n)) done) (map (wide_part n) parts)
parts_wide n done [] are = tt
parts_wide n done (part ∷ parts) are = (
  subst (VersionsAreIn (map (map (wide_rec n)) done) part.versions) (sym (joined_map (wide_rec n) part.pieces)) (versions_wide n done part.versions (held part) are.0),
  parts_wide n done parts are.1,
)

wide_held : (added : List Column) (d : Dataset) → IsHeld d → IsHeld (wide added d)
wide_held [] d is = is
wide_held (column ∷ added) d is =
    subst (λ rss. PartsHold rss (map (wide_part (length (column ∷ added))) d.parts)) (sym (wide_recs (length (column ∷ added)) d.cvd.versions []))
    (parts_wide (length (column ∷ added)) (recs d.cvd.versions []) d.parts is)

-- ---- a flip

fewer_if : (t : Bool) (done : List (List Rec)) (vid : ℕ) (vids : List ℕ) (all : List Rec) → ((1 ≤ vid) × (vid ≤ length done)) × AreIn (of_version done vid) all
    → VersionsAreIn done vids all → VersionsAreIn done (if t then vid ∷ vids else vids) all
fewer_if true done vid vids all is are = (is, are)
fewer_if false done vid vids all is are = are

fewer : (p : ℕ → Bool) (done : List (List Rec)) (vids : List ℕ) (all : List Rec) → VersionsAreIn done vids all → VersionsAreIn done (filter p vids) all
fewer p done [] all are = tt
fewer p done (vid ∷ vids) all are = fewer_if (p vid) done vid (filter p vids) all are.0 (fewer p done vids all are.1)

leaving_held : (versions : List ℕ) (done : List (List Rec)) (parts : List Part) → PartsHold done parts → PartsHold done (map (leaving versions) parts)
leaving_held versions done [] are = tt
leaving_held versions done (part ∷ parts) are = (fewer (λ vid. not (is_one versions vid)) done part.versions (held part) are.0, leaving_held versions done parts are.1)

some_if : (t : Bool) (done : List (List Rec)) (part : Part) (parts : List Part) → VersionsAreIn done part.versions (held part) → PartsHold done parts → PartsHold done (if t then part ∷ parts else parts)
some_if true done part parts is are = (is, are)
some_if false done part parts is are = are

some_parts : (p : Part → Bool) (done : List (List Rec)) (parts : List Part) → PartsHold done parts → PartsHold done (filter p parts)
some_parts p done [] are = tt
some_parts p done (part ∷ parts) are = some_if (p part) done part (filter p parts) are.0 (some_parts p done parts are.1)

none_lacking : (rs others : List Rec) (r : Rec) → lacking rs others ≡ [] → IsIn rs r → is_among others r ≡ true
none_lacking rs others r none is =
    elim (cases_Bool (is_among others r)) [
      | inl there ↦ there
      | inr lacks ↦ absurd (subst (λ l. IsIn l r) none (lacking_in rs others r lacks is))
    ]

any_listed : (p : ℕ → Bool) (vs : List ℕ) (vid : ℕ) → is_one vs vid ≡ true → p vid ≡ true → list_any p vs ≡ true
any_listed p [] vid e passes = cc
any_listed p (v ∷ vs) vid e passes =
    elim (cases_Bool (v == vid)) [
      | inl same ↦ or_first (p v) (list_any p vs) (ap p (eqb-true v vid same) ∙ passes)
      | inr other ↦ or_second (p v) (list_any p vs) (any_listed p vs vid (rest (v == vid) (is_one vs vid) other e) passes)
    ]
  where
    or_first : (a b : Bool) → a ≡ true → (a || b) ≡ true
    or_first true b f = refl
    or_first false b f = cc

    or_second : (a b : Bool) → b ≡ true → (a || b) ≡ true
    or_second true b f = refl
    or_second false b f = f

    rest : (a b : Bool) → a ≡ false → (a || b) ≡ true → b ≡ true
    rest true b f g = cc
    rest false b f g = g

pub at_known : (done : List (List Rec)) (k : ℕ) (all : List Rec) → AllAreIn done all → AreIn (get_or done k []) all
at_known [] k all are = tt
at_known (l ∷ ls) zero all are = are.0
at_known (l ∷ ls) (suc k) all are = at_known ls k all are.1

module _ (d : Dataset) (plan : Plan) (are : AreVersions (length d.cvd.versions) (current plan).versions) (all_there : missing d plan ≡ []) where
  abbrev ours : List ℕ
  ours = (current plan).versions

  abbrev done : List (List Rec)
  done = recs d.cvd.versions []

  abbrev others : List Rec
  others = joined (kept_pieces d (current plan)) ++ joined plan.copied

  abbrev part_of_rec : Rec → Bool
  part_of_rec r = list_any (λ vid. is_among (of_version done vid) r) ours

  one_there : (vid : ℕ) (r : Rec) → is_one ours vid ≡ true → IsIn (of_version done vid) r → IsIn (order_of d.cvd.versions) r → IsIn others r
  one_there vid r listed is known =
      among_in others r
      (none_lacking (records_in d.cvd ours) others r all_there
      (in_filter part_of_rec (order_of d.cvd.versions) r (any_listed (λ v. is_among (of_version done v) r) ours vid listed (in_among (of_version done vid) r is)) known))

  each_there : (vid : ℕ) (rs : List Rec) → is_one ours vid ≡ true → AreIn rs (of_version done vid) → AreIn rs (order_of d.cvd.versions) → AreIn rs others
  each_there vid [] listed is known = tt
  each_there vid (r ∷ rs) listed is known = (one_there vid r listed is.0 known.0, each_there vid rs listed is.1 known.1)

  is_ours : (vid : ℕ) → 1 ≤ times ours vid → is_one ours vid ≡ true
  is_ours vid some =
      elim (cases_Bool (is_one ours vid)) [
        | inl listed ↦ listed
        | inr none ↦ absurd (omega (arith, some, not_listed ours vid none))
      ]

  vids_there : (vids : List ℕ) → ((vid : ℕ) → times vids vid ≤ times ours vid) → VersionsAreIn done vids others
  vids_there [] within = tt
  vids_there (vid ∷ vids) within =
      let some : 1 ≤ times ours vid = omega (arith, within vid, one_same vid vid refl)
      in let number : length done ≡ length d.cvd.versions = length_recs d.cvd.versions [] ∙ omega arith
      in (
        (
          (are.from_one vid some, omega (arith, number, are.there vid some)),
          each_there vid (of_version done vid) (is_ours vid some) (all_in (of_version done vid)) (at_known done (vid - 1) (order_of d.cvd.versions) (all_known d.cvd.versions)),
        ),
        vids_there vids (λ other. omega (arith, within other)),
      )

  flip_held : PartsHold done d.parts → PartsHold done (flipped_by d (Some plan)).parts
  flip_held held_before =
      parts-append done (left_parts ours d.parts) (target_part d plan ∷ [])
      (some_parts (λ part. not (length part.versions == 0)) done (map (leaving ours) d.parts) (leaving_held ours done d.parts held_before))
      (subst (VersionsAreIn done ours) (sym (joined-append (kept_pieces d (current plan)) plan.copied)) (vids_there ours (λ vid. omega arith)), tt)

flipped_held : (d : Dataset) (plan : Option Plan) → d.plan ≡ plan → IsPlaced d → HasAll d plan → IsHeld d → IsHeld (flipped_by d plan)
flipped_held d None e placed all is = is
flipped_held d (Some plan) e placed all is =
    flip_held d plan (target_at (length d.cvd.versions) plan.targets plan.at (subst (PlanIs (length d.cvd.versions)) e placed.targets)) all is

-- ---- Worlds

held-append : (a b : List Dataset) → AreHeld a → AreHeld b → AreHeld (a ++ b)
held-append [] b are more = more
held-append (d ∷ a) b are more = (are.0, held-append a b are.1 more)

held_if : (t : Bool) (d : Dataset) (sets : List Dataset) → IsHeld d → AreHeld sets → AreHeld (if t then d ∷ sets else sets)
held_if true d sets is are = (is, are)
held_if false d sets is are = are

held-filter : (test : Dataset → Bool) (sets : List Dataset) → AreHeld sets → AreHeld (filter test sets)
held-filter test [] are = tt
held-filter test (d ∷ sets) are = held_if (test d) d (filter test sets) are.0 (held-filter test sets are.1)

change_if : (t : Bool) (f : Dataset → Dataset) (d : Dataset) → (t ≡ true → IsHeld (f d)) → IsHeld d → IsHeld (if t then f d else d)
change_if true f d more is = more refl
change_if false f d more is = is

held_changed : (cvd : ℕ) (f : Dataset → Dataset) (sets : List Dataset) → ((d : Dataset) → IsHeld d → IsHeld (f d)) → AreHeld sets → AreHeld (change cvd f sets)
held_changed cvd f [] more are = tt
held_changed cvd f (d ∷ sets) more are = (change_if (numbered cvd d) f d (λ t. more d are.0) are.0, held_changed cvd f sets more are.1)

held_flipped : (cvd : ℕ) (sets : List Dataset) → ArePlaced sets → AllHaveAll cvd sets → AreHeld sets → AreHeld (change cvd flipped sets)
held_flipped cvd [] placed all are = tt
held_flipped cvd (d ∷ sets) placed all are = (
  change_if (numbered cvd d) flipped d (λ t. flipped_held d d.plan refl placed.0 (all.0 (eqb-true d.cvd.number cvd t)) are.0) are.0,
  held_flipped cvd sets placed.1 all.1 are.1,
)

pub moved_held : (m : Move) (w : World) → MayFlip m w → ArePlaced w.sets → AreHeld w.sets → AreHeld (moved m w).sets
moved_held (Init name schema rows) w may placed are =
    let ours : List Rec = records_of (version_of [] (codes "init") rows) []
    in held-append w.sets (new_set w.next name schema rows ∷ []) are (own_held [] ours ours (all_in ours) 1, tt)
moved_held (Commit cvd parents message added rows) w may placed are =
    held_changed cvd (committed parents message added rows) w.sets (λ d is. version_held (version_of parents message rows) (wide added d) (wide_held added d is)) are
moved_held (BeginPlan cvd p q) w may placed are = held_changed cvd (planned p q) w.sets (λ d is. is) are
moved_held (Copy cvd) w may placed are = held_changed cvd copied_more w.sets (λ d is. is) are
moved_held (Flip cvd) w may placed are = held_flipped cvd w.sets placed may are
moved_held (Drop cvd) w may placed are = held-filter (λ d. not (numbered cvd d)) w.sets are
moved_held Checkpoint w may placed are = are
