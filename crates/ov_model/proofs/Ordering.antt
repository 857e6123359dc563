-- Pieces keep the order of rids, move by move.
use Rattle.std.proofs.Common.{◌≡◌, ◌<◌, ℕ, zero, suc, ◌+◌, Bool, true, false, ◌==◌, List, [], ◌∷◌, ◌++◌, length, map, filter, take, get_or, refl, sym, ◌∙◌, ap, subst, inl, inr, arith}
use Rattle.std.specs.Prelude.{codes, ◌⊎◌, ◌&&◌, ◌||◌, not, Option, Some, None, nat_lt, if◌then◌else◌}
use Rattle.std.specs.List.{list_any}
use Rattle.std.proofs.lemmas.Bool.{cases_Bool, eqb-true, eq-eqb}
use Rattle.std.proofs.lemmas.List.{append-nil, map-append}
use Rattle.std.proofs.lemmas.List.Elements.{filter-append}
use Rattle.ov_place.specs.declared.place_facts.Place.{Place}
use Rattle.ov_place.specs.declared.place_facts.Place.TheVariants.{Own, Join}
use Rattle.ov_value.specs.declared.column.Column.{Column}
use Rattle.ov_value.specs.Shapes.{Shape}
use Rattle.ov_model.specs.Book.{Row, Version}
use Rattle.ov_model.specs.Lists.{IsIn, joined}
use Rattle.ov_model.specs.Moves.{change, numbered, with_version, version_of, wide, wide_part, wide_plan, wide_rec, wide_version, placed_at, parts_with, with_joined, own_part, piece_of, new_set}
use Rattle.ov_model.specs.Ordered.{IsInOrder, AreInOrder, PartsAreInOrder, CopiesAreInOrder, HasOrder, HaveOrder}
use Rattle.ov_model.specs.Plans.{planned, copied_for, copied_more, current, pieces_at, pieces_of, kept_pieces, missing, leaving, left_parts, target_part, flipped_by, flipped}
use Rattle.ov_model.specs.Records.{Rec, is_same_rec, is_among, in_order, lacking, record_of, recs, records_of, of_version, fresh_in, order, order_of}
use Rattle.ov_model.specs.World.{Part, Plan, Dataset, held}
use Rattle.ov_model.proofs.Growing.{order_of_more, same_rec-refl}
use Rattle.ov_model.proofs.Holds.{same_recs, among_in, in_among}
use Rattle.ov_model.proofs.Origins.{in_filter}
use Rattle.ov_model.proofs.Rids.{Apart, Once}
use Rattle.ov_model.proofs.Widening.{same_bool, wide_same, wide_recs}

-- ---- filters

pub filter_same : (p q : Rec → Bool) (rs : List Rec) → ((r : Rec) → IsIn rs r → p r ≡ q r) → filter p rs ≡ filter q rs
filter_same p q [] same = refl
filter_same p q (x ∷ rs) same =
    λ i. if same x (inl refl) i then x ∷ filter_same p q rs (λ r is. same r (inr is)) i else filter_same p q rs (λ r is. same r (inr is)) i

filter_all : (p : Rec → Bool) (rs : List Rec) → ((r : Rec) → IsIn rs r → p r ≡ true) → filter p rs ≡ rs
filter_all p [] all = refl
filter_all p (x ∷ rs) all = λ i. if all x (inl refl) i then x ∷ filter_all p rs (λ r is. all r (inr is)) i else filter_all p rs (λ r is. all r (inr is)) i

pub filter_none : (p : Rec → Bool) (rs : List Rec) → ((r : Rec) → IsIn rs r → p r ≡ false) → filter p rs ≡ []
filter_none p [] none = refl
filter_none p (x ∷ rs) none = λ i. if none x (inl refl) i then x ∷ filter p rs else filter_none p rs (λ r is. none r (inr is)) i

-- one test behind another
filter_both : (p q : Rec → Bool) (rs : List Rec) → filter q (filter p rs) ≡ filter (λ r. p r && q r) rs
filter_both p q [] = refl
filter_both p q (x ∷ rs) = by (p x) (q x) refl (filter_both p q rs)
  where
    by : (s t : Bool) → q x ≡ t → filter q (filter p rs) ≡ filter (λ r. p r && q r) rs
        → filter q (if s then x ∷ filter p rs else filter p rs) ≡ (if s && t then x ∷ filter (λ r. p r && q r) rs else filter (λ r. p r && q r) rs)
    by true t is rest = λ i. if is i then x ∷ rest i else rest i
    by false t is rest = rest

filter_if : (t : Bool) (p : Rec → Bool) (x r : Rec) (rest rs : List Rec) → p x ≡ t → (IsIn rest r → IsIn rs r × (p r ≡ true)) → IsIn (if t then x ∷ rest else rest) r → IsIn (x ∷ rs) r × (p r ≡ true)
filter_if true p x r rest rs passes later (inl same) = (inl same, ap p same ∙ passes)
filter_if true p x r rest rs passes later (inr is) = (inr (later is).0, (later is).1)
filter_if false p x r rest rs passes later is = (inr (later is).0, (later is).1)

pub of_filter : (p : Rec → Bool) (rs : List Rec) (r : Rec) → IsIn (filter p rs) r → IsIn rs r × (p r ≡ true)
of_filter p [] r is = absurd is
of_filter p (x ∷ rs) r is = filter_if (p x) p x r (filter p rs) rs refl (of_filter p rs r) is

both : (a b : Bool) → a ≡ true → b ≡ true → (a && b) ≡ true
both true b e f = f
both false b e f = cc

left_of : (a b : Bool) → (a && b) ≡ true → a ≡ true
left_of true b e = refl
left_of false b e = cc

right_of : (a b : Bool) → (a && b) ≡ true → b ≡ true
right_of true b e = e
right_of false b e = cc

among_filter : (q : Rec → Bool) (rs : List Rec) (r : Rec) → is_among (filter q rs) r ≡ (is_among rs r && q r)
among_filter q rs r =
    same_bool (is_among (filter q rs) r) (is_among rs r && q r)
    (λ e. let of = of_filter q rs r (among_in (filter q rs) r e) in both (is_among rs r) (q r) (in_among rs r of.0) of.1)
    (λ e. in_among (filter q rs) r (in_filter q rs r (right_of (is_among rs r) (q r) e) (among_in rs r (left_of (is_among rs r) (q r) e))))

-- ---- in the order of all

-- what is chosen of records in the order of all is in that order
pub chosen_in_order : (q : Rec → Bool) (all rs : List Rec) → filter q (in_order all rs) ≡ in_order all (filter q rs)
chosen_in_order q all rs = filter_both (is_among rs) q all ∙ filter_same (λ r. is_among rs r && q r) (is_among (filter q rs)) all (λ r is. sym (among_filter q rs r))

pub same_in_order : (all rs : List Rec) → IsInOrder all (in_order all rs)
same_in_order all rs = filter_same (is_among rs) (is_among (in_order all rs)) all (λ r is. among r is)
  where
    among : (r : Rec) → IsIn all r → is_among rs r ≡ is_among (in_order all rs) r
    among r is =
        same_bool (is_among rs r) (is_among (in_order all rs) r)
        (λ e. in_among (in_order all rs) r (in_filter (is_among rs) all r e is))
        (λ e. (of_filter (is_among rs) all r (among_in (in_order all rs) r e)).1)

none_in_order : (all : List Rec) → IsInOrder all []
none_in_order all = sym (filter_none (is_among []) all (λ r is. refl))

pub lacking_in_order : (all rs others : List Rec) → IsInOrder all (lacking (in_order all rs) others)
lacking_in_order all rs others =
    let is : lacking (in_order all rs) others ≡ in_order all (lacking rs others) = chosen_in_order (λ r. not (is_among others r)) all rs
    in subst (IsInOrder all) (sym is) (same_in_order all (lacking rs others))

-- ---- pieces and partitions

piece_ordered : (all rs : List Rec) → IsInOrder all rs → AreInOrder all (piece_of rs)
piece_ordered all [] is = tt
piece_ordered all (r ∷ rs) is = (is, tt)

pieces_append : (all : List Rec) (a b : List (List Rec)) → AreInOrder all a → AreInOrder all b → AreInOrder all (a ++ b)
pieces_append all [] b are more = more
pieces_append all (piece ∷ a) b are more = (are.0, pieces_append all a b are.1 more)

parts_append : (all : List Rec) (a b : List Part) → PartsAreInOrder all a → PartsAreInOrder all b → PartsAreInOrder all (a ++ b)
parts_append all [] b are more = more
parts_append all (part ∷ a) b are more = (are.0, parts_append all a b are.1 more)

join_ordered : (all : List Rec) (id vid : ℕ) (rs : List Rec) (parts : List Part) → PartsAreInOrder all parts
    → PartsAreInOrder all (map (λ part. if part.id == id then with_joined vid (in_order all rs) part else part) parts)
join_ordered all id vid rs [] are = tt
join_ordered all id vid rs (part ∷ parts) are = (by (part.id == id), join_ordered all id vid rs parts are.1)
  where
    by : (b : Bool) → AreInOrder all (if b then with_joined vid (in_order all rs) part else part).pieces
    by true = pieces_append all part.pieces (piece_of (lacking (in_order all rs) (held part))) are.0
        (piece_ordered all (lacking (in_order all rs) (held part)) (lacking_in_order all rs (held part)))
    by false = are.0

placed_ordered : (all : List Rec) (place : Place) (next vid : ℕ) (rs : List Rec) (parts : List Part) → PartsAreInOrder all parts
    → PartsAreInOrder all (parts_with place next vid (in_order all rs) parts)
placed_ordered all Own next vid rs parts are =
    parts_append all parts (own_part next vid (in_order all rs) ∷ []) are (piece_ordered all (in_order all rs) (same_in_order all rs), tt)
placed_ordered all (Join id) next vid rs parts are = join_ordered all id vid rs parts are

-- ---- a version more

pub fresh_origin : (rs : List Rec) (n : ℕ) (r : Rec) → IsIn (fresh_in rs n) r → r.origin ≡ n
fresh_origin rs n r is = eqb-true r.origin n (of_filter (λ x. x.origin == n) rs r is).1

in_either : (a b : List Rec) (r : Rec) → IsIn (a ++ b) r → IsIn a r ⊎ IsIn b r
in_either [] b r is = inr is
in_either (x ∷ a) b r (inl same) = inl (inl same)
in_either (x ∷ a) b r (inr later) =
    elim (in_either a b r later) [
      | inl first ↦ inl (inr first)
      | inr second ↦ inr second
    ]

-- records that are there are of versions that are there
pub origin_below : (rss : List (List Rec)) (n : ℕ) (r : Rec) → IsIn (order rss n) r → r.origin < n + length rss
origin_below [] n r is = absurd is
origin_below (rs ∷ rss) n r is =
    elim (in_either (fresh_in rs n) (order rss (n + 1)) r is) [
      | inl here ↦ omega (arith, fresh_origin rs n r here)
      | inr later ↦ omega (arith, origin_below rss (n + 1) r later)
    ]

module _ (vs : List Version) (v : Version) where
  abbrev before : List Rec
  before = order_of vs

  abbrev fresh : List Rec
  fresh = fresh_in (records_of v (recs vs [])) (1 + length (recs vs []))

  -- no fresh record is among those of a piece
  not_there : (piece : List Rec) → IsInOrder before piece → (r : Rec) → IsIn fresh r → is_among piece r ≡ false
  not_there piece is r there =
      elim (cases_Bool (is_among piece r)) [
        | inl among ↦
            let old : IsIn before r = (of_filter (is_among piece) before r (subst (λ rs. IsIn rs r) is (among_in piece r among))).0
            in absurd (omega (arith, origin_below (recs vs []) 1 r old, fresh_origin (records_of v (recs vs [])) (1 + length (recs vs [])) r there))
        | inr none ↦ none
      ]

  stays_ordered : (piece : List Rec) → IsInOrder before piece → IsInOrder (order_of (vs ++ v ∷ [])) piece
  stays_ordered piece is =
      let none : in_order fresh piece ≡ [] = filter_none (is_among piece) fresh (not_there piece is)
      in is
      ∙ sym (append-nil (in_order before piece))
      ∙ ap (λ rs. in_order before piece ++ rs) (sym none)
      ∙ sym (filter-append (is_among piece) before fresh)
      ∙ ap (λ all. in_order all piece) (sym (order_of_more vs v))

  stay_ordered : (pieces : List (List Rec)) → AreInOrder before pieces → AreInOrder (order_of (vs ++ v ∷ [])) pieces
  stay_ordered [] are = tt
  stay_ordered (piece ∷ pieces) are = (stays_ordered piece are.0, stay_ordered pieces are.1)

  parts_stay : (parts : List Part) → PartsAreInOrder before parts → PartsAreInOrder (order_of (vs ++ v ∷ [])) parts
  parts_stay [] are = tt
  parts_stay (part ∷ parts) are = (stay_ordered part.pieces are.0, parts_stay parts are.1)

  copies_stay : (plan : Option Plan) → CopiesAreInOrder before plan → CopiesAreInOrder (order_of (vs ++ v ∷ [])) plan
  copies_stay None are = tt
  copies_stay (Some plan) are = stay_ordered plan.copied are

pub version_ordered : (v : Version) (d : Dataset) → HasOrder d → HasOrder (with_version v d)
version_ordered v d is = record {
  parts = placed_ordered (order_of (d.cvd.versions ++ v ∷ [])) (placed_at d v) d.next_part (length d.cvd.versions + 1) (records_of v (recs d.cvd.versions [])) d.parts
      (parts_stay d.cvd.versions v d.parts is.parts);
  plan = copies_stay d.cvd.versions v d.plan is.plan;
}

-- ---- a dataset as an Init makes it

new_origin : (rows : List Row) (r : Rec) → IsIn (map (record_of [] []) rows) r → r.origin ≡ 1
new_origin [] r is = absurd is
new_origin (row ∷ rows) r (inl same) = ap (λ x. x.origin) same
new_origin (row ∷ rows) r (inr later) = new_origin rows r later

pub new_ordered : (number : ℕ) (name : List ℕ) (schema : Shape) (rows : List Row) → HasOrder (new_set number name schema rows)
new_ordered number name schema rows =
    let v : Version = version_of [] (codes "init") rows
    in let ours : List Rec = records_of v []
    in let all : order_of (v ∷ []) ≡ ours =
    append-nil (fresh_in ours 1) ∙ filter_all (λ r. r.origin == 1) ours (λ r there. eq-eqb r.origin 1 (new_origin rows r there))
    in let is : in_order ours ours ≡ ours = filter_all (is_among ours) ours (in_among ours)
    in record { parts = (piece_ordered (order_of (v ∷ [])) ours (sym (ap (λ rs. in_order rs ours) all ∙ is)), tt); plan = tt }

-- ---- columns more

module _ (n : ℕ) where
  abbrev longer : Rec → Rec
  longer r = wide_rec n r

  pub among_wide : (rs : List Rec) (r : Rec) → is_among (map longer rs) (longer r) ≡ is_among rs r
  among_wide [] r = refl
  among_wide (x ∷ rs) r = λ i. (r.origin == x.origin && wide_same n r.row x.row i) || among_wide rs r i

  pub filter_wide : (p q : Rec → Bool) (rs : List Rec) → ((r : Rec) → p (longer r) ≡ q r) → filter p (map longer rs) ≡ map longer (filter q rs)
  filter_wide p q [] same = refl
  filter_wide p q (x ∷ rs) same = (λ i. if same x i then longer x ∷ filter_wide p q rs same i else filter_wide p q rs same i) ∙ by (q x)
    where
      by : (t : Bool) → (if t then longer x ∷ map longer (filter q rs) else map longer (filter q rs)) ≡ map longer (if t then x ∷ filter q rs else filter q rs)
      by true = refl
      by false = refl

  piece_wide : (all piece : List Rec) → IsInOrder all piece → IsInOrder (map longer all) (map longer piece)
  piece_wide all piece is =
      ap (map longer) is ∙ sym (filter_wide (is_among (map longer piece)) (is_among piece) all (among_wide piece))

  pieces_wide : (all : List Rec) (pieces : List (List Rec)) → AreInOrder all pieces → AreInOrder (map longer all) (map (map longer) pieces)
  pieces_wide all [] are = tt
  pieces_wide all (piece ∷ pieces) are = (piece_wide all piece are.0, pieces_wide all pieces are.1)

  parts_wide : (all : List Rec) (parts : List Part) → PartsAreInOrder all parts → PartsAreInOrder (map longer all) (map (wide_part n) parts)
  parts_wide all [] are = tt
  parts_wide all (part ∷ parts) are = (pieces_wide all part.pieces are.0, parts_wide all parts are.1)

  copies_wide : (all : List Rec) (plan : Option Plan) → CopiesAreInOrder all plan → CopiesAreInOrder (map longer all) (wide_plan n plan)
  copies_wide all None are = tt
  copies_wide all (Some plan) are = pieces_wide all plan.copied are

  all_wide : (rss : List (List Rec)) (k : ℕ) → order (map (map longer) rss) k ≡ map longer (order rss k)
  all_wide [] k = refl
  all_wide (rs ∷ rss) k =
      (λ i. filter_wide (λ r. r.origin == k) (λ r. r.origin == k) rs (λ r. refl) i ++ all_wide rss (k + 1) i)
      ∙ sym (map-append longer (fresh_in rs k) (order rss (k + 1)))

  pub order_wide : (vs : List Version) → order_of (map (wide_version n) vs) ≡ map longer (order_of vs)
  order_wide vs = ap (λ rss. order rss 1) (wide_recs n vs []) ∙ all_wide (recs vs []) 1

pub wide_ordered : (added : List Column) (d : Dataset) → HasOrder d → HasOrder (wide added d)
wide_ordered [] d is = is
wide_ordered (column ∷ added) d is =
    let n : ℕ = length (column ∷ added)
    in let all : map (wide_rec n) (order_of d.cvd.versions) ≡ order_of (map (wide_version n) d.cvd.versions) = sym (order_wide n d.cvd.versions)
    in record {
      parts = subst (λ rs. PartsAreInOrder rs (map (wide_part n) d.parts)) all (parts_wide n (order_of d.cvd.versions) d.parts is.parts);
      plan = subst (λ rs. CopiesAreInOrder rs (wide_plan n d.plan)) all (copies_wide n (order_of d.cvd.versions) d.plan is.plan);
    }

-- ---- a plan's beginning, and a copy

pub planned_ordered : (p q : ℕ) (d : Dataset) → HasOrder d → HasOrder (planned p q d)
planned_ordered p q d is = record { parts = is.parts; plan = tt }

-- a record that stands before others that are not it is none of them
other_way : (r x : Rec) → is_same_rec r x ≡ false → is_same_rec x r ≡ false
other_way r x other =
    elim (cases_Bool (is_same_rec x r)) [
      | inl same ↦ absurd (clash (sym (same_rec-refl r) ∙ ap (is_same_rec r) (sym (same_recs x r same)) ∙ other))
      | inr none ↦ none
    ]
  where
    clash : true ≡ false → ⊥
    clash e = cc

apart_of : (x r : Rec) (rs : List Rec) → Apart x rs → IsIn rs r → is_same_rec r x ≡ false
apart_of x r [] apart is = absurd is
apart_of x r (y ∷ rs) apart (inl same) = ap (λ z. is_same_rec z x) same ∙ apart.0
apart_of x r (y ∷ rs) apart (inr later) = apart_of x r rs apart.1 later

none_among : (rs : List Rec) (x : Rec) → ((r : Rec) → IsIn rs r → is_same_rec x r ≡ false) → is_among rs x ≡ false
none_among [] x none = refl
none_among (r ∷ rs) x none = λ i. none r (inl refl) i || none_among rs x (λ y is. none y (inr is)) i

of_take : (n : ℕ) (rs : List Rec) (r : Rec) → IsIn (take n rs) r → IsIn rs r
of_take zero rs r is = absurd is
of_take (suc n) [] r is = absurd is
of_take (suc n) (x ∷ rs) r (inl same) = inl same
of_take (suc n) (x ∷ rs) r (inr later) = inr (of_take n rs r later)

-- the first so many of chosen records, where no record stands twice
pub taken_ordered : (all : List Rec) (n : ℕ) (p : Rec → Bool) → Once all → IsInOrder all (take n (filter p all))
taken_ordered [] zero p once = refl
taken_ordered [] (suc n) p once = refl
taken_ordered (x ∷ all) n p once = by n (p x) (λ k. taken_ordered all k p once.1)
  where
    rest : List Rec
    rest = filter p all

    by : (k : ℕ) (t : Bool) → ((m : ℕ) → IsInOrder all (take m (filter p all))) → IsInOrder (x ∷ all) (take k (if t then x ∷ filter p all else filter p all))
    by zero t later = none_in_order (x ∷ all)
    by (suc m) true later =
        let tail : List Rec = take m (filter p all)
        in let same : filter (is_among tail) all ≡ filter (is_among (x ∷ tail)) all =
        filter_same (is_among tail) (is_among (x ∷ tail)) all (λ r is. λ i. sym (apart_of x r all once.0 is) i || is_among tail r)
        in let front : is_among (x ∷ tail) x ≡ true = in_among (x ∷ tail) x (inl refl)
        in λ i. if sym front i then x ∷ (later m ∙ same) i else (later m ∙ same) i
    by (suc m) false later =
        let tail : List Rec = take (suc m) (filter p all)
        in let front : is_among tail x ≡ false =
        none_among tail x (λ r is. other_way r x (apart_of x r all once.0 (of_filter p all r (of_take (suc m) (filter p all) r is)).0))
        in λ i. if sym front i then x ∷ filter (is_among tail) all else later (suc m) i

missing_ordered : (d : Dataset) (plan : Plan) → Once (order_of d.cvd.versions) → IsInOrder (order_of d.cvd.versions) (take 256 (missing d plan))
missing_ordered d plan once =
    let all : List Rec = order_of d.cvd.versions
    in let ours : Rec → Bool = λ r. list_any (λ vid. is_among (of_version (recs d.cvd.versions []) vid) r) (current plan).versions
    in let lacks : Rec → Bool = λ r. not (is_among (joined (kept_pieces d (current plan)) ++ joined plan.copied) r)
    in subst (λ rs. IsInOrder all (take 256 rs)) (sym (filter_both ours lacks all)) (taken_ordered all 256 (λ r. ours r && lacks r) once)

copied_if : (d : Dataset) (plan : Option Plan) → Once (order_of d.cvd.versions) → CopiesAreInOrder (order_of d.cvd.versions) plan → CopiesAreInOrder (order_of d.cvd.versions) (copied_for d plan)
copied_if d None once are = tt
copied_if d (Some plan) once are = pieces_append (order_of d.cvd.versions) plan.copied (take 256 (missing d plan) ∷ []) are (missing_ordered d plan once, tt)

-- where no record stands twice among all
pub copied_ordered : (d : Dataset) → Once (order_of d.cvd.versions) → HasOrder d → HasOrder (copied_more d)
copied_ordered d once is = record { parts = is.parts; plan = copied_if d d.plan once is.plan }

-- ---- a flip

found_ordered : (all : List Rec) (parts : List Part) (id : ℕ) → PartsAreInOrder all parts → AreInOrder all (pieces_of parts id)
found_ordered all [] id are = tt
found_ordered all (part ∷ parts) id are = by (part.id == id) (found_ordered all parts id are.1)
  where
    by : (b : Bool) → AreInOrder all (pieces_of parts id) → AreInOrder all (if b then part.pieces else pieces_of parts id)
    by true rest = are.0
    by false rest = rest

at_ordered : (all : List Rec) (pieces : List (List Rec)) (k : ℕ) → AreInOrder all pieces → IsInOrder all (get_or pieces k [])
at_ordered all [] k are = none_in_order all
at_ordered all (piece ∷ pieces) zero are = are.0
at_ordered all (piece ∷ pieces) (suc k) are = at_ordered all pieces k are.1

kept_ordered : (all : List Rec) (pieces : List (List Rec)) (places : List ℕ) → AreInOrder all pieces → AreInOrder all (pieces_at pieces places)
kept_ordered all pieces [] are = tt
kept_ordered all pieces (place ∷ places) are = (at_ordered all pieces place are, kept_ordered all pieces places are)

left_ordered : (all : List Rec) (versions : List ℕ) (parts : List Part) → PartsAreInOrder all parts → PartsAreInOrder all (left_parts versions parts)
left_ordered all versions [] are = tt
left_ordered all versions (part ∷ parts) are = by (not (length (leaving versions part).versions == 0)) (left_ordered all versions parts are.1)
  where
    by : (b : Bool) → PartsAreInOrder all (left_parts versions parts) → PartsAreInOrder all (if b then leaving versions part ∷ left_parts versions parts else left_parts versions parts)
    by true rest = (are.0, rest)
    by false rest = rest

next_if : (all : List Rec) (t : Bool) (plan : Plan) → CopiesAreInOrder all (if t then Some (record plan { at = plan.at + 1; copied = [] }) else None)
next_if all true plan = tt
next_if all false plan = tt

flip_ordered : (d : Dataset) (plan : Option Plan) → d.plan ≡ plan → HasOrder d → HasOrder (flipped_by d plan)
flip_ordered d None e is = is
flip_ordered d (Some plan) e is =
    let all : List Rec = order_of d.cvd.versions
    in record {
      parts = parts_append all (left_parts (current plan).versions d.parts) (target_part d plan ∷ [])
          (left_ordered all (current plan).versions d.parts is.parts) (
            pieces_append all (kept_pieces d (current plan)) plan.copied
                (kept_ordered all (pieces_of d.parts (current plan).source) (current plan).kept (found_ordered all d.parts (current plan).source is.parts))
                (subst (CopiesAreInOrder all) e is.plan),
            tt,
          );
      plan = next_if all (nat_lt (plan.at + 1) (length plan.targets)) plan;
    }

pub flipped_ordered : (d : Dataset) → HasOrder d → HasOrder (flipped d)
flipped_ordered d is = flip_ordered d d.plan refl is

-- ---- Worlds

pub have_append : (a b : List Dataset) → HaveOrder a → HaveOrder b → HaveOrder (a ++ b)
have_append [] b have more = more
have_append (d ∷ a) b have more = (have.0, have_append a b have.1 more)

pub have_filter : (test : Dataset → Bool) (sets : List Dataset) → HaveOrder sets → HaveOrder (filter test sets)
have_filter test [] have = tt
have_filter test (d ∷ sets) have = by (test d) (have_filter test sets have.1)
  where
    by : (b : Bool) → HaveOrder (filter test sets) → HaveOrder (if b then d ∷ filter test sets else filter test sets)
    by true rest = (have.0, rest)
    by false rest = rest

pub have_changed : (cvd : ℕ) (f : Dataset → Dataset) (sets : List Dataset) → ((d : Dataset) → HasOrder d → HasOrder (f d)) → HaveOrder sets → HaveOrder (change cvd f sets)
have_changed cvd f [] keeps have = tt
have_changed cvd f (d ∷ sets) keeps have = (by (numbered cvd d), have_changed cvd f sets keeps have.1)
  where
    by : (b : Bool) → HasOrder (if b then f d else d)
    by true = keeps d have.0
    by false = have.0
