-- How often versions and numbers stand in lists and over partitions.
use Rattle.std.proofs.Common.{◌≡◌, ◌≤◌, ◌<◌, ℕ, zero, suc, ◌+◌, Bool, true, false, ◌==◌, List, [], ◌∷◌, ◌++◌, length, map, filter, refl, sym, ◌∙◌, ap, inl, inr, arith}
use Rattle.std.specs.Prelude.{◌≢◌, if◌then◌else◌, not, ◌||◌}
use Rattle.std.specs.List.{range_with_len}
use Rattle.std.proofs.lemmas.Bool.{cond-true, cases_Bool, eqb-true, ne_eqb, eq-eqb}
use Rattle.ov_model.specs.Placed.{times, part_times, id_times, AreVersions}
use Rattle.ov_model.specs.Plans.{leaving, left_parts}
use Rattle.ov_model.specs.World.{Part, is_one}

abbrev pub one_if : Bool → ℕ
one_if t = if t then 1 else 0

pub one_most : (t : Bool) → one_if t ≤ 1
one_most true = omega arith
one_most false = omega arith

pub one_same : (a b : ℕ) → a ≡ b → one_if (a == b) ≡ 1
one_same a b e = ap one_if (eq-eqb a b e)

pub one_other : (a b : ℕ) → a ≢ b → one_if (a == b) ≡ 0
one_other a b e = ap one_if (ne_eqb a b e)

pub times-append : (a b : List ℕ) (vid : ℕ) → times (a ++ b) vid ≡ times a vid + times b vid
times-append [] b vid = omega arith
times-append (v ∷ a) b vid = omega (arith, times-append a b vid)

-- ---- a list of which some are taken

if_times : (t : Bool) (v vid : ℕ) (rest : List ℕ) → times (if t then v ∷ rest else rest) vid ≤ one_if (v == vid) + times rest vid
if_times true v vid rest = omega arith
if_times false v vid rest = omega arith

pub filter_times : (p : ℕ → Bool) (vs : List ℕ) (vid : ℕ) → times (filter p vs) vid ≤ times vs vid
filter_times p [] vid = omega arith
filter_times p (v ∷ vs) vid = omega (arith, if_times (p v) v vid (filter p vs), filter_times p vs vid)

pub filter_versions : (p : ℕ → Bool) (count : ℕ) (vs : List ℕ) → AreVersions count vs → AreVersions count (filter p vs)
filter_versions p count vs are = record {
  once = λ vid. omega (arith, are.once vid, filter_times p vs vid);
  from_one = λ vid some. are.from_one vid (omega (arith, some, filter_times p vs vid));
  there = λ vid some. are.there vid (omega (arith, some, filter_times p vs vid));
}

-- ---- whether one is listed

any_of : (t rest : Bool) (n : ℕ) → (rest ≡ true → 1 ≤ n) → (t || rest) ≡ true → 1 ≤ one_if t + n
any_of true rest n some e = omega arith
any_of false rest n some e = omega (arith, some e)

none_of : (t rest : Bool) (n : ℕ) → (rest ≡ false → n ≡ 0) → (t || rest) ≡ false → one_if t + n ≡ 0
none_of true rest n some e = cc
none_of false rest n some e = omega (arith, some e)

pub listed : (vs : List ℕ) (vid : ℕ) → is_one vs vid ≡ true → 1 ≤ times vs vid
listed [] vid e = cc
listed (v ∷ vs) vid e = any_of (v == vid) (is_one vs vid) (times vs vid) (listed vs vid) e

pub not_listed : (vs : List ℕ) (vid : ℕ) → is_one vs vid ≡ false → times vs vid ≡ 0
not_listed [] vid e = refl
not_listed (v ∷ vs) vid e = none_of (v == vid) (is_one vs vid) (times vs vid) (not_listed vs vid) e

-- ---- the versions from one on

range_low : (n a vid : ℕ) → vid < a → times (range_with_len a n) vid ≡ 0
range_low zero a vid low = refl
range_low (suc n) a vid low = omega (arith, one_other a vid (λ e. omega (arith, e, low)), range_low n (a + 1) vid (omega (arith, low)))

range_once : (n a vid : ℕ) → times (range_with_len a n) vid ≤ 1
range_once zero a vid = omega arith
range_once (suc n) a vid =
    elim (cases_Bool (a == vid)) [
      | inl same ↦
          let is : a ≡ vid = eqb-true a vid same
          in omega (arith, one_most (a == vid), range_low n (a + 1) vid (omega (arith, is)))
      | inr other ↦ let none : one_if (a == vid) ≡ 0 = ap one_if other in omega (arith, none, range_once n (a + 1) vid)
    ]

range_from : (n a vid : ℕ) → 1 ≤ times (range_with_len a n) vid → a ≤ vid
range_from zero a vid some = absurd (omega (arith, some))
range_from (suc n) a vid some =
    elim (cases_Bool (a == vid)) [
      | inl same ↦ let is : a ≡ vid = eqb-true a vid same in omega (arith, is)
      | inr other ↦
          let none : one_if (a == vid) ≡ 0 = ap one_if other
          in let rest : a + 1 ≤ vid = range_from n (a + 1) vid (omega (arith, some, none))
          in omega (arith, rest)
    ]

range_there : (n a vid : ℕ) → 1 ≤ times (range_with_len a n) vid → vid < a + n
range_there zero a vid some = absurd (omega (arith, some))
range_there (suc n) a vid some =
    elim (cases_Bool (a == vid)) [
      | inl same ↦ let is : a ≡ vid = eqb-true a vid same in omega (arith, is)
      | inr other ↦
          let none : one_if (a == vid) ≡ 0 = ap one_if other
          in let rest : vid < a + 1 + n = range_there n (a + 1) vid (omega (arith, some, none))
          in omega (arith, rest)
    ]

pub range_versions : (count : ℕ) → AreVersions count (range_with_len 1 count)
range_versions count = record {
  once = λ vid. range_once count 1 vid;
  from_one = λ vid some. range_from count 1 vid some;
  there = λ vid some. omega (arith, range_there count 1 vid some);
}

-- ---- over partitions

pub parts-append : (a b : List Part) (vid : ℕ) → part_times (a ++ b) vid ≡ part_times a vid + part_times b vid
parts-append [] b vid = omega arith
parts-append (part ∷ a) b vid = omega (arith, parts-append a b vid)

pub ids-append : (a b : List Part) (id : ℕ) → id_times (a ++ b) id ≡ id_times a id + id_times b id
ids-append [] b id = omega arith
ids-append (part ∷ a) b id = omega (arith, ids-append a b id)

-- without some versions
gone_if : (t : Bool) (v vid : ℕ) (vs rest : List ℕ) → is_one vs v ≡ t → is_one vs vid ≡ true → times rest vid ≡ 0 → times (if not t then v ∷ rest else rest) vid ≡ 0
gone_if true v vid vs rest is gone none = none
gone_if false v vid vs rest is gone none = omega (arith, one_other v vid (λ e. clash (sym (ap (is_one vs) e ∙ gone) ∙ is)), none)
  where
    clash : true ≡ false → ⊥
    clash e = cc

pub gone_times : (vs versions : List ℕ) (vid : ℕ) → is_one vs vid ≡ true → times (filter (λ v. not (is_one vs v)) versions) vid ≡ 0
gone_times vs [] vid gone = refl
gone_times vs (v ∷ versions) vid gone = gone_if (is_one vs v) v vid vs (filter (λ x. not (is_one vs x)) versions) refl gone (gone_times vs versions vid gone)

stays_if : (t : Bool) (v vid : ℕ) (vs rest : List ℕ) → is_one vs v ≡ t → is_one vs vid ≡ false → times (if not t then v ∷ rest else rest) vid ≡ one_if (v == vid) + times rest vid
stays_if true v vid vs rest is stays = omega (arith, one_other v vid (λ e. clash (sym is ∙ ap (is_one vs) e ∙ stays)))
  where
    clash : true ≡ false → ⊥
    clash e = cc
stays_if false v vid vs rest is stays = refl

pub stays_times : (vs versions : List ℕ) (vid : ℕ) → is_one vs vid ≡ false → times (filter (λ v. not (is_one vs v)) versions) vid ≡ times versions vid
stays_times vs [] vid stays = refl
stays_times vs (v ∷ versions) vid stays =
    stays_if (is_one vs v) v vid vs (filter (λ x. not (is_one vs x)) versions) refl stays
    ∙ ap (λ n. one_if (v == vid) + n) (stays_times vs versions vid stays)

pub gone_parts : (vs : List ℕ) (parts : List Part) (vid : ℕ) → is_one vs vid ≡ true → part_times (map (leaving vs) parts) vid ≡ 0
gone_parts vs [] vid gone = refl
gone_parts vs (part ∷ parts) vid gone = omega (arith, gone_times vs part.versions vid gone, gone_parts vs parts vid gone)

pub stays_parts : (vs : List ℕ) (parts : List Part) (vid : ℕ) → is_one vs vid ≡ false → part_times (map (leaving vs) parts) vid ≡ part_times parts vid
stays_parts vs [] vid stays = refl
stays_parts vs (part ∷ parts) vid stays = omega (arith, stays_times vs part.versions vid stays, stays_parts vs parts vid stays)

-- partitions without versions go
some_if : (versions : List ℕ) (part : Part) (rest : List Part) (vid : ℕ) → part.versions ≡ versions
    → part_times (if not (length versions == 0) then part ∷ rest else rest) vid ≡ times versions vid + part_times rest vid
some_if [] part rest vid is = omega arith
some_if (v ∷ vs) part rest vid is =
    let full : not (length (v ∷ vs) == 0) ≡ true = ap not (ne_eqb (length (v ∷ vs)) 0 (λ e. omega (arith, e)))
    in ap (λ l. part_times l vid) (cond-true (not (length (v ∷ vs) == 0)) (part ∷ rest) rest full) ∙ ap (λ l. times l vid + part_times rest vid) is

pub kept_parts : (parts : List Part) (vid : ℕ) → part_times (filter (λ part. not (length part.versions == 0)) parts) vid ≡ part_times parts vid
kept_parts [] vid = refl
kept_parts (part ∷ parts) vid =
    some_if part.versions part (filter (λ p. not (length p.versions == 0)) parts) vid refl
    ∙ ap (λ n. times part.versions vid + n) (kept_parts parts vid)

if_ids : (t : Bool) (part : Part) (rest : List Part) (id : ℕ) → id_times (if t then part ∷ rest else rest) id ≤ one_if (part.id == id) + id_times rest id
if_ids true part rest id = omega arith
if_ids false part rest id = omega arith

filter_ids : (p : Part → Bool) (parts : List Part) (id : ℕ) → id_times (filter p parts) id ≤ id_times parts id
filter_ids p [] id = omega arith
filter_ids p (part ∷ parts) id = omega (arith, if_ids (p part) part (filter p parts) id, filter_ids p parts id)

leaving_ids : (vs : List ℕ) (parts : List Part) (id : ℕ) → id_times (map (leaving vs) parts) id ≡ id_times parts id
leaving_ids vs [] id = refl
leaving_ids vs (part ∷ parts) id = ap (λ n. one_if (part.id == id) + n) (leaving_ids vs parts id)

pub left_ids : (vs : List ℕ) (parts : List Part) (id : ℕ) → id_times (left_parts vs parts) id ≤ id_times parts id
left_ids vs parts id = omega (arith, filter_ids (λ part. not (length part.versions == 0)) (map (leaving vs) parts) id, leaving_ids vs parts id)

pub left_gone : (vs : List ℕ) (parts : List Part) (vid : ℕ) → is_one vs vid ≡ true → part_times (left_parts vs parts) vid ≡ 0
left_gone vs parts vid gone = kept_parts (map (leaving vs) parts) vid ∙ gone_parts vs parts vid gone

pub left_stays : (vs : List ℕ) (parts : List Part) (vid : ℕ) → is_one vs vid ≡ false → part_times (left_parts vs parts) vid ≡ part_times parts vid
left_stays vs parts vid stays = kept_parts (map (leaving vs) parts) vid ∙ stays_parts vs parts vid stays
