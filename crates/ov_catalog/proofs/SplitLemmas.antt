-- The targets that a plan has of a split can become partitions, one after another.
use Rattle.std.proofs.Common.{◌≡◌, ℕ, zero, suc, ◌+◌, ◌^◌, ◌<◌, ◌≤◌, Bool, true, false, not, ◌||◌, ◌&&◌, eqb, cond, List, [], ◌∷◌, ◌++◌, length, drop, get_or, take, map, Vec, Global, refl, sym, ap, subst, ◌∙◌, inl, inr, arith}
use Rattle.std.specs.Prelude.{Option, Some, None, nat_le, is_none, All}
use Rattle.std.specs.List.{list_all, list_any, count_by, range_with_len, sum_by}
use Rattle.std.proofs.lemmas.Bool.{cases_Bool, cases_lt, cond-true, cond-false, eq-eqb, eqb-true, leb-true}
use Rattle.std.proofs.lemmas.List.{length-map, length-take-le, take_more}
use Rattle.std.proofs.lemmas.List.Sums.{sum_by-cons}
use Rattle.ov_graph.specs.declared.nodes.Node.{Node}
use Rattle.ov_graph.specs.Splits as splits
use Rattle.ov_graph.specs.Splits.{Ascends, IsDivision}
use Rattle.ov_graph.specs.Versions as graph
use Rattle.ov_host.specs.declared.area.Extent.{Extent}
use Rattle.ov_layout.specs.declared.part.Part.{Part}
use Rattle.ov_layout.specs.Changes.{IsNew}
use Rattle.ov_layout.specs.Parts.{has, is_placed, part_numbered, Ascend, ArePartsFrom}
use Rattle.ov_layout.proofs.VidLemmas.{Ascend-weaker, has-append}
use Rattle.ov_catalog.specs.declared.cvd.Cvd.{Cvd}
use Rattle.ov_catalog.specs.declared.cvd.Plan.{Plan}
use Rattle.ov_catalog.specs.declared.cvd.Target.{Target}
use Rattle.ov_catalog.specs.Ready.{CanBegin, IsSet, said_by}
use Rattle.ov_catalog.specs.Applying.{rows_at}
use Rattle.ov_catalog.specs.Events.{graph_of, parts_at, target_of, targets_of}
use Rattle.ov_event.specs.declared.event.PlanTarget.{PlanTarget}
use Rattle.ov_lyre.specs.Parts.{lists_of}
use Rattle.ov_catalog.specs.Numbers.{SetNumbers, TargetNumbers}
use Rattle.ov_catalog.specs.Planning.{are_below, are_targets, ascend_from, is_kept, is_size, is_source, meets}
use Rattle.ov_catalog.specs.Running.{AreTargets, AreThere, IsKept, IsSource, IsTarget, is_in_target, targets_left}
use Rattle.ov_catalog.specs.Sets.{part_in, set_in, target_in, version_in}
use Rattle.ov_catalog.specs.Splitting.{IsListed, IsSplitOf}
use Rattle.ov_catalog.proofs.ThresholdLemmas.{said-as}
use Rattle.ov_catalog.proofs.TargetLemmas.{ascend-in, below-in, numbered-in, part-there, said-more, seen_part, versions-of, versions-seen, zero-none}

and-both : (a b : Bool) → (a && b) ≡ true → (a ≡ true) × (b ≡ true)
and-both true b h = (refl, h)
and-both false b h = absurd cc

not-true : (b : Bool) → not b ≡ true → b ≡ false
not-true true h = absurd cc
not-true false h = refl

or-true : (b : Bool) → (b || true) ≡ true
or-true true = refl
or-true false = refl

pub or-assoc : (a b d : Bool) → (a || (b || d)) ≡ ((a || b) || d)
or-assoc true b d = refl
or-assoc false b d = refl

-- ---- parts of a split

ascend-up : (low high : ℕ) (part : List ℕ) → Ascends low high part → Ascend (suc low) part
ascend-up low high [] h = tt
ascend-up low high (vid ∷ part) h = (let lt = h.0 in omega (arith, lt), ascend-up vid high part h.2)

ascends-there : (low high : ℕ) (part : List ℕ) (vid : ℕ) → Ascends low high part → has part vid ≡ true → vid ≤ high
ascends-there low high [] vid h there = absurd cc
ascends-there low high (v ∷ part) vid h there =
    elim (cases_Bool (eqb v vid)) [
      | inl e ↦ let same = eqb-true v vid e in let le = h.1 in omega (arith, same, le)
      | inr e ↦ ascends-there v high part vid h.2 (rw e at there)
    ]

pub split-is : (d : SetNumbers Extent Extent) (p q : ℕ) (nodes : List Node) (parts : List (List ℕ)) → nodes ≡ graph.reduced (graph_of d.versions) → parts ≡ splits.parts_of nodes p q → IsDivision nodes p q parts → IsSplitOf d p q parts
split-is d p q nodes parts is parts_are division =
    let long : length nodes ≡ length d.versions = ap (λ (ns : List Node). length ns) is ∙ length-map (graph_of d.versions) graph.node_of ∙ length-map d.versions _ in
    record {
      parts_are = parts_are ∙ ap (λ (ns : List Node). splits.parts_of ns p q) is;
      each = λ k e lt.
          let part = division.are_parts k e lt in
          record {
            some = let some = part.some in omega (arith, some);
            ascend = ascend-up 0 (length nodes) (get_or parts k e) part.ascends;
            there = λ vid there. let le = ascends-there 0 (length nodes) (get_or parts k e) vid part.ascends there in omega (arith, le, long);
          };
      once = λ vid one le. division.each_once vid one (omega (arith, le, long));
    }

-- ---- there are no more parts than versions

-- how many of these versions a part has, and how many parts have a version
abbrev in_part : List ℕ → List ℕ → ℕ
in_part part vids = sum_by (λ vid. cond (has part vid) 1 0) vids

abbrev hits : List (List ℕ) → List ℕ → ℕ
hits parts vids = sum_by (λ vid. count_by (λ part. has part vid) parts) vids

hits-none : (vids : List ℕ) → hits [] vids ≡ 0
hits-none [] = refl
hits-none (vid ∷ vids) =
    let sum = sum_by-cons (λ (v : ℕ). count_by (λ part. has part v) []) vid vids in
    let rest = hits-none vids in
    omega (arith, sum, rest)

hits-more : (part : List ℕ) (parts : List (List ℕ)) (vids : List ℕ) → hits (part ∷ parts) vids ≡ in_part part vids + hits parts vids
hits-more part parts [] = refl
hits-more part parts (vid ∷ vids) =
    let all = sum_by-cons (λ (v : ℕ). count_by (λ p. has p v) (part ∷ parts)) vid vids in
    let one = sum_by-cons (λ (p : List ℕ). cond (has p vid) 1 0) part parts in
    let own = sum_by-cons (λ (v : ℕ). cond (has part v) 1 0) vid vids in
    let rest = sum_by-cons (λ (v : ℕ). count_by (λ p. has p v) parts) vid vids in
    let less = hits-more part parts vids in
    omega (arith, all, one, own, rest, less)

range-has : (from count vid : ℕ) → from ≤ vid → vid < from + count → has (range_with_len from count) vid ≡ true
range-has from zero vid le lt = absurd (omega (arith, le, lt))
range-has from (suc count) vid le lt =
    elim (cases_Bool (eqb from vid)) [
      | inl e ↦ rw e refl
      | inr e ↦
          let other : from + 1 ≤ vid = elim (cases_lt from vid) [
            | inl less ↦ omega (arith, less)
            | inr more ↦
                let same : from ≡ vid = omega (arith, le, more) in
                let yes = eq-eqb from vid same in
                absurd cc
          ] in
          rw e (range-has (from + 1) count vid other (omega (arith, lt)))
    ]

some-in : (part vids : List ℕ) (vid : ℕ) → has part vid ≡ true → has vids vid ≡ true → 1 ≤ in_part part vids
some-in part [] vid there among = absurd cc
some-in part (v ∷ vids) vid there among =
    let sum = sum_by-cons (λ (w : ℕ). cond (has part w) 1 0) v vids in
    elim (cases_Bool (eqb v vid)) [
      | inl e ↦
          let same : v ≡ vid = eqb-true v vid e in
          let here : has part v ≡ true = ap (has part) same ∙ there in
          let one = cond-true {A = ℕ} (has part v) 1 0 here in
          omega (arith, sum, one)
      | inr e ↦ let rest = some-in part vids vid there (rw e at among) in omega (arith, sum, rest)
    ]

first-in : (count : ℕ) (part : List ℕ) → IsListed count part → 1 ≤ in_part part (range_with_len 1 count)
first-in count [] h = absurd (let some = h.some in omega (arith, some))
first-in count (vid ∷ part) h =
    let here : has (vid ∷ part) vid ≡ true = rw (eq-eqb vid vid refl) refl in
    let one = h.ascend.0 in
    let le = h.there vid here in
    some-in (vid ∷ part) (range_with_len 1 count) vid here (range-has 1 count vid (omega (arith, one)) (omega (arith, le)))

pub parts-hit : (count : ℕ) (parts : List (List ℕ)) → All (IsListed count) parts → length parts ≤ hits parts (range_with_len 1 count)
parts-hit count [] h = omega arith
parts-hit count (part ∷ parts) h =
    let rest = parts-hit count parts (λ k e lt. h (suc k) e (omega arith)) in
    let own = first-in count part (h 0 part (omega arith)) in
    let more = hits-more part parts (range_with_len 1 count) in
    omega (arith, rest, own, more)

pub hits-few : (parts : List (List ℕ)) (from count : ℕ) → ((vid : ℕ) → from ≤ vid → vid < from + count → count_by (λ part. has part vid) parts ≤ 1) → hits parts (range_with_len from count) ≤ count
hits-few parts from zero once = omega arith
hits-few parts from (suc count) once =
    let sum = sum_by-cons (λ (v : ℕ). count_by (λ part. has part v) parts) from (range_with_len (from + 1) count) in
    let own = once from (omega arith) (omega arith) in
    let rest = hits-few parts (from + 1) count (λ vid le lt. once vid (omega (arith, le)) (omega (arith, lt))) in
    omega (arith, sum, own, rest)

pub parts-few : (d : SetNumbers Extent Extent) (p q : ℕ) (parts : List (List ℕ)) → IsSplitOf d p q parts → length parts ≤ length d.versions
parts-few d p q parts is =
    let count = length d.versions in
    let hit = parts-hit count parts is.each in
    let few = hits-few parts 1 count (λ vid one lt. let once = is.once vid one (omega (arith, lt)) in omega (arith, once)) in
    omega (arith, hit, few)

-- ---- what a test says of a target's source

pub some-of : (p : ℕ → Bool) (xs : List ℕ) → list_any p xs ≡ true → (x : ℕ) × ((has xs x ≡ true) × (p x ≡ true))
some-of p [] h = absurd cc
some-of p (x ∷ xs) h =
    elim (cases_Bool (p x)) [
      | inl e ↦ (x, (rw (eq-eqb x x refl) refl, e))
      | inr e ↦ let rest = some-of p xs (rw e at h) in (rest.0, (rw rest.1.0 (or-true (eqb x rest.0)), rest.1.1))
    ]

meets-by : (a b : List ℕ) (vid : ℕ) → has a vid ≡ true → has b vid ≡ true → meets a b ≡ true
meets-by [] b vid h there = absurd cc
meets-by (v ∷ a) b vid h there =
    elim (cases_Bool (eqb v vid)) [
      | inl e ↦ let same : v ≡ vid = eqb-true v vid e in let here : has b v ≡ true = ap (has b) same ∙ there in rw here refl
      | inr e ↦ rw (meets-by a b vid (rw e at h) there) (or-true (has b v))
    ]

pub later-none : (ts : List Target) (vids : List ℕ) (vid : ℕ) → list_any (λ other. meets other vids) (map (λ (u : TargetNumbers). u.versions) (map target_in ts)) ≡ false → has vids vid ≡ true → is_in_target ts vid ≡ false
later-none [] vids vid h there = refl
later-none (t ∷ ts) vids vid h there =
    elim (cases_Bool (meets t.versions vids)) [
      | inl e ↦ let no = rw e at h in absurd cc
      | inr e ↦
          let rest = later-none ts vids vid (rw e at h) there in
          elim (cases_Bool (has t.versions vid)) [
            | inl is ↦ let yes = meets-by t.versions vids vid is there in absurd cc
            | inr not_so ↦ rw (not_so, rest) refl
          ]
    ]

no-length : (ns : List ℕ) → eqb (length ns) 0 ≡ true → ns ≡ []
no-length [] h = refl
no-length (n ∷ ns) h = let none : length (n ∷ ns) ≡ 0 = eqb-true _ _ h in absurd (omega (arith, none))

-- how many of the parts that follow have a version
one-only : (part : List ℕ) (parts : List (List ℕ)) (vid : ℕ) → count_by (λ p. has p vid) (part ∷ parts) ≤ 1 → has part vid ≡ true → count_by (λ p. has p vid) parts ≡ 0
one-only part parts vid few there =
    let sum = sum_by-cons (λ (p : List ℕ). cond (has p vid) 1 0) part parts in
    let own = cond-true {A = ℕ} (has part vid) 1 0 there in
    omega (arith, sum, own, few)

none-has : (ts : List Target) (vid : ℕ) → count_by (λ p. has p vid) (map (λ (t : Target). t.versions) ts) ≡ 0 → is_in_target ts vid ≡ false
none-has [] vid h = refl
none-has (t ∷ ts) vid h =
    let sum = sum_by-cons (λ (p : List ℕ). cond (has p vid) 1 0) t.versions (map (λ (t : Target). t.versions) ts) in
    elim (cases_Bool (has t.versions vid)) [
      | inl is ↦ let own = cond-true {A = ℕ} (has t.versions vid) 1 0 is in absurd (omega (arith, sum, own, h))
      | inr not_so ↦ rw not_so (none-has ts vid (let rest : count_by (λ p. has p vid) (map (λ (t : Target). t.versions) ts) ≡ 0 = omega (arith, sum, h) in rest))
    ]

some-has : (ts : List Target) (vid : ℕ) → count_by (λ p. has p vid) (map (λ (t : Target). t.versions) ts) ≡ 1 → is_in_target ts vid ≡ true
some-has [] vid h = absurd (omega (arith, h))
some-has (t ∷ ts) vid h =
    let sum = sum_by-cons (λ (p : List ℕ). cond (has p vid) 1 0) t.versions (map (λ (t : Target). t.versions) ts) in
    elim (cases_Bool (has t.versions vid)) [
      | inl is ↦ rw is refl
      | inr not_so ↦
          let own = cond-false {A = ℕ} (has t.versions vid) 1 0 not_so in
          rw not_so (some-has ts vid (let rest : count_by (λ p. has p vid) (map (λ (t : Target). t.versions) ts) ≡ 1 = omega (arith, sum, own, h) in rest))
    ]

-- ---- all of them

pub from-one : (least : ℕ) (part : List ℕ) (vid : ℕ) → Ascend least part → has part vid ≡ true → least ≤ vid
from-one least [] vid h there = absurd cc
from-one least (v ∷ part) vid h there =
    elim (cases_Bool (eqb v vid)) [
      | inl e ↦ let same = eqb-true v vid e in let le = h.0 in omega (arith, same, le)
      | inr e ↦ let rest = from-one (suc v) part vid h.1 (rw e at there) in let le = h.0 in omega (arith, rest, le)
    ]

-- their versions are there
pub all-there : (count : ℕ) (ts : List Target) → All (IsListed count) (map (λ (t : Target). t.versions) ts) → All (λ t. AreThere count t.versions) ts
all-there count [] h k e lt = absurd (omega arith)
all-there count (t ∷ ts) h zero e lt = λ vid is. (let here = h 0 t.versions (omega arith) in (from-one 1 t.versions vid here.ascend is, here.there vid is))
all-there count (t ∷ ts) h (suc k) e lt = all-there count ts (λ j x low. h (suc j) x (omega arith)) k e (omega arith)

either-is : (a b : Bool) → (a || b) ≡ true → b ≡ false → a ≡ true
either-is true b h out = refl
either-is false b h out = absurd cc

-- a target's source where all versions of it are in the target, before or behind it
module _ (before : List ℕ) (t : Target) (ts : List Target) where
  abbrev later : List (List ℕ)
  later = map (λ (u : TargetNumbers). u.versions) (map target_in ts)

  abbrev IsCovered : Part → Type 0
  IsCovered part = (vid : ℕ) → has part.versions vid ≡ true → (has before vid || is_in_target (t ∷ ts) vid) ≡ true

  kept-from : (o : Option Part) → ((part : Part) → o ≡ Some part → IsCovered part) → is_kept (target_in t) later (seen_part o) ≡ true → IsKept before t o × Ascend 0 t.kept
  kept-from None cover h = absurd cc
  kept-from (Some part) cover h =
      let halves = and-both (meets t.versions part.versions && not (list_any (λ other. meets other part.versions) later)) _ h in
      let empties = and-both (meets t.versions part.versions) (not (list_any (λ other. meets other part.versions) later)) halves.0 in
      let places = and-both (ascend_from 0 t.kept && are_below (length part.segments) t.kept) _ halves.1 in
      let below = and-both (ascend_from 0 t.kept) (are_below (length part.segments) t.kept) places.0 in
      let shared = some-of (has part.versions) t.versions empties.0 in
      let source : IsSource before t part = record {
        within = below-in (length part.segments) t.kept below.1;
        shared = shared.0;
        of_target = shared.1.0;
        of_part = shared.1.1;
        emptied = λ vid there.
            let none = later-none ts part.versions vid (not-true _ empties.1) there in
            let all : ((has before vid || has t.versions vid) || is_in_target ts vid) ≡ true = sym (or-assoc (has before vid) (has t.versions vid) (is_in_target ts vid)) ∙ cover part refl vid there in
            has-append before t.versions vid ∙ either-is (has before vid || has t.versions vid) (is_in_target ts vid) all none;
      } in
      (source, ascend-in 0 t.kept below.0)

  pub source-from : (parts : List Part) → part_numbered 0 parts ≡ None → ((part : Part) → part_numbered t.source parts ≡ Some part → IsCovered part)
      → is_source (map part_in parts) (target_in t) later ≡ true → IsKept before t (part_numbered t.source parts) × Ascend 0 t.kept
  source-from parts zero_none cover h =
      elim (cases_Bool (eqb t.source 0)) [
        | inl e ↦
            let zero_is : t.source ≡ 0 = eqb-true t.source 0 e in
            let none = and-both (eqb (length t.kept) 0) (eqb t.kept_records 0) (rw e at h) in
            let nothing : t.kept ≡ [] = no-length t.kept none.0 in
            let gone : part_numbered t.source parts ≡ None = ap (λ (id : ℕ). part_numbered id parts) zero_is ∙ zero_none in
            (rw gone (zero_is, nothing), subst (Ascend 0) (sym nothing) tt)
        | inr e ↦
            let kept : is_kept (target_in t) later (seen_part (part_numbered t.source parts)) ≡ true = rw (← numbered-in t.source parts) (rw e at h) in
            kept-from (part_numbered t.source parts) cover kept
      ]

module _ (d : Cvd) (next : ℕ) (sound : ArePartsFrom 1 next d.layout.parts) (new : IsNew (length d.versions.items + 1) d.layout.parts) (no_zero : is_placed d.layout.parts 0 ≡ false) (zero_none : part_numbered 0 d.layout.parts ≡ None) (records : d.records < 2 ^ 32) where
  abbrev count : ℕ
  count = length d.versions.items

  pub targets-run : (before : List ℕ) (ts : List Target) → All (IsListed count) (map (λ (t : Target). t.versions) ts)
      → ((vid : ℕ) → 1 ≤ vid → vid ≤ count → (has before vid || is_in_target ts vid) ≡ true)
      → ((vid : ℕ) → 1 ≤ vid → vid ≤ count → count_by (λ p. has p vid) (map (λ (t : Target). t.versions) ts) ≤ 1)
      → are_targets (set_in d) (map target_in ts) ≡ true → AreTargets count d.layout.parts before ts
  targets-run before [] listed cover once h = tt
  targets-run before (t ∷ ts) listed cover once h =
      let later = map (λ (u : TargetNumbers). u.versions) (map target_in ts) in
      let both = and-both (is_size (set_in d) (target_in t) && is_source (map part_in d.layout.parts) (target_in t) later) (are_targets (set_in d) (map target_in ts)) h in
      let own = and-both (is_size (set_in d) (target_in t)) (is_source (map part_in d.layout.parts) (target_in t) later) both.0 in
      let here : IsListed count t.versions = listed 0 t.versions (omega arith) in
      let source = source-from before t ts d.layout.parts zero_none
      (λ part found vid is. let range = part-there count 1 next t.source d.layout.parts part sound new no_zero found vid is in cover vid range.0 range.1) own.1
      in
      let there : AreThere count t.versions = λ vid is. (from-one 1 t.versions vid here.ascend is, here.there vid is) in
      let target : IsTarget count t = record {
        some = (let some = here.some in omega (arith, some));
        ascend = Ascend-weaker 0 1 t.versions (omega arith) here.ascend;
        there = there;
        kept = source.1;
        few = (let le = leb-true t.size d.records (and-both (list_all (λ vid. nat_le (rows_at (map version_in d.versions.items) vid) t.size) t.versions) (nat_le t.size d.records) own.0).1 in omega (arith, le, records));
      } in
      let parts = map (λ (u : Target). u.versions) ts in (
        target,
        source.0,
        λ vid is. none-has ts vid (one-only t.versions parts vid (let range = there vid is in once vid range.0 range.1) is),
        targets-run (before ++ t.versions) ts (λ k e lt. listed (suc k) e (omega arith))
            (λ vid one le. ap (λ (b : Bool). b || is_in_target ts vid) (has-append before t.versions vid) ∙ sym (or-assoc (has before vid) (has t.versions vid) (is_in_target ts vid)) ∙ cover vid one le)
            (λ vid one le.
            let all = once vid one le in
            let sum = sum_by-cons (λ (p : List ℕ). cond (has p vid) 1 0) t.versions parts in
            omega (arith, all, sum))
            both.1,
      )

  -- of a whole split
  pub split-runs : (p q : ℕ) (parts : List (List ℕ)) (ts : List Target) → IsSplitOf (set_in d) p q parts → map (λ (t : Target). t.versions) ts ≡ parts → are_targets (set_in d) (map target_in ts) ≡ true
      → AreTargets count d.layout.parts [] ts
  split-runs p q parts ts is same h =
      let long : length (set_in d).versions ≡ count = length-map d.versions.items _ in
      let once : (vid : ℕ) → 1 ≤ vid → vid ≤ count → count_by (λ p. has p vid) (map (λ (t : Target). t.versions) ts) ≡ 1 =
      λ vid one le. ap (λ (ps : List (List ℕ)). count_by (λ p. has p vid) ps) same ∙ is.once vid one (omega (arith, le, long)) in
      let each : All (IsListed count) (map (λ (t : Target). t.versions) ts) =
      subst (λ (ps : List (List ℕ)). All (IsListed count) ps) (sym same) (subst (λ (n : ℕ). All (IsListed n) parts) long is.each) in
      targets-run [] ts each
      (λ vid one le. some-has ts vid (once vid one le))
      (λ vid one le. let n = once vid one le in omega (arith, n))
      h

-- ---- the plan that begins

nothing-is : (plan : Option Plan) → is_none plan ≡ true → plan ≡ None
nothing-is None h = refl
nothing-is (Some plan) h = absurd cc

parts-some : (d : SetNumbers Extent Extent) (p q : ℕ) (parts : List (List ℕ)) → IsSplitOf d p q parts → 1 ≤ length d.versions → 1 ≤ length parts
parts-some d p q [] is some = let once : 0 ≡ 1 = is.once 1 (omega arith) some in absurd (omega (arith, once))
parts-some d p q (part ∷ parts) is some = omega arith

pub can-begin : (d : Cvd) (plan : Plan) (parts : List (List ℕ)) → IsSet d → ArePartsFrom 1 d.layout.next d.layout.parts → is_none d.plan ≡ true → 1 ≤ plan.p → d.layout.next ≤ 4294000000
    → IsSplitOf (set_in d) plan.p plan.q parts → map target_in plan.targets ≡ targets_of parts (map said_by plan.targets) → length plan.targets ≡ length parts
    → are_targets (set_in d) (map target_in plan.targets) ≡ true → plan.at ≡ 0 → plan.copied ≡ 0 → plan.segments.items ≡ [] → CanBegin plan d
can-begin d plan parts is sound idle positive low split said long are at copied segments =
    let count : length (set_in d).versions ≡ length d.versions.items = length-map d.versions.items version_in in
    let few = parts-few (set_in d) plan.p plan.q parts split in
    let all = is.few in
    let some = is.some in
    let one = parts-some (set_in d) plan.p plan.q parts split (omega (arith, count, some)) in
    let said_long : length (map said_by plan.targets) ≡ length parts = length-map plan.targets said_by ∙ long in
    let versions : map (λ (t : Target). t.versions) plan.targets ≡ parts =
    sym (versions-seen plan.targets) ∙ ap (λ (ts : List TargetNumbers). map (λ (t : TargetNumbers). t.versions) ts) said ∙ versions-of parts (map said_by plan.targets) said_long in
    let whole : targets_left plan ≡ plan.targets = ap (λ (n : ℕ). drop n plan.targets) at in
    let run = split-runs d d.layout.next sound is.new is.none_other (zero-none d.layout.next d.layout.parts sound) is.records plan.p plan.q parts plan.targets split versions are in
    let targets : map target_in plan.targets ≡ targets_of (parts_at plan.p plan.q (set_in d)) (map said_by plan.targets) = said ∙ ap (λ (ps : List (List ℕ)). targets_of ps (map said_by plan.targets)) split.parts_are in
    record {
      idle = nothing-is d.plan idle;
      threshold = record { said = said-as plan.p plan.q positive; runs = refl };
      begins = λ i. Some (record { p = plan.p; q = plan.q; targets = targets i; at = at i; copied = copied i; segments = segments i });
      next = omega (arith, low, long, few, count, all, some);
      runs = record {
        at = omega (arith, at, long, one);
        few = omega (arith, long, few, count, all);
        targets = subst (λ (ts : List Target). AreTargets (length d.versions.items) d.layout.parts [] ts) (sym whole) run;
      };
    }

-- ---- one target more

map-push : {X Y : Type 0} (f : X → Y) (xs : List X) (x : X) → map f (xs ++ x ∷ []) ≡ map f xs ++ f x ∷ []
map-push f [] x = refl
map-push f (y ∷ xs) x = ap (λ ys. f y ∷ ys) (map-push f xs x)

pub target-more : (parts : List (Vec ℕ Global)) (said : List PlanTarget) (targets : List Target) (t : Target) (at : ℕ) (d : Vec ℕ Global) (s : PlanTarget) → at < length parts → length said ≡ length parts
    → map target_in targets ≡ targets_of (lists_of (take at parts)) said → target_in t ≡ target_of (get_or parts at d).items (get_or said at s)
    → map target_in (targets ++ t ∷ []) ≡ targets_of (lists_of (take (at + 1) parts)) said
target-more parts said targets t at d s lt long before own =
    let lists : lists_of (take (at + 1) parts) ≡ lists_of (take at parts) ++ (get_or parts at d).items ∷ [] =
    ap lists_of (take_more parts at d lt) ∙ map-push (λ (part : Vec ℕ Global). part.items) (take at parts) (get_or parts at d) in
    let count : length (lists_of (take at parts)) ≡ at = length-map (take at parts) (λ (part : Vec ℕ Global). part.items) ∙ length-take-le at parts (omega (arith, lt)) in
    let more : targets_of (lists_of (take at parts) ++ (get_or parts at d).items ∷ []) said ≡ targets_of (lists_of (take at parts)) said ++ target_of (get_or parts at d).items (get_or said (length (lists_of (take at parts))) s) ∷ [] =
    said-more (lists_of (take at parts)) (get_or parts at d).items said s (omega (arith, count, lt, long)) in
    map-push target_in targets t
    ∙ (λ i. before i ++ own i ∷ [])
    ∙ ap (λ (n : ℕ). targets_of (lists_of (take at parts)) said ++ target_of (get_or parts at d).items (get_or said n s) ∷ []) (sym count)
    ∙ sym more
    ∙ sym (ap (λ (ls : List (List ℕ)). targets_of ls said) lists)

pub said-one : (said : List PlanTarget) (targets : List Target) (t : Target) (at : ℕ) (s : PlanTarget) → at < length said → map said_by targets ≡ take at said → said_by t ≡ get_or said at s
    → map said_by (targets ++ t ∷ []) ≡ take (at + 1) said
said-one said targets t at s lt before own = map-push said_by targets t ∙ (λ i. before i ++ own i ∷ []) ∙ sym (take_more said at s lt)

pub split-there : (d : Cvd) (p q : ℕ) (parts : List (List ℕ)) (said : List PlanTarget) (ts : List Target) → IsSplitOf (set_in d) p q parts → map target_in ts ≡ targets_of parts said → length said ≡ length parts
    → All (λ t. AreThere (length d.versions.items) t.versions) ts
split-there d p q parts said ts is same long =
    let count : length (set_in d).versions ≡ length d.versions.items = length-map d.versions.items version_in in
    let versions : map (λ (t : Target). t.versions) ts ≡ parts =
    sym (versions-seen ts) ∙ ap (λ (xs : List TargetNumbers). map (λ (t : TargetNumbers). t.versions) xs) same ∙ versions-of parts said long in
    all-there (length d.versions.items) ts (subst (λ (ps : List (List ℕ)). All (IsListed (length d.versions.items)) ps) (sym versions) (subst (λ (n : ℕ). All (IsListed n) parts) count is.each))
