-- Partitions and targets of a Whole gone through with marks at their versions.
use Rattle.std.proofs.Common.{◌≡◌, ℕ, zero, suc, ◌+◌, ◌-◌, ◌^◌, ◌<◌, ◌≤◌, Bool, true, false, not, cond, ◌||◌, ◌&&◌, eqb, List, [], ◌∷◌, ◌++◌, length, get_or, drop, take, map, refl, sym, ap, ◌∙◌, inl, inr, arith}
use Rattle.std.specs.Prelude.{Some, None, nat_le, nat_lt}
use Rattle.std.specs.List.{list_all, list_any, flat_map}
use Rattle.std.proofs.lemmas.Bool.{cases_Bool, or_left, or_right, and_parts, eqb-true, eq-eqb, leb-true, ne_eqb}
use Rattle.std.proofs.lemmas.List.{drop_more, length-map, take_more}
use Rattle.std.proofs.lemmas.List.Folds.{list_any-append, list_all-map}
use Rattle.ov_host.specs.declared.area.Extent.{Extent}
use Rattle.ov_layout.specs.declared.part.Part.{Part}
use Rattle.ov_layout.specs.Index.{numbers_of}
use Rattle.ov_layout.specs.Parts.{Ascend, has, part_numbered, serves, is_placed, times_placed}
use Rattle.ov_layout.proofs.PlacedLemmas.{one-no, one-yes, times-cons}
use Rattle.ov_layout.proofs.VidLemmas.{has-below}
use Rattle.ov_model.specs.Records.{counted}
use Rattle.ov_catalog.specs.declared.cvd.Plan.{Plan}
use Rattle.ov_catalog.specs.declared.cvd.Target.{Target}
use Rattle.ov_catalog.specs.declared.draft.Draft.{Draft}
use Rattle.ov_catalog.specs.Drafts.{draft_in}
use Rattle.ov_catalog.specs.Events.{current, is_one}
use Rattle.ov_catalog.specs.Numbers.{PartNumbers, TargetNumbers, VersionNumbers}
use Rattle.ov_catalog.specs.Planning.{ascend_from}
use Rattle.ov_catalog.specs.Running.{is_in_target}
use Rattle.ov_catalog.specs.Seen.{IsOnce, is_target_by, may_leave_by, serves_only_by}
use Rattle.ov_catalog.specs.Sets.{part_in, plan_in, plan_numbers, target_in, version_in}
use Rattle.ov_catalog.specs.Testing.{is_list, targets_from}
use Rattle.ov_catalog.specs.Wholes.{are_copied, are_parts, are_placed, are_segments, are_sources, are_targets, are_there, is_part, is_plan, is_target, parts_serving, serves_only, targets_left}
use Rattle.ov_catalog.proofs.PartLemmas.{id-least}
use Rattle.ov_catalog.proofs.SeenLemmas.{placed-at, seen-meets, source-same}
use Rattle.ov_catalog.proofs.SplitLemmas.{some-of}
use Rattle.ov_catalog.proofs.TargetLemmas.{from-in}
use Rattle.ov_catalog.proofs.WholeParts.{all-at, any-seen, counted-at, ids-seen, placed-within, serving-times, unplaced-times}

-- ---- partitions

times-more : (vid : ℕ) (parts : List Part) (part : Part) → times_placed vid (parts ++ part ∷ []) ≡ times_placed vid parts + cond (serves vid part) 1 0
times-more vid [] part = let one = times-cons vid part [] in omega (arith, one)
times-more vid (p ∷ parts) part =
    let all = times-cons vid p (parts ++ part ∷ []) in
    let some = times-cons vid p parts in
    let rest = times-more vid parts part in
    omega (arith, all, some, rest)

placed-times : (vid : ℕ) (parts : List Part) → is_placed parts vid ≡ true → 1 ≤ times_placed vid parts
placed-times vid [] there = absurd cc
placed-times vid (part ∷ parts) there =
    let times = times-cons vid part parts in
    elim (cases_Bool (serves vid part)) [
      | inl e ↦ let one = one-yes (serves vid part) 1 e in omega (arith, times, one)
      | inr e ↦ let rest = placed-times vid parts (rw e at there) in omega (arith, times, rest)
    ]

-- a version of one before it and of it
twice-by : (parts : List Part) (k vid : ℕ) (d : Part) → k < length parts → is_placed (take k parts) vid ≡ true → has (get_or parts k d).versions vid ≡ true → 2 ≤ times_placed vid parts
twice-by [] k vid d lt before there = absurd (omega arith)
twice-by (part ∷ parts) zero vid d lt before there = absurd cc
twice-by (part ∷ parts) (suc k) vid d lt before there =
    let times = times-cons vid part parts in
    elim (cases_Bool (serves vid part)) [
      | inl e ↦
          let one = one-yes (serves vid part) 1 e in
          let rest = placed-times vid parts (placed-at parts k vid d (omega arith) there) in
          omega (arith, times, one, rest)
      | inr e ↦ let rest = twice-by parts k vid d (omega arith) (rw e at before) there in omega (arith, times, rest)
    ]

module _ (parts : List Part) (k : ℕ) (d : Part) (lt : k < length parts) (seen : List Bool) (marks : (vid : ℕ) → get_or seen vid false ≡ is_placed (take k parts) vid) where
  abbrev here : Part
  here = get_or parts k d

  pub twice : (now : List Bool) → list_any (λ vid. get_or seen vid false) here.versions ≡ true → IsOnce false now parts
  twice now some =
      let one = some-of (λ vid. get_or seen vid false) here.versions some in
      (one.0, twice-by parts k one.0 d lt (sym (marks one.0) ∙ one.1.1) one.1.0)

  pub placed-more : (now : List Bool) → ((vid : ℕ) → get_or now vid false ≡ (get_or seen vid false || has here.versions vid)) → (vid : ℕ) → get_or now vid false ≡ is_placed (take (k + 1) parts) vid
  placed-more now marked vid =
      marked vid ∙ ap (λ (b : Bool). b || has here.versions vid) (marks vid)
      ∙ sym (ap (λ (ps : List Part). is_placed ps vid) (take_more parts k d lt) ∙ list_any-append (serves vid) (take k parts) (here ∷ []) ∙ or-last (is_placed (take k parts) vid) (serves vid here))
    where
      or-last : (a b : Bool) → (a || (b || false)) ≡ (a || b)
      or-last true b = refl
      or-last false true = refl
      or-last false false = refl

  pub once-more : list_any (λ vid. get_or seen vid false) here.versions ≡ false → ((vid : ℕ) → times_placed vid (take k parts) ≤ 1) → (vid : ℕ) → times_placed vid (take (k + 1) parts) ≤ 1
  once-more none once vid =
      let more = ap (λ (ps : List Part). times_placed vid ps) (take_more parts k d lt) ∙ times-more vid (take k parts) here in
      elim (cases_Bool (serves vid here)) [
        | inl e ↦
            let one = one-yes (serves vid here) 1 e in
            let free = unplaced-times vid (take k parts) (sym (marks vid) ∙ none-of (λ v. get_or seen v false) here.versions vid none e) in
            omega (arith, more, one, free)
        | inr e ↦
            let own = one-no (serves vid here) 1 e in
            let before = once vid in
            omega (arith, more, own, before)
      ]
    where
      none-of : (p : ℕ → Bool) (xs : List ℕ) (x : ℕ) → list_any p xs ≡ false → has xs x ≡ true → p x ≡ false
      none-of p [] x none there = absurd cc
      none-of p (y ∷ xs) x none there =
          elim (cases_Bool (p y)) [
            | inl e ↦ let no = rw e at none in absurd cc
            | inr e ↦ elim (cases_Bool (eqb y x)) [
              | inl same ↦ ap p (sym (eqb-true y x same)) ∙ e
              | inr other ↦ none-of p xs x (rw e at none) (rw other at there)
            ]
          ]

all-marked : (marks : List Bool) (from : ℕ) (test : ℕ → Bool) → ((k : ℕ) → k < length marks → get_or marks k false ≡ test (from + k)) → list_all (λ b. b) marks ≡ list_all test (counted from (length marks))
all-marked [] from test same = refl
all-marked (b ∷ marks) from test same =
    let first : b ≡ test from = same 0 (omega arith) ∙ ap test (let up : from + 0 ≡ from = omega arith in up) in
    let rest = all-marked marks (from + 1) test (λ k lt. same (suc k) (omega arith) ∙ ap test (let up : from + suc k ≡ from + 1 + k = omega arith in up)) in
    λ i. first i && rest i

once-test : (parts : List Part) (vid : ℕ) → times_placed vid parts ≤ 1 → is_placed parts vid ≡ eqb (parts_serving (map part_in parts) vid) 1
once-test parts vid once =
    let times = serving-times parts vid in
    elim (cases_Bool (is_placed parts vid)) [
      | inl e ↦
          let some = placed-times vid parts e in
          e ∙ sym (eq-eqb (parts_serving (map part_in parts) vid) 1 (omega (arith, times, some, once)))
      | inr e ↦
          let none = unplaced-times vid parts e in
          e ∙ sym (ne_eqb (parts_serving (map part_in parts) vid) 1 (λ one. absurd (omega (arith, times, none, one))))
    ]

-- the marks but the first one, which is no version's
pub each-once : (count : ℕ) (parts : List Part) (seen : List Bool) → length seen ≡ count + 1 → IsOnce true seen parts → list_all (λ b. b) (drop 1 seen) ≡ list_all (λ vid. eqb (parts_serving (map part_in parts) vid) 1) (counted 1 count)
each-once count parts [] long once = absurd (omega (arith, long))
each-once count parts (b ∷ marks) long once =
    let size : length marks ≡ count = omega (arith, long) in
    all-marked marks 1 (λ vid. eqb (parts_serving (map part_in parts) vid) 1)
    (λ k lt. once.0 (suc k) ∙ once-test parts (suc k) (once.1 (suc k)) ∙ ap (λ (n : ℕ). eqb (parts_serving (map part_in parts) n) 1) (let up : suc k ≡ 1 + k = omega arith in up))
    ∙ ap (λ (n : ℕ). list_all (λ vid. eqb (parts_serving (map part_in parts) vid) 1) (counted 1 n)) size

pub not-once : (count records : ℕ) (parts : List Part) (seen : List Bool) → list_all (is_part count records) (map part_in parts) ≡ true → IsOnce false seen parts
    → list_all (λ vid. eqb (parts_serving (map part_in parts) vid) 1) (counted 1 count) ≡ false
not-once count records parts seen each two =
    elim (cases_Bool (list_all (λ vid. eqb (parts_serving (map part_in parts) vid) 1) (counted 1 count))) [
      | inl e ↦
          let vid = two.0 in
          let twice = two.1 in
          let there : is_placed parts vid ≡ true = elim (cases_Bool (is_placed parts vid)) [
            | inl is ↦ is
            | inr out ↦ let none = unplaced-times vid parts out in absurd (omega (arith, none, twice))
          ] in
          let within = placed-within count records parts each vid there in
          let le = within.1 in
          let one = eqb-true _ _ (counted-at (λ v. eqb (parts_serving (map part_in parts) v) 1) 1 count vid e within.0 (omega (arith, le))) in
          let times = serving-times parts vid in
          absurd (omega (arith, one, times, twice))
      | inr e ↦ e
    ]

-- ---- targets

and-false : (a b : Bool) → b ≡ false → (a && b) ≡ false
and-false true b h = h
and-false false b h = refl

and-true : (b : Bool) → (b && true) ≡ b
and-true true = refl
and-true false = refl

pub targets-not : (count records k : ℕ) (ts : List Target) → are_targets count records (map target_in (drop k ts)) ≡ false → are_targets count records (map target_in ts) ≡ false
targets-not count records zero ts h = h
targets-not count records (suc k) [] h = h
targets-not count records (suc k) (t ∷ ts) h = and-false _ _ (targets-not count records k ts h)

target-same : (count records : ℕ) (f : ℕ → Bool) (t : Target) (rest : List Target) → ((vid : ℕ) → f vid ≡ is_in_target rest vid) → is_target count records (target_in t) (map target_in rest) ≡ is_target_by f count records (target_in t)
target-same count records f t rest same = rw (any-seen (map target_in rest) t.versions, ← seen-meets f rest t.versions same) refl

pub targets-one : (count records : ℕ) (f : ℕ → Bool) (ts : List Target) (k : ℕ) (e : Target) → k < length ts → ((vid : ℕ) → f vid ≡ is_in_target (drop (k + 1) ts) vid)
    → are_targets count records (map target_in (drop (k + 1) ts)) ≡ true → are_targets count records (map target_in (drop k ts)) ≡ is_target_by f count records (target_in (get_or ts k e))
targets-one count records f ts k e lt marks later =
    let t = get_or ts k e in
    ap (λ (xs : List Target). are_targets count records (map target_in xs)) (drop_more ts k e lt)
    ∙ (λ i. target-same count records f t (drop (k + 1) ts) marks i && later i) ∙ and-true _

pub target-there : (f : ℕ → Bool) (count records : ℕ) (t : Target) (vid : ℕ) → is_target_by f count records (target_in t) ≡ true → has t.versions vid ≡ true → vid ≤ count
target-there f count records t vid is there =
    let halves = and_parts (not (eqb (length t.versions) 0) && are_there count t.versions) (not (list_any f t.versions) && nat_le t.size records) is in
    let versions = and_parts (not (eqb (length t.versions) 0)) (are_there count t.versions) halves.0 in
    let low = and_parts (ascend_from 1 t.versions) (list_all (λ v. nat_le v count) t.versions) versions.1 in
    leb-true vid count (all-at (λ v. nat_le v count) t.versions vid low.1 there)

pub target-at : (ts : List Target) (k vid : ℕ) (e : Target) → k < length ts → has (get_or ts k e).versions vid ≡ true → is_in_target ts vid ≡ true
target-at [] k vid e lt there = absurd (omega arith)
target-at (t ∷ ts) zero vid e lt there = or_left (has t.versions vid) (is_in_target ts vid) there
target-at (t ∷ ts) (suc k) vid e lt there = or_right (has t.versions vid) (is_in_target ts vid) (target-at ts k vid e (omega arith) there)

-- ---- sources

pub sources-not : (parts : List (PartNumbers Extent)) (vids : List ℕ) (k : ℕ) (ts : List Target) → are_sources parts vids (map target_in (drop k ts)) ≡ false → are_sources parts vids (map target_in ts) ≡ false
sources-not parts vids zero ts h = h
sources-not parts vids (suc k) [] h = h
sources-not parts vids (suc k) (t ∷ ts) h = and-false _ _ (sources-not parts vids k ts h)

all-same : (p q : ℕ → Bool) (xs : List ℕ) → ((x : ℕ) → p x ≡ q x) → list_all p xs ≡ list_all q xs
all-same p q [] same = refl
all-same p q (x ∷ xs) same = λ i. same x i && all-same p q xs same i

only-same : (left : ℕ → Bool) (vids : List ℕ) (id : ℕ) (parts : List (PartNumbers Extent)) → ((vid : ℕ) → left vid ≡ is_one vids vid) → list_all (serves_only_by left id) parts ≡ list_all (serves_only id vids) parts
only-same left vids id [] same = refl
only-same left vids id (part ∷ parts) same = λ i. (not (eqb part.id id) || all-same left (is_one vids) part.versions same i) && only-same left vids id parts same i

pub sources-one : (parts : List (PartNumbers Extent)) (vids : List ℕ) (later left : ℕ → Bool) (ts : List Target) (k : ℕ) (e : Target) → k < length ts → ((vid : ℕ) → later vid ≡ is_in_target (drop (k + 1) ts) vid)
    → ((vid : ℕ) → left vid ≡ is_one vids vid) → are_sources parts vids (map target_in (drop (k + 1) ts)) ≡ true
    → are_sources parts vids (map target_in (drop k ts)) ≡ may_leave_by later left parts (target_in (get_or ts k e))
sources-one parts vids later left ts k e lt marks same behind =
    let t = get_or ts k e in
    let rest = drop (k + 1) ts in
    ap (λ (xs : List Target). are_sources parts vids (map target_in xs)) (drop_more ts k e lt)
    ∙ (λ i. (sym (source-same later parts (target_in t) rest marks) i && sym (only-same left vids t.source parts same) i) && behind i) ∙ and-true _

-- ---- a partition by its number

only-none : (left : ℕ → Bool) (id : ℕ) (parts : List Part) → has (numbers_of parts) id ≡ false → list_all (serves_only_by left id) (map part_in parts) ≡ true
only-none left id [] out = refl
only-none left id (part ∷ parts) out =
    elim (cases_Bool (eqb part.id id)) [
      | inl e ↦ let no = rw e at out in absurd cc
      | inr e ↦ rw e (only-none left id parts (rw e at out))
    ]

pub only-missing : (left : ℕ → Bool) (id : ℕ) (parts : List Part) → part_numbered id parts ≡ None → list_all (serves_only_by left id) (map part_in parts) ≡ true
only-missing left id [] none = refl
only-missing left id (part ∷ parts) none =
    elim (cases_Bool (eqb part.id id)) [
      | inl e ↦ let no = rw e at none in absurd cc
      | inr e ↦ rw e (only-missing left id parts (rw e at none))
    ]

pub only-at : (left : ℕ → Bool) (id least at : ℕ) (parts : List Part) (d : Part) → Ascend least (numbers_of parts) → at < length parts → (get_or parts at d).id ≡ id
    → list_all (serves_only_by left id) (map part_in parts) ≡ list_all left (get_or parts at d).versions
only-at left id least at [] d up lt is = absurd (omega arith)
only-at left id least zero (part ∷ parts) d up lt is =
    let none = only-none left id parts (has-below (suc part.id) (numbers_of parts) id up.1 (omega (arith, is))) in
    rw (eq-eqb part.id id is, none) (and-true _)
only-at left id least (suc at) (part ∷ parts) d up lt is =
    let above = id-least (suc part.id) at parts d up.1 (omega arith) in
    rw (ne_eqb part.id id (λ same. absurd (omega (arith, above, same, is)))) (only-at left id (suc part.id) at parts d up.1 (omega arith) is)

-- ---- the tests over what a draft has

abbrev pub in_one : Draft → Bool
in_one d = list_all (λ vid. eqb (parts_serving (map part_in d.parts.items) vid) 1) (counted 1 (length d.versions.items))

abbrev pub may_be_parts : Draft → Bool
may_be_parts d =
    (ascend_from 1 (numbers_of d.parts.items) && list_all (λ part. nat_lt part.id d.next) d.parts.items)
    && (list_all (λ part. is_part (length d.versions.items) d.records (part_in part)) d.parts.items
    && nat_lt (d.next + length (targets_left (plan_in d.plan)) + (65535 - length d.versions.items)) (2 ^ 32))

parts-seen : (d : Draft) → are_parts (draft_in d) ≡ ((ascend_from 1 (numbers_of d.parts.items) && list_all (λ part. nat_lt part.id d.next) d.parts.items)
    && ((in_one d && list_all (λ part. is_part (length d.versions.items) d.records (part_in part)) d.parts.items)
    && nat_lt (d.next + length (targets_left (plan_in d.plan)) + (65535 - length d.versions.items)) (2 ^ 32)))
parts-seen d =
    let parts = d.parts.items in
    ap (λ (n : ℕ). (ascend_from 1 (map (λ (part : PartNumbers Extent). part.id) (map part_in parts)) && list_all (λ part. nat_lt part.id d.next) (map part_in parts))
    && ((list_all (λ vid. eqb (parts_serving (map part_in parts) vid) 1) (counted 1 n) && list_all (is_part n d.records) (map part_in parts))
    && nat_lt (d.next + length (targets_left (plan_in d.plan)) + (65535 - n)) (2 ^ 32))) (length-map d.versions.items version_in)
    ∙ (λ i. (ascend_from 1 (ids-seen parts i) && list_all-map (λ (part : PartNumbers Extent). nat_lt part.id d.next) part_in parts i)
    && ((in_one d && list_all-map (is_part (length d.versions.items) d.records) part_in parts i)
    && nat_lt (d.next + length (targets_left (plan_in d.plan)) + (65535 - length d.versions.items)) (2 ^ 32)))

and-rest : (a b once each left : Bool) → ((a && b) && (each && left)) ≡ true → once ≡ ((a && b) && ((once && each) && left))
and-rest true true true true true h = refl
and-rest true true false true true h = refl
and-rest true true once true false h = absurd cc
and-rest true true once false left h = absurd cc
and-rest true false once each left h = absurd cc
and-rest false b once each left h = absurd cc

and-none : (a b once each left : Bool) → ((a && b) && (each && left)) ≡ false → false ≡ ((a && b) && ((once && each) && left))
and-none true true true true true h = absurd cc
and-none true true true true false h = refl
and-none true true true false left h = refl
and-none true true false true true h = absurd cc
and-none true true false true false h = refl
and-none true true false false left h = refl
and-none true false once each left h = refl
and-none false b once each left h = refl

pub parts-rest : (d : Draft) → may_be_parts d ≡ true → in_one d ≡ are_parts (draft_in d)
parts-rest d h =
    and-rest (ascend_from 1 (numbers_of d.parts.items)) (list_all (λ part. nat_lt part.id d.next) d.parts.items) (in_one d)
    (list_all (λ part. is_part (length d.versions.items) d.records (part_in part)) d.parts.items)
    (nat_lt (d.next + length (targets_left (plan_in d.plan)) + (65535 - length d.versions.items)) (2 ^ 32)) h ∙ sym (parts-seen d)

pub parts-not : (d : Draft) → may_be_parts d ≡ false → false ≡ are_parts (draft_in d)
parts-not d h =
    and-none (ascend_from 1 (numbers_of d.parts.items)) (list_all (λ part. nat_lt part.id d.next) d.parts.items) (in_one d)
    (list_all (λ part. is_part (length d.versions.items) d.records (part_in part)) d.parts.items)
    (nat_lt (d.next + length (targets_left (plan_in d.plan)) + (65535 - length d.versions.items)) (2 ^ 32)) h ∙ sym (parts-seen d)

pub placed-seen : (d : Draft) → are_placed (draft_in d) ≡ (list_all (λ v. is_list v.rows v.list) d.versions.items && (list_all (λ part. are_segments part.records part.segments) d.parts.items && are_copied (plan_in d.plan)))
placed-seen d = λ i. list_all-map (λ (v : VersionNumbers Extent). is_list v.rows v.list) version_in d.versions.items i
    && (list_all-map (λ (part : PartNumbers Extent). are_segments part.records part.segments) part_in d.parts.items i && are_copied (plan_in d.plan))

pub and-is : (a b : Bool) → a ≡ true → (a && b) ≡ b
and-is true b h = refl
and-is false b h = absurd cc

pub and-not : (a b : Bool) → a ≡ false → (a && b) ≡ false
and-not true b h = absurd cc
and-not false b h = refl

pub plan-rest : (d : Draft) (plan : Plan) (left : List Target) → left ≡ drop plan.at plan.targets
    → (nat_lt plan.at (length (map target_in plan.targets)) && nat_le (plan.copied + (current (plan_numbers plan)).kept_records) (current (plan_numbers plan)).size) ≡ true
    → are_targets (length d.versions.items) d.records (map target_in plan.targets) ≡ true
    → are_sources (map part_in d.parts.items) (flat_map (λ t. t.versions) (map target_in left)) (map target_in left) ≡ is_plan (draft_in d) (plan_in (Some plan))
plan-rest d plan left is now are =
    let targets = map target_in plan.targets in
    let same : map target_in left ≡ targets_from plan.at targets = ap (λ (ts : List Target). map target_in ts) is ∙ sym (from-in plan.at plan.targets) in
    let tested : are_targets (length (draft_in d).versions) d.records targets ≡ true = ap (λ (n : ℕ). are_targets n d.records targets) (length-map d.versions.items version_in) ∙ are in
    ap (λ (us : List TargetNumbers). are_sources (map part_in d.parts.items) (flat_map (λ (t : TargetNumbers). t.versions) us) us) same
    ∙ sym (and-is _ _ now ∙ and-is _ _ tested)
