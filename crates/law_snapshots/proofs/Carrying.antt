-- Each event that applies leaves datasets that a Whole may say, whose numbers ascend and whose names differ.
use Rattle.std.proofs.Common.{◌≡◌, ◌≤◌, ◌<◌, ℕ, ◌+◌, Bool, true, false, ◌&&◌, ◌||◌, ◌==◌, List, [], ◌∷◌, ◌++◌, length, map, refl, sym, ap, subst, ◌∙◌, inl, inr, arith, length-append}
use Rattle.std.specs.Prelude.{cond, filter, find, nat_le, nat_lt, not, Option, Some, None, if◌then◌else◌}
use Rattle.std.specs.List.{list_all, list_any, AllByRecursion}
use Rattle.std.specs.Option.{option_or}
use Rattle.std.specs.Str.{bytes_eq}
use Rattle.std.proofs.lemmas.Bool.{and_from, and_parts, eqb-true, leb-true, le-leb, lt-ltb, ltb-true}
use Rattle.ov_event.specs.declared.event.Event as raw
use Rattle.ov_event.specs.declared.event.Event.TheVariants as says
use Rattle.ov_event.specs.declared.event.RawSchema.{RawSchema}
use Rattle.ov_event.specs.declared.whole.Whole as raw_whole
use Rattle.ov_event.specs.declared.whole.RawPlan.{RawPlan}
use Rattle.ov_host.specs.declared.area.Extent.{Extent}
use Rattle.ov_layout.specs.Changes.{extents_of}
use Rattle.ov_value.specs.Naming.{is_name}
use Rattle.ov_model.specs.Lists.{IsIn}
use Rattle.ov_catalog.specs.declared.field.Field.{Field}
use Rattle.ov_catalog.specs.declared.field.Field.TheVariants as off
use Rattle.ov_catalog.specs.Applying.{AllFollow, AtStart, Beyond, InSnapshot, Reach, Stage, base_off, format_off, number_off, of_live, off_at, stage_after, start_of}
use Rattle.ov_catalog.specs.Events.{applied, change, copied_more, flipped, flipped_by, new_set, numbered, planned, replayed, version_of, with_columns, with_version}
use Rattle.ov_catalog.specs.Numbers.{PlanNumbers, SetNumbers, Numbers, nothing_yet}
use Rattle.ov_catalog.specs.Planning.{ascend_from, copy_off, flip_off, is_threshold, of_running, plan_off}
use Rattle.ov_catalog.specs.Raw.{event_in, numbers_in, place_in, raw_plan, shape_in, threshold_in, whole_in}
use Rattle.ov_catalog.specs.Testing.{commit_off, init_off, is_named, is_schema, name_off, off_unless, wide_off}
use Rattle.ov_catalog.specs.Wholes.{are_parts, are_placed, are_records, are_versions, is_plan, is_threshold_for, whole_off}
use Rattle.law_snapshots.proofs.Beginning.{init_whole}
use Rattle.law_snapshots.proofs.Committing.{commit_whole, wide_whole}
use Rattle.law_snapshots.proofs.Copied.{copy_whole}
use Rattle.law_snapshots.proofs.Flipped.{flip_whole}
use Rattle.law_snapshots.proofs.Followed.{any_named, names_more}
use Rattle.law_snapshots.proofs.Numbering.{AreAmong, among_both, among_more, below_more, below_up_to, new_more, up_to_below}
use Rattle.law_snapshots.proofs.PartTests.{ascend_last, ascend_lower}
use Rattle.law_snapshots.proofs.Planned.{plan_whole}
use Rattle.law_snapshots.proofs.Saying.{p_back, q_back}
use Rattle.law_snapshots.proofs.Tests.{all_push}
use Rattle.law_snapshots.specs.Whole.{AreNew, AreWhole, IsBeside, IsWhole, RunsAt, names_of, numbers_of, p_of, q_of}

abbrev Set : Type 0
Set = SetNumbers Extent Extent

-- ---- tests one after another

both_none : (a b : Option Field) → option_or a b ≡ None → (a ≡ None) × (b ≡ None)
both_none None b e = (refl, e)
both_none (Some f) b e = absurd cc

holds : (b : Bool) (f : Field) → off_unless b f ≡ None → b ≡ true
holds true f e = refl
holds false f e = absurd cc

not_so : (b : Bool) → not b ≡ true → b ≡ false
not_so false e = refl
not_so true e = absurd cc

-- ---- a change of one dataset, which keeps its number and its name

module _ (f : Set → Set) (number_kept : (d : Set) → (f d).number ≡ d.number) (name_kept : (d : Set) → (f d).name ≡ d.name) where
  numbers_changed : (cvd : ℕ) (sets : List Set) → numbers_of (change cvd f sets) ≡ numbers_of sets
  numbers_changed cvd [] = refl
  numbers_changed cvd (d ∷ sets) = by (numbered cvd d) (numbers_changed cvd sets)
    where
      by : (b : Bool) → numbers_of (change cvd f sets) ≡ numbers_of sets → numbers_of (if b then f d ∷ sets else d ∷ change cvd f sets) ≡ d.number ∷ numbers_of sets
      by true rest = ap (λ n. n ∷ numbers_of sets) (number_kept d)
      by false rest = ap (λ ns. d.number ∷ ns) rest

  names_changed : (cvd : ℕ) (sets : List Set) → names_of (change cvd f sets) ≡ names_of sets
  names_changed cvd [] = refl
  names_changed cvd (d ∷ sets) = by (numbered cvd d) (names_changed cvd sets)
    where
      by : (b : Bool) → names_of (change cvd f sets) ≡ names_of sets → names_of (if b then f d ∷ sets else d ∷ change cvd f sets) ≡ d.name ∷ names_of sets
      by true rest = ap (λ n. n ∷ names_of sets) (name_kept d)
      by false rest = ap (λ ns. d.name ∷ ns) rest

  length_changed : (cvd : ℕ) (sets : List Set) → length (change cvd f sets) ≡ length sets
  length_changed cvd [] = refl
  length_changed cvd (d ∷ sets) = by (numbered cvd d) (length_changed cvd sets)
    where
      by : (b : Bool) → length (change cvd f sets) ≡ length sets → length (if b then f d ∷ sets else d ∷ change cvd f sets) ≡ length (d ∷ sets)
      by true rest = refl
      by false rest = omega (arith, rest)

  module _ (test : Set → Option Field) (keeps : (d : Set) → IsWhole d → test d ≡ None → IsWhole (f d)) where
    each_changed : (cvd : ℕ) (sets : List Set) → AllByRecursion IsWhole sets → of_live test (find (numbered cvd) sets) ≡ None → AllByRecursion IsWhole (change cvd f sets)
    each_changed cvd [] all passes = tt
    each_changed cvd (d ∷ sets) all passes = by (numbered cvd d) passes (each_changed cvd sets all.1)
      where
        by : (b : Bool) → of_live test (cond b (Some d) (find (numbered cvd) sets)) ≡ None
            → (of_live test (find (numbered cvd) sets) ≡ None → AllByRecursion IsWhole (change cvd f sets))
            → AllByRecursion IsWhole (if b then f d ∷ sets else d ∷ change cvd f sets)
        by true passes rest = (keeps d all.0 passes, all.1)
        by false passes rest = (all.0, rest passes)

    changed_whole : (cvd : ℕ) (n : Numbers Extent Extent) → AreWhole n → of_live test (find (numbered cvd) n.sets) ≡ None → AreWhole (record { next = n.next; sets = change cvd f n.sets })
    changed_whole cvd n is passes =
        let few = is.few
        in let long = length_changed cvd n.sets
        in record {
          next = is.next;
          few = omega (arith, few, long);
          rise = subst (λ ns. ascend_from 1 ns ≡ true) (sym (numbers_changed cvd n.sets)) is.rise;
          below = subst (λ ns. list_all (λ number. nat_lt number n.next) ns ≡ true) (sym (numbers_changed cvd n.sets)) is.below;
          names = subst (λ ns. AreNew [] ns) (sym (names_changed cvd n.sets)) is.names;
          each = each_changed cvd n.sets is.each passes;
        }

flip_number : (d : Set) → (flipped d).number ≡ d.number
flip_number d = by d.plan
  where
    by : (plan : Option (PlanNumbers Extent)) → (flipped_by plan d).number ≡ d.number
    by None = refl
    by (Some plan) = refl

flip_name : (d : Set) → (flipped d).name ≡ d.name
flip_name d = by d.plan
  where
    by : (plan : Option (PlanNumbers Extent)) → (flipped_by plan d).name ≡ d.name
    by None = refl
    by (Some plan) = refl

-- ---- one dataset more

numbers_more : (sets : List Set) (d : Set) → numbers_of (sets ++ d ∷ []) ≡ numbers_of sets ++ d.number ∷ []
numbers_more [] d = refl
numbers_more (x ∷ sets) d = ap (λ ns. x.number ∷ ns) (numbers_more sets d)

each_more : (sets : List Set) (d : Set) → AllByRecursion IsWhole sets → IsWhole d → AllByRecursion IsWhole (sets ++ d ∷ [])
each_more [] d all is = (is, tt)
each_more (x ∷ sets) d all is = (all.0, each_more sets d all.1 is)

-- what a name's test says
record IsNewName (name : List ℕ) (sets : List Set) : Type 0 where
  named : is_name name ≡ true
  new : list_any (is_named name) sets ≡ false
  few : length sets < 1024

new_name : (name : List ℕ) (n : Numbers Extent Extent) → name_off name n ≡ None → IsNewName name n.sets
new_name name n passes =
    let all = holds (is_name name && (not (list_any (is_named name) n.sets) && nat_lt (length n.sets) 1024)) off.Name passes
    in let first = and_parts (is_name name) (not (list_any (is_named name) n.sets) && nat_lt (length n.sets) 1024) all
    in let rest = and_parts (not (list_any (is_named name) n.sets)) (nat_lt (length n.sets) 1024) first.1
    in record { named = first.0; new = not_so (list_any (is_named name) n.sets) rest.0; few = ltb-true (length n.sets) 1024 rest.1 }

set_more : (next : ℕ) (n : Numbers Extent Extent) (d : Set) → AreWhole n → IsWhole d → IsNewName d.name n.sets → 1 ≤ next → 1 ≤ d.number → d.number < next
    → list_all (λ number. nat_lt number d.number) (numbers_of n.sets) ≡ true → AreWhole (record { next = next; sets = n.sets ++ d ∷ [] })
set_more next n d is whole new some one less above =
    let few = new.few
    in let long = length-append n.sets (d ∷ [])
    in record {
      next = some;
      few = omega (arith, few, long);
      rise = subst (λ ns. ascend_from 1 ns ≡ true) (sym (numbers_more n.sets d)) (ascend_last 1 d.number (numbers_of n.sets) is.rise above one);
      below = subst (λ ns. list_all (λ number. nat_lt number next) ns ≡ true) (sym (numbers_more n.sets d))
          (all_push (λ number. nat_lt number next) (numbers_of n.sets) d.number (below_more d.number next less (numbers_of n.sets) above) (lt-ltb d.number next less));
      names = subst (λ ns. AreNew [] ns) (sym (names_more n.sets d)) (new_more [] (names_of n.sets) d.name is.names (sym (any_named d.name n.sets) ∙ new.new));
      each = each_more n.sets d is.each whole;
    }

-- ---- datasets that go

few_left : (p : Set → Bool) (sets : List Set) → length (filter p sets) ≤ length sets
few_left p [] = omega arith
few_left p (d ∷ sets) = by (p d) (few_left p sets)
  where
    by : (b : Bool) → length (filter p sets) ≤ length sets → length (cond b (d ∷ filter p sets) (filter p sets)) ≤ length (d ∷ sets)
    by true rest = omega (arith, rest)
    by false rest = omega (arith, rest)

each_left : (p : Set → Bool) (sets : List Set) → AllByRecursion IsWhole sets → AllByRecursion IsWhole (filter p sets)
each_left p [] all = tt
each_left p (d ∷ sets) all = by (p d) (each_left p sets all.1)
  where
    by : (b : Bool) → AllByRecursion IsWhole (filter p sets) → AllByRecursion IsWhole (cond b (d ∷ filter p sets) (filter p sets))
    by true rest = (all.0, rest)
    by false rest = rest

below_left : (q : ℕ → Bool) (p : Set → Bool) (sets : List Set) → list_all q (numbers_of sets) ≡ true → list_all q (numbers_of (filter p sets)) ≡ true
below_left q p [] all = refl
below_left q p (d ∷ sets) all =
    let both = and_parts (q d.number) (list_all q (numbers_of sets)) all
    in by (p d) both.0 (below_left q p sets both.1)
  where
    by : (b : Bool) → q d.number ≡ true → list_all q (numbers_of (filter p sets)) ≡ true → list_all q (numbers_of (cond b (d ∷ filter p sets) (filter p sets))) ≡ true
    by true own rest = and_from (q d.number) (list_all q (numbers_of (filter p sets))) own rest
    by false own rest = rest

rise_left : (least : ℕ) (p : Set → Bool) (sets : List Set) → ascend_from least (numbers_of sets) ≡ true → ascend_from least (numbers_of (filter p sets)) ≡ true
rise_left least p [] rise = refl
rise_left least p (d ∷ sets) rise =
    let both = and_parts (nat_le least d.number) (ascend_from (d.number + 1) (numbers_of sets)) rise
    in by (p d) both.0 (rise_left (d.number + 1) p sets both.1)
  where
    by : (b : Bool) → nat_le least d.number ≡ true → ascend_from (d.number + 1) (numbers_of (filter p sets)) ≡ true → ascend_from least (numbers_of (cond b (d ∷ filter p sets) (filter p sets))) ≡ true
    by true own rest = and_from (nat_le least d.number) (ascend_from (d.number + 1) (numbers_of (filter p sets))) own rest
    by false own rest = let up = leb-true least d.number own in ascend_lower least (d.number + 1) (numbers_of (filter p sets)) (omega (arith, up)) rest

names_left : (few many : List (List ℕ)) (p : Set → Bool) (sets : List Set) → AreAmong few many → AreNew many (names_of sets) → AreNew few (names_of (filter p sets))
names_left few many p [] among are = tt
names_left few many p (d ∷ sets) among are =
    by (p d) (names_left (few ++ d.name ∷ []) (many ++ d.name ∷ []) p sets (among_both few many d.name among) are.1)
    (names_left few (many ++ d.name ∷ []) p sets (among_more few many d.name among) are.1)
  where
    by : (b : Bool) → AreNew (few ++ d.name ∷ []) (names_of (filter p sets)) → AreNew few (names_of (filter p sets)) → AreNew few (names_of (cond b (d ∷ filter p sets) (filter p sets)))
    by true kept left = (among (λ other. bytes_eq other d.name) are.0, kept)
    by false kept left = left

sets_left : (p : Set → Bool) (n : Numbers Extent Extent) → AreWhole n → AreWhole (record { next = n.next; sets = filter p n.sets })
sets_left p n is =
    let few = is.few
    in let less = few_left p n.sets
    in record {
      next = is.next;
      few = omega (arith, few, less);
      rise = rise_left 1 p n.sets is.rise;
      below = below_left (λ number. nat_lt number n.next) p n.sets is.below;
      names = names_left [] [] p n.sets (λ q none. none) is.names;
      each = each_left p n.sets is.each;
    }

-- ---- a Whole

threshold_forth : (p q : ℕ) → threshold_in (p_of (threshold_in p q)) (q_of (threshold_in p q)) ≡ threshold_in p q
threshold_forth p q = λ i. threshold_in (p_back p q i) (q_back p q i)

-- a threshold in range isn't none
in_range : (p q : ℕ) → is_threshold p q ≡ true → threshold_in p q ≡ Some (p, q)
in_range p q is = by (p == 0) (q == 0) refl
  where
    some : 1 ≤ p
    some = leb-true 1 p (and_parts (nat_le 1 p) (nat_le p q && nat_le q 1000000) is).0

    by : (a b : Bool) → (p == 0) ≡ a → (let t : Option (ℕ × ℕ) = (if a && b then None else Some (p, q)) in t) ≡ Some (p, q)
    by true b e = let zero = eqb-true p 0 e in absurd (omega (arith, zero, some))
    by false b e = refl

runs_at : (p q : ℕ) (plan : Option RawPlan) → is_threshold_for p q (raw_plan p q plan) ≡ true → RunsAt (threshold_in p q) (raw_plan p q plan)
runs_at p q None is = tt
runs_at p q (Some plan) is = in_range p q (by (is_threshold p q) (p == 0 && q == 0) is)
  where
    by : (a b : Bool) → (a || (b && false)) ≡ true → a ≡ true
    by true b e = refl
    by false true e = absurd cc
    by false false e = absurd cc

said_whole_is : (said : raw_whole.Whole) (n : Numbers Extent Extent) → whole_off said (whole_in said) n ≡ None → IsWhole (whole_in said) × IsNewName said.name n.sets
said_whole_is said n passes =
    let d : Set = whole_in said
    in let a = both_none (name_off said.name n) _ passes
    in let b = both_none (off_unless (is_schema said.schema) off.Schema) _ a.1
    in let e = both_none (off_unless (are_versions d.versions) off.Parent) _ b.1
    in let f = both_none (off_unless (list_all (λ v. nat_le (length v.message) 1024) d.versions) off.Message) _ e.1
    in let g = both_none (off_unless (are_records d) off.Rows) _ f.1
    in let h = both_none (off_unless (are_parts d) off.Placing) _ g.1
    in let k = both_none (off_unless (is_threshold_for said.p said.q d.plan && is_plan d d.plan) off.Plan) (off_unless (are_placed d) off.Place) h.1
    in let plan = and_parts (is_threshold_for said.p said.q d.plan) (is_plan d d.plan) (holds (is_threshold_for said.p said.q d.plan && is_plan d d.plan) off.Plan k.0)
    in let new = new_name said.name n a.0
    in (
      record {
        named = new.named;
        schema = holds (is_schema said.schema) off.Schema b.0;
        versions = holds (are_versions d.versions) off.Parent e.0;
        messages = holds (list_all (λ v. nat_le (length v.message) 1024) d.versions) off.Message f.0;
        records = holds (are_records d) off.Rows g.0;
        parts = holds (are_parts d) off.Placing h.0;
        threshold = (λ i. is_threshold_for (p_back said.p said.q i) (q_back said.p said.q i) d.plan) ∙ plan.0;
        said = threshold_forth said.p said.q;
        runs = runs_at said.p said.q said.plan plan.0;
        plan = plan.1;
        placed = holds (are_placed d) off.Place k.1;
      },
      new,
    )

-- ---- each event

abbrev pub Carried : Stage → raw.Event → Numbers Extent Extent → Type 0
Carried stage e n = AreWhole (applied (event_in e) n) × IsBeside (stage_after e stage).reach (applied (event_in e) n)

init_carried : (stage : Stage) (name : List ℕ) (schema : RawSchema) (rows : ℕ) (list segment : Extent) (n : Numbers Extent Extent) → AreWhole n
    → init_off name schema rows list segment n ≡ None → Carried stage (says.Init name schema rows list segment) n
init_carried stage name schema rows list segment n is passes =
    let d : Set = new_set n.next name (shape_in schema) rows list (extents_of segment)
    in let second = both_none (off_unless (nat_lt n.next 4294967295) off.Number) _ passes
    in let third = both_none (name_off name n) _ second.1
    in (
      set_more (n.next + 1) n d is (init_whole name schema rows list segment n passes) (new_name name n third.0) (omega arith) is.next (omega arith) is.below,
      tt,
    )

number_there : (number next last : ℕ) → number_off number (InSnapshot next last) ≡ None → (last < number) × (number < next)
number_there number next last passes =
    let both = and_parts (nat_lt last number) (nat_lt number next) (holds (nat_lt last number && nat_lt number next) off.Number passes)
    in (ltb-true last number both.0, ltb-true number next both.1)

whole_carried : (format : ℕ) (reach : Reach) (said : raw_whole.Whole) (n : Numbers Extent Extent) → AreWhole n → IsBeside reach n
    → option_or (number_off said.number reach) (whole_off said (whole_in said) n) ≡ None → Carried (record { format = format; reach = reach }) (says.Whole said) n
whole_carried format AtStart said n is beside passes = absurd cc
whole_carried format Beyond said n is beside passes = absurd cc
whole_carried format (InSnapshot next last) said n is beside passes =
    let both = both_none (number_off said.number (InSnapshot next last)) (whole_off said (whole_in said) n) passes
    in let range = number_there said.number next last both.0
    in let whole = said_whole_is said n both.1
    in let above = up_to_below last said.number range.0 (numbers_of n.sets) beside.1
    in let base = beside.0
    in let less : said.number < n.next = omega (arith, range.1, base)
    in (
      set_more n.next n (whole_in said) is whole.0 whole.1 is.next (let low = range.0 in omega (arith, low)) less above,
      (
        base,
        subst (λ ns. list_all (λ number. nat_le number said.number) ns ≡ true) (sym (numbers_more n.sets (whole_in said)))
            (all_push (λ number. nat_le number said.number) (numbers_of n.sets) said.number (below_up_to said.number (numbers_of n.sets) above) (le-leb said.number said.number (omega arith))),
      ),
    )

base_carried : (format : ℕ) (reach : Reach) (next : ℕ) (n : Numbers Extent Extent) → base_off next reach ≡ None → Carried (record { format = format; reach = reach }) (says.Base next) n
base_carried format AtStart next n passes = (
  record { next = leb-true 1 next (holds (nat_le 1 next) off.Number passes); few = omega arith; rise = refl; below = refl; names = tt; each = tt },
  (refl, refl),
)
base_carried format (InSnapshot base last) next n passes = absurd cc
base_carried format Beyond next n passes = absurd cc

pub one_carried : (stage : Stage) (e : raw.Event) (n : Numbers Extent Extent) → AreWhole n → IsBeside stage.reach n → off_at stage e n ≡ None → Carried stage e n
one_carried stage (says.Init name schema rows list segment) n is beside passes = init_carried stage name schema rows list segment n is passes
one_carried stage (says.Commit cvd vid message parents rows fresh place added list segment) n is beside passes = (
  changed_whole (λ d. with_version (version_of parents message rows fresh list) (place_in place) added (extents_of segment) d) (λ d. refl) (λ d. refl)
      (commit_off vid message parents rows fresh (place_in place) added list segment)
      (λ d whole here. commit_whole vid message parents rows fresh (place_in place) added list segment d whole here)
      cvd n is passes,
  tt,
)
one_carried stage (says.Plan cvd p q targets) n is beside passes =
    (changed_whole (planned p q targets) (λ d. refl) (λ d. refl) (plan_off p q targets) (λ d whole here. plan_whole p q targets d whole here) cvd n is passes, tt)
one_carried stage (says.Copy cvd count segment) n is beside passes = (
  changed_whole (copied_more count (extents_of segment)) (λ d. refl) (λ d. refl) (λ d. of_running (copy_off count segment) d.plan)
      (λ d whole here. copy_whole count segment d whole here) cvd n is passes,
  tt,
)
one_carried stage (says.Flip cvd) n is beside passes =
    (changed_whole flipped flip_number flip_name (λ d. of_running flip_off d.plan) (λ d whole here. flip_whole d whole here) cvd n is passes, tt)
one_carried stage (says.Drop cvd) n is beside passes = (sets_left (λ d. not (numbered cvd d)) n is, tt)
one_carried stage (says.Base next) n is beside passes = base_carried stage.format stage.reach next n passes
one_carried stage (says.Whole said) n is beside passes = whole_carried stage.format stage.reach said n is beside passes
one_carried stage (says.Wide cvd vid message columns parents rows fresh place added list segment) n is beside passes = (
  changed_whole (λ d. with_version (version_of parents message rows fresh list) (place_in place) added (extents_of segment) (with_columns columns d)) (λ d. refl) (λ d. refl)
      (wide_off vid message columns parents rows fresh (place_in place) added list segment)
      (λ d whole here. wide_whole vid message columns parents rows fresh (place_in place) added list segment d whole here)
      cvd n is (both_none (format_off stage.format) _ passes).1,
  tt,
)

pub nothing_whole : AreWhole nothing_yet
nothing_whole = record { next = omega arith; few = omega arith; rise = refl; below = refl; names = tt; each = tt }

all_carried : (stage : Stage) (events : List raw.Event) (n : Numbers Extent Extent) → AreWhole n → IsBeside stage.reach n → AllFollow stage events n → AreWhole (replayed (map event_in events) n)
all_carried stage [] n is beside follow = is
all_carried stage (e ∷ events) n is beside follow =
    let one = one_carried stage e n is beside follow.0
    in all_carried (stage_after e stage) events (applied (event_in e) n) one.0 one.1 follow.1

pub all_whole : (format : ℕ) (events : List raw.Event) → AllFollow (start_of format) events nothing_yet → AreWhole (numbers_in events)
all_whole format events follow = all_carried (start_of format) events nothing_yet nothing_whole tt follow

one_of : (sets : List (SetNumbers Extent Extent)) (d : SetNumbers Extent Extent) → AllByRecursion IsWhole sets → IsIn sets d → IsWhole d
one_of [] d all is = absurd is
one_of (x ∷ sets) d all (inl same) = subst IsWhole (sym same) all.0
one_of (x ∷ sets) d all (inr later) = one_of sets d all.1 later

pub one_whole : (format : ℕ) (events : List raw.Event) (d : SetNumbers Extent Extent) → AllFollow (start_of format) events nothing_yet → IsIn (numbers_in events).sets d → IsWhole d
one_whole format events d follow is = one_of (numbers_in events).sets d (all_whole format events follow).each is
