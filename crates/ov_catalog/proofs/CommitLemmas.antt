-- What is true where a commit's event applies.
use Rattle.std.proofs.Common.{◌≡◌, ℕ, zero, suc, ◌+◌, ◌-◌, ◌^◌, ◌<◌, ◌≤◌, Bool, true, false, ◌&&◌, ◌||◌, List, [], ◌∷◌, length, get_or, map, refl, sym, ap, subst, ◌∙◌, inl, inr, arith}
use Rattle.std.specs.Prelude.{Option, Some, None, nat_lt, nat_le, if◌then◌else◌}
use Rattle.std.specs.List.{list_all}
use Rattle.std.specs.Option.{option_or}
use Rattle.std.proofs.lemmas.Bool.{cases_Bool, cases_lt, eqb-true, leb-true, ltb-true, le-leb}
use Rattle.std.proofs.lemmas.List.{length-map}
use Rattle.ov_graph.specs.Versions.{heaviest}
use Rattle.ov_layout.specs.declared.part.Part.{Part}
use Rattle.ov_layout.specs.Parts.{has, Ascend, is_number, is_placed, part_numbered, records_at}
use Rattle.ov_layout.specs.Changes.{IsNew, IsThere}
use Rattle.ov_place.specs.Placement.{placed, is_budgeted}
use Rattle.ov_place.specs.declared.place_facts.Place.{Place}
use Rattle.ov_place.specs.declared.place_facts.Place.TheVariants.{Own, Join}
use Rattle.ov_model.specs.Moves.{next_with}
use Rattle.ov_catalog.specs.declared.arrival.Arrival.{Arrival}
use Rattle.ov_catalog.specs.declared.cvd.Cvd.{Cvd}
use Rattle.ov_catalog.specs.declared.cvd.Version.{Version}
use Rattle.ov_catalog.specs.declared.field.Field.{Field}
use Rattle.ov_catalog.specs.declared.field.Field.TheVariants as off
use Rattle.ov_catalog.specs.Applying.{off_unless, are_parents, is_parent, facts_of, is_place, is_count, is_list, is_segment, part_numbered as number_in, records_in, part_serving, id_in, is_unmoved, stored}
use Rattle.ov_catalog.specs.Arriving.{arrival_off, part_asked, FitsRecords, IsOther}
use Rattle.ov_host.specs.declared.area.Extent.{Extent}
use Rattle.ov_catalog.specs.Numbers.{VersionNumbers}
use Rattle.ov_catalog.specs.Raw.{place_in}
use Rattle.ov_catalog.specs.Ready.{IsSet}
use Rattle.ov_catalog.specs.Sets.{set_in, version_in, part_in, plan_in}
use Rattle.ov_graph.specs.Versions.{IsGraph}
use Rattle.ov_catalog.specs.declared.cvd.Plan.{Plan}
use Rattle.ov_catalog.specs.Events.{graph_of}
use Rattle.ov_catalog.specs.Running.{IsPlanned, is_in_target, left_of, targets_left}
use Rattle.ov_catalog.specs.Thresholds.{IsSaid}
use Rattle.ov_catalog.proofs.PartLemmas.{numbered-records, serving-has, serving-there}
use Rattle.ov_catalog.proofs.RunLemmas.{targets-now}
use Rattle.ov_catalog.proofs.TargetLemmas.{unmoved-in}
use Rattle.ov_layout.specs.Index.{numbers_of}

pub and-both : (a b : Bool) → (a && b) ≡ true → (a ≡ true) × (b ≡ true)
and-both true b h = (refl, h)
and-both false b h = absurd cc

pub off-none : (b : Bool) (f : Field) (rest : Option Field) → option_or (off_unless b f) rest ≡ None → (b ≡ true) × (rest ≡ None)
off-none true f rest h = (refl, h)
off-none false f rest h = absurd cc

pub off-true : (b : Bool) (f : Field) → off_unless b f ≡ None → b ≡ true
off-true true f h = refl
off-true false f h = absurd cc

pub record Facts (d : Cvd) (parents : List (ℕ × ℕ)) (new : Arrival) : Type 0 where
  pub vid : new.vid ≡ length d.versions.items + 1
  pub few : new.vid ≤ 65535
  pub parents_are : are_parents (map version_in d.versions.items) new.rows parents ≡ true
  pub records : d.records + new.fresh ≤ 2 ^ 31
  pub place : is_place (place_in new.place) (placed (facts_of (set_in d) (heaviest parents))) ≡ true
  pub count : is_count (set_in d) new.rows new.fresh new.added (place_in new.place) ≡ true

pub facts-of : (d : Cvd) (message : List ℕ) (parents : List (ℕ × ℕ)) (new : Arrival) → arrival_off message parents new (set_in d) ≡ None → Facts d parents new
facts-of d message parents new h =
    let vid = off-none _ _ _ h in
    let text = off-none _ _ _ vid.1 in
    let named = off-none _ _ _ text.1 in
    let all = d.records + new.fresh in
    let rows = off-none (nat_le new.rows 1000000 && (nat_le new.fresh new.rows && (nat_le new.rows all && nat_le all (2 ^ 31)))) off.Rows _ named.1 in
    let place = off-none (is_place (place_in new.place) (placed (facts_of (set_in d) (heaviest parents)))) off.Placing _ rows.1 in
    let count = off-none (is_count (set_in d) new.rows new.fresh new.added (place_in new.place)) off.Count (off_unless (is_list new.rows new.list && is_segment new.added new.segment) off.Place) place.1 in
    let own = and-both _ _ vid.0 in
    let sums = and-both (nat_le new.rows all) (nat_le all (2 ^ 31)) (and-both (nat_le new.fresh new.rows) _ (and-both (nat_le new.rows 1000000) _ rows.0).1).1 in
    record {
      vid = eqb-true _ _ own.0 ∙ ap (λ (n : ℕ). n + 1) (length-map d.versions.items version_in);
      few = leb-true _ _ own.1;
      parents_are = named.0;
      records = leb-true _ _ sums.1;
      place = place.0;
      count = count.0;
    }

-- the heaviest parent is one of them
pub heaviest-passes : (test : ℕ × ℕ → Bool) (edges : List (ℕ × ℕ)) → 1 ≤ length edges → list_all test edges ≡ true → test (heaviest edges) ≡ true
heaviest-passes test [] some h = absurd (omega arith)
heaviest-passes test (e ∷ []) some h =
    elim (cases_Bool (nat_lt e.1 0)) [
      | inl lt ↦ let no = ltb-true e.1 0 lt in absurd (omega arith)
      | inr ge ↦ rw ge (and-both (test e) (list_all test []) h).0
    ]
heaviest-passes test (e ∷ (f ∷ es)) some h =
    let both = and-both (test e) (list_all test (f ∷ es)) h in
    elim (cases_Bool (nat_lt e.1 (heaviest (f ∷ es)).1)) [
      | inl lt ↦ rw lt (heaviest-passes test (f ∷ es) (omega arith) both.1)
      | inr ge ↦ rw ge both.0
    ]

there-by : (parts : List Part) (p : Place) (b : Bool) (parent : ℕ) → is_place p (if b then Own else Join parent) ≡ true → is_number parts parent ≡ true → IsThere (part_asked p) parts
there-by parts Own b parent h n = tt
there-by parts (Join id) true parent h n = absurd cc
there-by parts (Join id) false parent h n =
    let e : id ≡ parent = eqb-true id parent h in
    subst (λ (i : ℕ). is_number parts i ≡ true) (sym e) n

pub parent-placed : (d : Cvd) (parents : List (ℕ × ℕ)) (new : Arrival) → Facts d parents new → (1 ≤ (heaviest parents).0) × ((heaviest parents).0 ≤ length d.versions.items)
parent-placed d parents new fact =
    let some = and-both _ _ fact.parents_are in
    let all = and-both _ _ some.1 in
    let one = heaviest-passes (is_parent (map version_in d.versions.items) new.rows) parents (leb-true _ _ some.0) all.0 in
    let within = and-both _ _ (and-both _ _ one).0 in
    (leb-true _ _ within.0, rw (length-map d.versions.items version_in) at (leb-true _ _ within.1))

pub there : (d : Cvd) (parents : List (ℕ × ℕ)) (new : Arrival) → IsSet d → Facts d parents new → IsThere (part_asked (place_in new.place)) d.layout.parts
there d parents new is fact =
    let facts = facts_of (set_in d) (heaviest parents) in
    let range = parent-placed d parents new fact in
    let served = is.placed (heaviest parents).0 range.0 range.1 in
    there-by d.layout.parts (place_in new.place) (facts.unmoved || is_budgeted facts.threshold facts.weight facts.records facts.stored) facts.parent fact.place (serving-there (heaviest parents).0 d.layout.parts served)

fits-by : (d : Cvd) (rows fresh added : ℕ) (p : Place) → is_count (set_in d) rows fresh added p ≡ true → d.records + fresh ≤ 2 ^ 31 → FitsRecords p added d.layout.parts
fits-by d rows fresh added Own h few = tt
fits-by d rows fresh added (Join id) h few =
    let held = records_in (number_in (map part_in d.layout.parts) id) in
    let sum : held + added ≤ d.records + fresh = leb-true _ _ (and-both (nat_le fresh added && nat_le added rows) (nat_le (held + added) (d.records + fresh)) h).1 in
    let same = numbered-records id d.layout.parts in
    omega (arith, sum, same, few)

pub fits : (d : Cvd) (parents : List (ℕ × ℕ)) (new : Arrival) → Facts d parents new → FitsRecords (place_in new.place) new.added d.layout.parts
fits d parents new fact = fits-by d new.rows new.fresh new.added (place_in new.place) fact.count fact.records

pub rows-in : (versions : List Version) (k : ℕ) (d : Version) → k < length versions → get_or (map (λ (v : VersionNumbers Extent). v.rows) (map version_in versions)) k 0 ≡ (get_or versions k d).rows
rows-in [] k d lt = absurd (omega arith)
rows-in (v ∷ versions) zero d lt = refl
rows-in (v ∷ versions) (suc k) d lt = rows-in versions k d (omega arith)

one-more : (n : ℕ) → (n ≡ 0 → ⊥) → 1 ≤ n
one-more zero some = absurd (some refl)
one-more (suc n) some = omega arith

pub parent-is : (versions : List Version) (rows : ℕ) (edge : ℕ × ℕ) (d : Version) → (edge.0 ≡ 0 → ⊥) → edge.0 ≤ length versions → edge.1 ≤ rows → nat_le edge.1 (get_or versions (edge.0 - 1) d).rows ≡ is_parent (map version_in versions) rows edge
parent-is versions rows edge d some within few =
    let size = length-map versions version_in in
    let from : nat_le 1 edge.0 ≡ true = le-leb 1 edge.0 (one-more edge.0 some) in
    let there : nat_le edge.0 (length (map version_in versions)) ≡ true = le-leb edge.0 (length (map version_in versions)) (omega (arith, size, within)) in
    let short : nat_le edge.1 rows ≡ true = le-leb edge.1 rows few in
    let own = rows-in versions (edge.0 - 1) d (let one = one-more edge.0 some in omega (arith, one, within)) in
    rw (from, there, short, own) refl

pub facts-are : (d : Cvd) (edge pair : ℕ × ℕ) (unmoved : Bool) (records stores parent : ℕ) → unmoved ≡ is_unmoved (plan_in d.plan) pair.0 → pair ≡ edge → records ≡ d.records → stores ≡ stored (set_in d)
    → parent ≡ id_in (part_serving (map part_in d.layout.parts) pair.0)
    → record { threshold = d.threshold; unmoved = unmoved; weight = pair.1; records = records; stored = stores; parent = parent } ≡ facts_of (set_in d) edge
facts-are d edge pair unmoved records stores parent moves same r s p =
    let stays : unmoved ≡ is_unmoved (plan_in d.plan) edge.0 = moves ∙ ap (λ (e : ℕ × ℕ). is_unmoved (plan_in d.plan) e.0) same in
    let part : parent ≡ id_in (part_serving (map part_in d.layout.parts) edge.0) = p ∙ ap (λ (e : ℕ × ℕ). id_in (part_serving (map part_in d.layout.parts) e.0)) same in
    let weight : pair.1 ≡ edge.1 = ap (λ (e : ℕ × ℕ). e.1) same in
    λ i. record { threshold = d.threshold; unmoved = stays i; weight = weight i; records = r i; stored = s i; parent = part i }

-- ---- a version that comes while a plan runs

other-by : (p : Place) (b : Bool) (parent id : ℕ) → is_place p (if b then Own else Join parent) ≡ true → (b ≡ false → parent ≡ id → ⊥) → IsOther p id
other-by Own b parent id h apart = tt
other-by (Join other) true parent id h apart = absurd cc
other-by (Join other) false parent id h apart = λ same. apart refl (sym (eqb-true other parent h) ∙ same)

or-first : (a b : Bool) → (a || b) ≡ false → a ≡ false
or-first true b h = absurd cc
or-first false b h = refl

-- it joins no partition all of whose versions are in targets that weren't flipped yet
pub joins-other : (d : Cvd) (parents : List (ℕ × ℕ)) (new : Arrival) → IsSet d → Facts d parents new → Ascend 1 (numbers_of d.layout.parts) → (id : ℕ) (part : Part)
    → part_numbered id d.layout.parts ≡ Some part → ((vid : ℕ) → has part.versions vid ≡ true → is_in_target (left_of d.plan) vid ≡ true) → IsOther (place_in new.place) id
joins-other d parents new is fact ascend id part found inside =
    let facts = facts_of (set_in d) (heaviest parents) in
    let range = parent-placed d parents new fact in
    let vid = (heaviest parents).0 in
    let served = is.placed vid range.0 range.1 in
    other-by (place_in new.place) (facts.unmoved || is_budgeted facts.threshold facts.weight facts.records facts.stored) facts.parent id fact.place
    (λ stays same.
    let out : is_in_target (left_of d.plan) vid ≡ false = sym (unmoved-in d.plan vid) ∙ or-first facts.unmoved _ stays in
    let own = serving-has 1 vid d.layout.parts part ascend served (ap (λ (n : ℕ). part_numbered n d.layout.parts) same ∙ found) in
    let there = inside vid own in
    absurd cc)

-- so the plan can still run
pub planned-on : (d : Cvd) (parents : List (ℕ × ℕ)) (new : Arrival) (plan : Option Plan) (parts : List Part) → plan ≡ d.plan → IsSet d → Facts d parents new → Ascend 1 (numbers_of d.layout.parts)
    → ((id : ℕ) (part : Part) → IsOther (place_in new.place) id → part_numbered id d.layout.parts ≡ Some part → part_numbered id parts ≡ Some part) → part_numbered 0 parts ≡ None
    → IsPlanned (length d.versions.items) d.layout.parts plan → IsPlanned (length d.versions.items + 1) parts plan
planned-on d parents new None parts same is fact ascend stay zero_none h = tt
planned-on d parents new (Some plan) parts same is fact ascend stay zero_none h = record {
  at = h.at;
  few = h.few;
  targets = targets-now (is_in_target (targets_left plan)) (length d.versions.items) (length d.versions.items + 1) d.layout.parts parts (omega arith) zero_none
      (λ id part found inside. stay id part (joins-other d parents new is fact ascend id part found (λ vid there. ap (λ (p : Option Plan). is_in_target (left_of p) vid) (sym same) ∙ inside vid there)) found)
      [] (targets_left plan) (λ vid there. absurd cc) (λ vid there. there) h.targets;
}

pub count-join : (d : Cvd) (rows fresh added id held : ℕ) → held ≡ records_at id d.layout.parts
    → ((nat_le fresh added && nat_le added rows) && nat_le (held + added) (d.records + fresh)) ≡ is_count (set_in d) rows fresh added (Join id)
count-join d rows fresh added id held h =
    let same : held ≡ records_in (number_in (map part_in d.layout.parts) id) = h ∙ sym (numbered-records id d.layout.parts) in
    ap (λ (n : ℕ). (nat_le fresh added && nat_le added rows) && nat_le (n + added) (d.records + fresh)) same

next-little : (p : Place) (n : ℕ) → next_with p n ≤ n + 1
next-little Own n = omega arith
next-little (Join id) n = omega arith

-- a dataset with one version more
pub set-more : (d new : Cvd) (vid : ℕ) (p : Place) → IsSet d → vid ≡ length d.versions.items + 1 → vid ≤ 65535 → length new.versions.items ≡ length d.versions.items + 1
    → IsNew (vid + 1) new.layout.parts → ((v : ℕ) → is_placed d.layout.parts v ≡ true → is_placed new.layout.parts v ≡ true) → is_placed new.layout.parts vid ≡ true
    → new.layout.next ≡ next_with p d.layout.next → new.plan ≡ d.plan → new.threshold ≡ d.threshold → IsGraph (graph_of (map version_in new.versions.items)) → is_placed new.layout.parts 0 ≡ false
    → IsPlanned (length d.versions.items + 1) new.layout.parts new.plan → new.records < 2 ^ 32 → IsSet new
set-more d new vid p is own few size above stay there next same at graph none planned records =
    let one : vid ≡ length new.versions.items = own ∙ sym size in
    let little = next-little p d.layout.next in
    let was = is.next in
    let left : length (left_of new.plan) ≡ length (left_of d.plan) = ap (λ (plan : Option Plan). length (left_of plan)) same in
    record {
      some = omega (arith, size);
      few = omega (arith, one, few);
      graph = graph;
      new = subst (λ (n : ℕ). IsNew (n + 1) new.layout.parts) one above;
      placed = λ v some within. elim (cases_lt v vid) [
        | inl lt ↦ stay v (is.placed v some (omega (arith, lt, own)))
        | inr ge ↦
            let last : vid ≡ v = omega (arith, ge, within, one) in
            subst (λ (n : ℕ). is_placed new.layout.parts n ≡ true) last there
      ];
      none_other = none;
      records = records;
      next = omega (arith, next, little, was, size, left);
      plan = subst (λ (n : ℕ). IsPlanned n new.layout.parts new.plan) (sym size) planned;
      threshold = subst (λ (t : Option (ℕ × ℕ)). IsSaid t (plan_in new.plan)) (sym at) (subst (λ (plan : Option Plan). IsSaid d.threshold (plan_in plan)) (sym same) is.threshold);
    }
