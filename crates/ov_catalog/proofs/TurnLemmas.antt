-- A target's turn: it can become a partition, and the plan can run on.
use Rattle.std.proofs.Common.{◌≡◌, ℕ, suc, ◌+◌, ◌-◌, ◌<◌, ◌≤◌, ◌^◌, Bool, true, false, ◌||◌, eqb, List, [], ◌∷◌, ◌++◌, length, drop, map, refl, sym, ap, subst, ◌∙◌, inl, inr, arith, append-nil}
use Rattle.std.specs.Prelude.{Option, Some, None, filter, flat_map, nat_le, min, ◌==◌, ◌&&◌}
use Rattle.std.specs.Option.{option_or}
use Rattle.std.proofs.lemmas.Bool.{cases_Bool, eq-eqb, eqb-true, leb-true}
use Rattle.std.proofs.lemmas.List.{drop_more, length-drop}
use Rattle.std.proofs.lemmas.List.Folds.{list_any-append}
use Rattle.ov_host.specs.declared.area.Extent.{Extent}
use Rattle.ov_layout.specs.declared.part.Part.{Part}
use Rattle.ov_layout.specs.Changes.{IsAbove, IsNew}
use Rattle.ov_graph.specs.Versions.{IsGraph}
use Rattle.ov_catalog.specs.Events.{graph_of}
use Rattle.ov_catalog.specs.Sets.{part_in, plan_in, plan_numbers, set_in, target_in, version_in}
use Rattle.ov_layout.specs.Flips.{AreBelow, ArePlaced, Flip, MayFlip, chosen, flip_of, flipped_part, given_up, is_empty, leaving, left_parts, segments_at, with_flipped}
use Rattle.ov_layout.specs.Parts.{Ascend, Partitions, has, serves, is_placed, part_numbered, segments_in}
use Rattle.ov_layout.proofs.LeaveLemmas.{stays}
use Rattle.ov_catalog.specs.declared.cvd.Cvd.{Cvd}
use Rattle.ov_catalog.specs.declared.cvd.Plan.{Plan}
use Rattle.ov_catalog.specs.declared.cvd.Target.{Target}
use Rattle.ov_catalog.specs.Ready.{IsSet}
use Rattle.ov_catalog.specs.Running.{AreTargets, IsKept, IsNextOf, IsPlanned, IsRunning, IsTarget, current, is_in_target, left_of, no_target, targets_left}
use Rattle.ov_catalog.specs.declared.field.Field.{Field}
use Rattle.ov_catalog.specs.declared.field.Field.TheVariants as off
use Rattle.ov_catalog.specs.Applying.{off_unless}
use Rattle.ov_catalog.specs.Events as events
use Rattle.ov_catalog.specs.Extents.{emptied, given_by, parted_with}
use Rattle.ov_catalog.specs.Numbers.{PartNumbers, PlanNumbers, SetNumbers, TargetNumbers}
use Rattle.ov_catalog.specs.Planning.{copy_off, flip_off, missing}
use Rattle.ov_catalog.specs.Thresholds.{IsSaid}
use Rattle.ov_catalog.proofs.FlipLemmas.{chosen-in, given-in, left-in, push-in, segments-in}
use Rattle.ov_catalog.specs.Applying.{targets_from}
use Rattle.ov_catalog.specs.Steps.{current_steps, later_steps, plan_steps, steps_for}
use Rattle.ov_catalog.proofs.TargetLemmas.{current-in, from-in}
use Rattle.ov_catalog.proofs.RunLemmas.{above-all, left-new, left-none, left-placed, new-push, targets-after}

-- what is true of the current target
pub record Turn (count : ℕ) (parts : List Part) (plan : Plan) : Type 0 where
  pub target : IsTarget count (current plan)
  pub source : IsKept [] (current plan) (part_numbered (current plan).source parts)
  pub apart : (vid : ℕ) → has (current plan).versions vid ≡ true → is_in_target (drop (plan.at + 1) plan.targets) vid ≡ false
  pub rest : AreTargets count parts ((current plan).versions ++ []) (drop (plan.at + 1) plan.targets)

pub turn-of : (count : ℕ) (parts : List Part) (plan : Plan) → IsRunning count parts plan → Turn count parts plan
turn-of count parts plan h =
    let all : AreTargets count parts [] (current plan ∷ drop (plan.at + 1) plan.targets) = subst (λ (ts : List Target). AreTargets count parts [] ts) (drop_more plan.targets plan.at no_target h.at) h.targets in
    record {
      target = all.0;
      source = all.1;
      apart = all.2;
      rest = subst (λ (vs : List ℕ). AreTargets count parts vs (drop (plan.at + 1) plan.targets)) (sym (append-nil (current plan).versions)) all.3;
    }

-- ---- it may become a partition

are-placed : (parts : List Part) (versions : List ℕ) → ((vid : ℕ) → has versions vid ≡ true → is_placed parts vid ≡ true) → ArePlaced parts versions
are-placed parts [] h = tt
are-placed parts (v ∷ versions) h = (h v (rw (eq-eqb v v refl) refl), are-placed parts versions (λ vid there. h vid (rw there (or-true (eqb v vid)))))
  where
    or-true : (b : Bool) → (b || true) ≡ true
    or-true true = refl
    or-true false = refl

none-stay : (versions ns : List ℕ) → ((vid : ℕ) → has ns vid ≡ true → has versions vid ≡ true) → filter (stays versions) ns ≡ []
none-stay versions [] h = refl
none-stay versions (n ∷ ns) h =
    let gone : has versions n ≡ true = h n (rw (eq-eqb n n refl) refl) in
    rw gone (none-stay versions ns (λ vid there. h vid (rw there (or-true (eqb n vid)))))
  where
    or-true : (b : Bool) → (b || true) ≡ true
    or-true true = refl
    or-true false = refl

emptied-of : (t : Target) (o : Option Part) (part : Part) → IsKept [] t o → o ≡ Some part → is_empty (leaving t.versions part) ≡ true
emptied-of t None part h is = absurd cc
emptied-of t (Some own) part h is =
    let same : own ≡ part = cc in
    let none : filter (stays t.versions) own.versions ≡ [] = none-stay t.versions own.versions h.emptied in
    ap (λ (x : Part). is_empty (leaving t.versions x)) (sym same) ∙ ap (λ (ns : List ℕ). eqb (length ns) 0) none

within-of : (t : Target) (o : Option Part) → IsKept [] t o → AreBelow (length (segments_in o)) t.kept
within-of t None h = subst (λ (ks : List ℕ). AreBelow (length (segments_in None)) ks) (sym h.1) tt
within-of t (Some part) h = h.within

pub may-flip : (d : Cvd) (plan : Plan) (records : ℕ) (copied : List Extent) → IsSet d → Turn (length d.versions.items) d.layout.parts plan
    → MayFlip (flip_of (current plan).versions records (current plan).source (current plan).kept copied) d.layout.parts
may-flip d plan records copied is turn = record {
  ascend = turn.target.ascend;
  some = turn.target.some;
  placed = are-placed d.layout.parts (current plan).versions (λ vid there. let range = turn.target.there vid there in is.placed vid range.0 range.1);
  emptied = λ part found. emptied-of (current plan) (part_numbered (current plan).source d.layout.parts) part turn.source found;
  places = turn.target.kept;
  within = within-of (current plan) (part_numbered (current plan).source d.layout.parts) turn.source;
}

-- ---- the dataset after it

or-true : (b : Bool) → (b || true) ≡ true
or-true true = refl
or-true false = refl

pub flip-placed : (versions : List ℕ) (parts : List Part) (last : Part) (vid : ℕ) → last.versions ≡ versions → is_placed parts vid ≡ true → is_placed (left_parts versions parts ++ last ∷ []) vid ≡ true
flip-placed versions parts last vid own h =
    list_any-append (serves vid) (left_parts versions parts) (last ∷ [])
    ∙ elim (cases_Bool (has versions vid)) [
      | inl is ↦
          let here : has last.versions vid ≡ true = ap (λ (vs : List ℕ). has vs vid) own ∙ is in
          rw here (or-true (is_placed (left_parts versions parts) vid))
      | inr not_so ↦ rw (left-placed versions vid parts not_so h) refl
    ]

pub flip-none : (versions : List ℕ) (parts : List Part) (last : Part) (vid : ℕ) → last.versions ≡ versions → has versions vid ≡ false → is_placed parts vid ≡ false → is_placed (left_parts versions parts ++ last ∷ []) vid ≡ false
flip-none versions parts last vid own out h =
    let here : has last.versions vid ≡ false = ap (λ (vs : List ℕ). has vs vid) own ∙ out in
    list_any-append (serves vid) (left_parts versions parts) (last ∷ []) ∙ (rw (left-none versions vid parts h, here) refl)

-- that hangs on its targets and its place among them
pub next-same : (a b : Plan) (next : Option Plan) → a.targets ≡ b.targets → a.at ≡ b.at → IsNextOf a next → IsNextOf b next
next-same a b None targets at h =
    let long = ap (λ (ts : List Target). length ts) targets in
    omega (arith, long, at, h)
next-same a b (Some next) targets at h = record {
  targets_are = h.targets_are ∙ targets;
  at_is = h.at_is ∙ ap (λ (n : ℕ). n + 1) at;
  within = (let long = ap (λ (ts : List Target). length ts) targets in let lt = h.within in omega (arith, long, at, lt));
}

pub left-one-less : (plan : Plan) (next : Option Plan) → plan.at < length plan.targets → IsNextOf plan next → length (left_of next) + 1 ≤ length (targets_left plan)
left-one-less plan None lt h =
    let long = length-drop plan.at plan.targets in
    omega (arith, long, lt)
left-one-less plan (Some next) lt h =
    let long = length-drop plan.at plan.targets in
    let less = length-drop next.at next.targets in
    let same = ap (λ (ts : List Target). length ts) h.targets_are in
    let at = h.at_is in
    omega (arith, long, less, same, at, lt)

pub runs-on : (count : ℕ) (parts : List Part) (last : Part) (plan : Plan) (next : Option Plan) → Turn count parts plan → IsRunning count parts plan → IsNextOf plan next
    → part_numbered 0 (left_parts (current plan).versions parts ++ last ∷ []) ≡ None → IsPlanned count (left_parts (current plan).versions parts ++ last ∷ []) next
runs-on count parts last plan None turn h is zero_none = tt
runs-on count parts last plan (Some next) turn h is zero_none =
    let same = ap (λ (ts : List Target). length ts) is.targets_are in
    let at = is.at_is in
    let within = is.within in
    let few = h.few in
    let left : targets_left next ≡ drop (plan.at + 1) plan.targets = (λ i. drop (is.at_is i) (is.targets_are i)) in
    record {
      at = omega (arith, same, at, within);
      few = omega (arith, same, few);
      targets = subst (λ (ts : List Target). AreTargets count (left_parts (current plan).versions parts ++ last ∷ []) [] ts) (sym left)
          (targets-after (current plan).versions parts last zero_none count [] (drop (plan.at + 1) plan.targets) turn.apart turn.rest);
    }

pub flip-set : (d new : Cvd) (plan : Plan) (last : Part) → IsSet d → IsRunning (length d.versions.items) d.layout.parts plan → left_of d.plan ≡ targets_left plan → new.versions ≡ d.versions → new.records ≡ d.records
    → last.versions ≡ (current plan).versions → last.holds ≡ (current plan).versions → new.layout.parts ≡ left_parts (current plan).versions d.layout.parts ++ last ∷ [] → new.layout.next ≡ d.layout.next + 1
    → IsNextOf plan new.plan → part_numbered 0 new.layout.parts ≡ None → IsSaid new.threshold (plan_in new.plan) → IsSet new
flip-set d new plan last is runs left same records versions holds parts next after zero_none said =
    let turn = turn-of (length d.versions.items) d.layout.parts plan runs in
    let long : length new.versions.items ≡ length d.versions.items = ap (λ vs. length vs.items) same in
    let little = left-one-less plan new.plan runs.at after in
    let was = is.next in
    let all = ap (λ (ts : List Target). length ts) left in
    let zero_left : part_numbered 0 (left_parts (current plan).versions d.layout.parts ++ last ∷ []) ≡ None = subst (λ (ps : List Part). part_numbered 0 ps ≡ None) parts zero_none in
    let above = above-all (length d.versions.items + 1) (current plan).versions (λ vid there. let range = turn.target.there vid there in let le = range.1 in omega (arith, le)) in
    record {
      some = (let some = is.some in omega (arith, some, long));
      few = (let few = is.few in omega (arith, few, long));
      graph = subst (λ vs. IsGraph (graph_of (map version_in vs.items))) (sym same) is.graph;
      new = subst (λ (n : ℕ). IsNew (n + 1) new.layout.parts) (sym long)
          (subst (IsNew (length d.versions.items + 1)) (sym parts)
          (new-push (length d.versions.items + 1) (left_parts (current plan).versions d.layout.parts) last (left-new (length d.versions.items + 1) (current plan).versions d.layout.parts is.new) (subst (IsAbove (length d.versions.items + 1)) (sym holds) above)));
      placed = λ vid one le. subst (λ (ps : List Part). is_placed ps vid ≡ true) (sym parts) (flip-placed (current plan).versions d.layout.parts last vid versions (is.placed vid one (omega (arith, le, long))));
      none_other = subst (λ (ps : List Part). is_placed ps 0 ≡ false) (sym parts) (flip-none (current plan).versions d.layout.parts last 0 versions (no-zero (current plan).versions (λ vid there. (turn.target.there vid there).0)) is.none_other);
      records = (let few = is.records in omega (arith, few, records));
      next = omega (arith, next, little, was, all, long);
      plan = subst (λ (n : ℕ). IsPlanned n new.layout.parts new.plan) (sym long)
          (subst (λ (ps : List Part). IsPlanned (length d.versions.items) ps new.plan) (sym parts) (runs-on (length d.versions.items) d.layout.parts last plan new.plan turn runs after zero_left));
      threshold = said;
    }
  where
    no-zero : (versions : List ℕ) → ((vid : ℕ) → has versions vid ≡ true → 1 ≤ vid) → has versions 0 ≡ false
    no-zero versions h =
        elim (cases_Bool (has versions 0)) [
          | inl is ↦ let one = h 0 is in absurd (omega (arith, one))
          | inr not_so ↦ not_so
        ]

-- ---- its numbers

ascend-few : (least count : ℕ) (ns : List ℕ) → Ascend least ns → ((vid : ℕ) → has ns vid ≡ true → vid ≤ count) → length ns ≤ count + 1 - least
ascend-few least count [] h there = omega arith
ascend-few least count (n ∷ ns) h there =
    let rest = ascend-few (suc n) count ns h.1 (λ vid is. there vid (rw is (or-true (eqb n vid)))) in
    let le = h.0 in
    let most = there n (rw (eq-eqb n n refl) refl) in
    omega (arith, rest, le, most)

pub turn-few : (count : ℕ) (parts : List Part) (plan : Plan) → Turn count parts plan → length (current plan).versions ≤ count + 1
turn-few count parts plan turn =
    let few = ascend-few 0 count (current plan).versions turn.target.ascend (λ vid is. (turn.target.there vid is).1) in
    omega (arith, few)

off-is : (b : Bool) (f : Field) → off_unless b f ≡ None → b ≡ true
off-is true f h = refl
off-is false f h = absurd cc

pub seen-current : (plan : Plan) → plan.at < length plan.targets → events.current (plan_numbers plan) ≡ target_in (current plan)
seen-current plan lt = current-in plan.targets plan.at events.no_target no_target lt

-- what is held when it is flipped
pub flip-fits : (count : ℕ) (parts : List Part) (plan : Plan) → IsRunning count parts plan → flip_off (plan_numbers plan) ≡ None → (current plan).kept_records + plan.copied < 2 ^ 32
flip-fits count parts plan runs h =
    let seen = seen-current plan runs.at in
    let test : flip_off (plan_numbers plan) ≡ off_unless ((current plan).kept_records + plan.copied == (current plan).size) off.Count = ap (λ (t : TargetNumbers). off_unless (t.kept_records + plan.copied == t.size) off.Count) seen in
    let full = eqb-true _ _ (off-is ((current plan).kept_records + plan.copied == (current plan).size) off.Count (sym test ∙ h)) in
    let few = (turn-of count parts plan runs).target.few in
    omega (arith, full, few)

-- and when records come to it
pub copy-fits : (count : ℕ) (parts : List Part) (plan : Plan) (more : ℕ) (segment : Extent) → IsRunning count parts plan → copy_off more segment (plan_numbers plan) ≡ None → plan.copied + more < 2 ^ 32
copy-fits count parts plan more segment runs h =
    let seen = seen-current plan runs.at in
    let size = ap (λ (t : TargetNumbers). t.size) seen in
    let kept = ap (λ (t : TargetNumbers). t.kept_records) seen in
    let tests = off-first (nat_le 1 more && more == min 256 (missing (plan_numbers plan))) off.Count _ h in
    let both = and-both (nat_le 1 more) (more == min 256 (missing (plan_numbers plan))) tests in
    let one = leb-true 1 more both.0 in
    let is = eqb-true more _ both.1 in
    let few = (turn-of count parts plan runs).target.few in
    omega (arith, size, kept, one, is, few)
  where
    off-first : (b : Bool) (f : Field) (rest : Option Field) → option_or (off_unless b f) rest ≡ None → b ≡ true
    off-first true f rest h = refl
    off-first false f rest h = absurd cc

    and-both : (a b : Bool) → (a && b) ≡ true → (a ≡ true) × (b ≡ true)
    and-both true b h = (refl, h)
    and-both false b h = absurd cc

-- ---- what it makes of the dataset

abbrev pub flip_by : Plan → Flip
flip_by plan = flip_of (current plan).versions ((current plan).kept_records + plan.copied) (current plan).source (current plan).kept plan.segments.items

abbrev parts_by : TargetNumbers → ℕ → ℕ → List Extent → List (PartNumbers Extent) → List (PartNumbers Extent)
parts_by t next copied segments parts =
    events.left_parts t.versions parts
    ++ record { id = next; versions = t.versions; holds = t.versions; records = t.kept_records + copied; segments = events.chosen t.kept (events.segments_at t.source parts) ++ segments } ∷ []

parts-flipped : (parts : List Part) (next : ℕ) (plan : Plan) → AreBelow (length (segments_at (current plan).source parts)) (current plan).kept
    → map part_in (left_parts (current plan).versions parts ++ flipped_part next (flip_by plan) parts ∷ []) ≡ parts_by (target_in (current plan)) next plan.copied plan.segments.items (map part_in parts)
parts-flipped parts next plan within =
    let t = current plan in
    let kept : chosen t.kept (segments_at t.source parts) ≡ events.chosen t.kept (events.segments_at t.source (map part_in parts)) =
    chosen-in t.kept (segments_at t.source parts) within ∙ ap (λ (es : List Extent). events.chosen t.kept es) (segments-in t.source parts) in
    push-in (left_parts t.versions parts) (flipped_part next (flip_by plan) parts)
    ∙ (λ i. left-in t.versions parts i ++ record { id = next; versions = t.versions; holds = t.versions; records = t.kept_records + plan.copied; segments = kept i ++ plan.segments.items } ∷ [])

pub set-flipped : (d : Cvd) (layout : Partitions) (next : Option Plan) (plan : Plan) → d.plan ≡ Some plan → IsRunning (length d.versions.items) d.layout.parts plan → layout ≡ with_flipped (flip_by plan) d.layout
    → plan_in next ≡ events.next_target (plan_numbers plan) → set_in (record d { layout = layout; plan = next }) ≡ events.flipped (set_in d)
set-flipped d layout next plan is runs after more =
    let turn = turn-of (length d.versions.items) d.layout.parts plan runs in
    let within = within-of (current plan) (part_numbered (current plan).source d.layout.parts) turn.source in
    let parts : map part_in layout.parts ≡ parts_by (events.current (plan_numbers plan)) d.layout.next plan.copied plan.segments.items (map part_in d.layout.parts) =
    ap (λ (l : Partitions). map part_in l.parts) after ∙ parts-flipped d.layout.parts d.layout.next plan within
    ∙ ap (λ (t : TargetNumbers). parts_by t d.layout.next plan.copied plan.segments.items (map part_in d.layout.parts)) (sym (seen-current plan runs.at)) in
    let number : layout.next ≡ d.layout.next + 1 = ap (λ (l : Partitions). l.next) after in
    let step : set_in (record d { layout = layout; plan = next }) ≡ events.flipped_by (Some (plan_numbers plan)) (set_in d) = λ i. record {
      number = d.number;
      name = d.name;
      schema = d.schema;
      versions = map version_in d.versions.items;
      parts = parts i;
      next_part = number i;
      threshold = d.threshold;
      plan = more i;
      records = d.records;
    } in
    step ∙ ap (λ (o : Option Plan). events.flipped_by (plan_in o) (set_in d)) (sym is)

pub given-is : (d : Cvd) (plan : Plan) → d.plan ≡ Some plan → plan.at < length plan.targets → given_up (flip_by plan) d.layout.parts ≡ given_by (plan_in d.plan) (map part_in d.layout.parts)
given-is d plan is lt =
    given-in (flip_by plan) (target_in (current plan)) d.layout.parts refl refl refl
    ∙ ap (λ (t : TargetNumbers). flat_map (parted_with t) (emptied t (map part_in d.layout.parts))) (sym (seen-current plan lt))
    ∙ ap (λ (o : Option Plan). given_by (plan_in o) (map part_in d.layout.parts)) (sym is)

pub flipped-number : (d : SetNumbers Extent Extent) → (events.flipped d).number ≡ d.number
flipped-number d = by d.plan
  where
    by : (plan : Option (PlanNumbers Extent)) → (events.flipped_by plan d).number ≡ d.number
    by None = refl
    by (Some plan) = refl

-- ---- its steps

pub plan-steps-are : (plan : Plan) (a b : ℕ) → plan.at < length plan.targets → a ≡ steps_for (missing (plan_numbers plan)) → b ≡ later_steps (map target_in (drop (plan.at + 1) plan.targets)) → a + b ≡ plan_steps (plan_in (Some plan))
plan-steps-are plan a b lt first rest =
    let left : targets_from plan.at (map target_in plan.targets) ≡ target_in (current plan) ∷ map target_in (drop (plan.at + 1) plan.targets) =
    from-in plan.at plan.targets ∙ ap (λ (ts : List Target). map target_in ts) (drop_more plan.targets plan.at no_target lt) in
    let own : missing (plan_numbers plan) ≡ (current plan).size - ((current plan).kept_records + plan.copied) = ap (λ (t : TargetNumbers). t.size - (t.kept_records + plan.copied)) (seen-current plan lt) in
    (λ i. (first ∙ ap steps_for own) i + rest i) ∙ sym (ap (λ (ts : List TargetNumbers). current_steps plan.copied ts) left)
