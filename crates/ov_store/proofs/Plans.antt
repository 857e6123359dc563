-- A plan that begins, by what the World refuses.
use Rattle.std.proofs.Common.{◌≡◌, ◌≤◌, ◌<◌, ◌&&◌, ℕ, Bool, true, false, List, [], ◌∷◌, refl, sym, ◌∙◌, ap, subst}
use Rattle.std.specs.Prelude.{Option, Some, None, not, nat_le, nat_lt, is_some, if◌then◌else◌}
use Rattle.std.specs.Option.{option_map, option_or}
use Rattle.std.specs.Str.{bytes_eq}
use Rattle.std.proofs.lemmas.Bool.{leb-true, ltb-false}
use Rattle.std.proofs.lemmas.Slice.Eq.{bytes_eq-Decides}
use Rattle.ov_event.specs.declared.event.Event as raw
use Rattle.ov_host.specs.Host.{State}
use Rattle.ov_model.specs.Act.{if_so, is_threshold, optimize_refusal}
use Rattle.ov_model.specs.Moves.{BeginPlan, moved, numbered}
use Rattle.ov_model.specs.World.{Dataset, Plan, World, first_set, named, set_named}
use Rattle.ov_model.specs.declared.refusal.Refusal.{Refusal}
use Rattle.ov_model.specs.declared.refusal.Refusal.TheVariants as no
use Rattle.ov_catalog.specs.Numbers.{PlanNumbers, each_plan}
use Rattle.ov_catalog.specs.Raw.{event_in}
use Rattle.ov_catalog.specs.Reached.{IfThere, PlanFits}
use Rattle.ov_catalog.specs.Shown.{in_set, plan_event, shown_plan}
use Rattle.ov_catalog.specs.Stands.{asked_as}
use Rattle.law_image.specs.Pages.{readings_of}
use Rattle.ov_core.specs.AtWorld.{IsAtWorld}
use Rattle.ov_core.specs.Brought.{Asks, content}
use Rattle.ov_core.specs.Held.{Held}
use Rattle.ov_fetch.specs.Extents.{page_bytes}
use Rattle.ov_read.specs.OfWorld.{IsSetOf}
use Rattle.ov_store.specs.declared.plan_errors.PlanErr.{PlanErr}
use Rattle.ov_store.specs.declared.plan_errors.PlanErr.TheVariants as why
use Rattle.ov_store.specs.Committing.{Set}
use Rattle.ov_store.specs.Planning.{IsPlanRefused, begun_in, off_if, optimize_off, optimize_refused, plan_off, refused_in, with_plan}
use Rattle.ov_store.specs.Scanning.{set_in}
use Rattle.ov_store.proofs.Deciding.{none_named, set_found, world_named}
use Rattle.ov_store.proofs.Seeing.{found_set}

-- ---- the three tests

-- the refusal that an error by numbers is
abbrev refusal_by : List ℕ → Option PlanErr → Option Refusal
refusal_by name None = None
refusal_by name (Some why.Host) = None
refusal_by name (Some why.Memory) = None
refusal_by name (Some (why.Damaged area at)) = None
refusal_by name (Some why.JournalFull) = None
refusal_by name (Some why.NoCvd) = Some (no.NoCvd name)
refusal_by name (Some why.BadThreshold) = Some no.BadThreshold
refusal_by name (Some why.Migrating) = Some (no.Migrating name)
refusal_by name (Some why.NoNumbers) = Some (no.NoNumbers name)

abbrev tested : Bool → Bool → Bool → Option PlanErr
tested a b c = option_or (off_if a why.BadThreshold) (option_or (off_if b why.Migrating) (off_if c why.NoNumbers))

tests_refuse : (name : List ℕ) (a b c : Bool) → refusal_by name (tested a b c)
    ≡ option_or (if_so a no.BadThreshold) (option_or (if_so b (no.Migrating name)) (if_so c (no.NoNumbers name)))
tests_refuse name true b c = refl
tests_refuse name false true c = refl
tests_refuse name false false true = refl
tests_refuse name false false false = refl

-- an error by numbers
abbrev pub IsEarly : PlanErr → Type 0
IsEarly why.Host = ⊥
IsEarly why.Memory = ⊥
IsEarly (why.Damaged area at) = ⊥
IsEarly why.JournalFull = ⊥
IsEarly why.NoCvd = Unit {0}
IsEarly why.BadThreshold = Unit {0}
IsEarly why.Migrating = Unit {0}
IsEarly why.NoNumbers = Unit {0}

inside : (x y : PlanErr) → Some x ≡ Some y → x ≡ y
inside x y e = ap (λ o. elim o as (λ _. PlanErr) [ None ↦ x | Some z ↦ z ]) e

tests_early : (a b c : Bool) (e : PlanErr) → tested a b c ≡ Some e → IsEarly e
tests_early true b c e is = subst IsEarly (inside why.BadThreshold e is) tt
tests_early false true c e is = subst IsEarly (inside why.Migrating e is) tt
tests_early false false true e is = subst IsEarly (inside why.NoNumbers e is) tt
tests_early false false false e is = absurd cc

pub is_early : (o : Option Set) (p q : ℕ) (e : PlanErr) → plan_off o p q ≡ Some e → IsEarly e
is_early None p q e is = subst IsEarly (inside why.NoCvd e is) tt
is_early (Some s) p q e is = tests_early (not (is_threshold p q)) (is_some s.plan) (nat_lt 4294000000 s.next_part) e is

refused_by : (name : List ℕ) (off : Option Refusal) (e : PlanErr) → IsEarly e → refusal_by name (Some e) ≡ off → IsPlanRefused name off e
refused_by name off why.Host early is = absurd early
refused_by name off why.Memory early is = absurd early
refused_by name off (why.Damaged area at) early is = absurd early
refused_by name off why.JournalFull early is = absurd early
refused_by name off why.NoCvd early is = sym is
refused_by name off why.BadThreshold early is = sym is
refused_by name off why.Migrating early is = sym is
refused_by name off why.NoNumbers early is = sym is

-- ---- by the code's tests

pub no_set : (n : Option Set) (p q : ℕ) → n ≡ None → plan_off n p q ≡ Some why.NoCvd
no_set n p q is = ap (λ o. plan_off o p q) is

module _ (o : Option Set) (s : Set) (p q : ℕ) (found : o ≡ Some s) where
  at_tests : (a b c : Bool) → not (is_threshold p q) ≡ a → is_some s.plan ≡ b → nat_lt 4294000000 s.next_part ≡ c → plan_off o p q ≡ tested a b c
  at_tests a b c first second third = ap (λ x. plan_off x p q) found ∙ (λ i. tested (first i) (second i) (third i))

  pub off_threshold : is_threshold p q ≡ false → plan_off o p q ≡ Some why.BadThreshold
  off_threshold no_threshold = at_tests true (is_some s.plan) (nat_lt 4294000000 s.next_part) (ap not no_threshold) refl refl

  pub off_running : is_threshold p q ≡ true → is_some s.plan ≡ true → plan_off o p q ≡ Some why.Migrating
  off_running threshold runs = at_tests false true (nat_lt 4294000000 s.next_part) (ap not threshold) runs refl

  pub off_next : is_threshold p q ≡ true → is_some s.plan ≡ false → nat_lt 4294000000 s.next_part ≡ true → plan_off o p q ≡ Some why.NoNumbers
  off_next threshold idle high = at_tests false false true (ap not threshold) idle high

  pub off_none : is_threshold p q ≡ true → is_some s.plan ≡ false → nat_lt 4294000000 s.next_part ≡ false → plan_off o p q ≡ None
  off_none threshold idle low = at_tests false false false (ap not threshold) idle low

-- ---- a plan runs in both or in neither

each_runs : {S T : Type 0} (g : S → T) (plan : Option (PlanNumbers S)) → is_some (each_plan g plan) ≡ is_some plan
each_runs g None = refl
each_runs g (Some plan) = refl

shown_runs : (d : Dataset) (plan : Option Plan) → is_some (shown_plan d plan) ≡ is_some plan
shown_runs d None = refl
shown_runs d (Some plan) = refl

name_found : (name : List ℕ) (sets : List Dataset) (d : Dataset) → first_set (named name) sets ≡ Some d → d.cvd.name ≡ name
name_found name [] d e = absurd cc
name_found name (x ∷ sets) d e = by (bytes_eq x.cvd.name name) (λ same. (bytes_eq-Decides x.cvd.name name).0 same) e (name_found name sets d)
  where
    by : (b : Bool) → (b ≡ true → x.cvd.name ≡ name) → (if b then Some x else first_set (named name) sets) ≡ Some d
        → (first_set (named name) sets ≡ Some d → d.cvd.name ≡ name) → d.cvd.name ≡ name
    by true same is later = let one : x ≡ d = ap (λ o. elim o as (λ _. Dataset) [ None ↦ x | Some y ↦ y ]) is in ap (λ (y : Dataset). y.cvd.name) (sym one) ∙ same refl
    by false same is later = later is

-- ---- what fits

no_plan : (o : Option Plan) → is_some o ≡ false → o ≡ None
no_plan None is = refl
no_plan (Some plan) is = absurd cc

in_range : (a b c : Bool) → (a && (b && c)) ≡ true → (a ≡ true) × (b ≡ true) × (c ≡ true)
in_range true true true is = (refl, refl, refl)
in_range true true false is = absurd cc
in_range true false c is = absurd cc
in_range false b c is = absurd cc

passed : (x y z : Refusal) (a b c : Bool) → option_or (if_so a x) (option_or (if_so b y) (if_so c z)) ≡ None → (a ≡ false) × (b ≡ false) × (c ≡ false)
passed x y z true b c is = absurd cc
passed x y z false true c is = absurd cc
passed x y z false false true is = absurd cc
passed x y z false false false is = (refl, refl, refl)

not_not : (b : Bool) → not b ≡ false → b ≡ true
not_not true is = refl
not_not false is = absurd cc

plan_fits : (d : Dataset) (p q : ℕ) → optimize_refusal d p q ≡ None → PlanFits p q d
plan_fits d p q none =
    let are = passed no.BadThreshold (no.Migrating d.cvd.name) (no.NoNumbers d.cvd.name) (not (is_threshold p q)) (is_some d.plan) (nat_lt 4294000000 d.next_part) none
    in let threshold = in_range (nat_le 1 p) (nat_le p q) (nat_le q 1000000) (not_not (is_threshold p q) are.0)
    in record {
      idle = no_plan d.plan are.1;
      some = leb-true 1 p threshold.0;
      at_most = leb-true p q threshold.1;
      few = leb-true q 1000000 threshold.2;
      numbers = ltb-false 4294000000 d.next_part are.2;
    }

module _ (w : World) (held : Held) (s : State) (at : IsAtWorld w held s) (name : List ℕ) (p q : ℕ) where
  module _ (set : Set) (found : set_in held.numbers name ≡ Some set) (d : Dataset) (is : set_named w name ≡ Some d) where
    of_world : IsSetOf w d (page_bytes s) set
    of_world = found_set w held s at name set d found is

    runs : is_some set.plan ≡ is_some d.plan
    runs =
        sym (each_runs (readings_of s.tape.disk.pages.bytes).segment set.plan) ∙ ap (λ x. is_some x.plan) of_world.shows ∙ each_runs Some (shown_plan d d.plan)
        ∙ shown_runs d d.plan

    next : set.next_part ≡ d.next_part
    next = ap (λ x. x.next_part) of_world.shows

    set_refuses : refusal_by name (plan_off (Some set) p q) ≡ optimize_refusal d p q
    set_refuses =
        tests_refuse name (not (is_threshold p q)) (is_some set.plan) (nat_lt 4294000000 set.next_part)
        ∙ (λ i. option_or (if_so (not (is_threshold p q)) no.BadThreshold)
        (option_or (if_so (runs i) (no.Migrating (sym (name_found name w.sets d is) i))) (if_so (nat_lt 4294000000 (next i)) (no.NoNumbers (sym (name_found name w.sets d is) i)))))

  -- what is refused by numbers is what the World refuses
  refuses : refusal_by name (optimize_off held.numbers name p q) ≡ optimize_refused w name p q
  refuses = by (set_in held.numbers name) refl
    where
      by : (o : Option Set) → set_in held.numbers name ≡ o → refusal_by name (plan_off o p q) ≡ optimize_refused w name p q
      by None none = ap (λ d. refused_in name d p q) (sym (none_named w held s at name none))
      by (Some set) found =
          let there = world_named w held s at name set found
          in set_refuses set found there.0 there.1 ∙ ap (λ d. refused_in name d p q) (sym there.1)

  pub world_allows : optimize_off held.numbers name p q ≡ None → optimize_refused w name p q ≡ None
  world_allows none = sym refuses ∙ ap (refusal_by name) none

  pub world_refuses : (e : PlanErr) → optimize_off held.numbers name p q ≡ Some e → IsPlanRefused name (optimize_refused w name p q) e
  world_refuses e is =
      refused_by name (optimize_refused w name p q) e (is_early (set_in held.numbers name) p q e is) (ap (refusal_by name) (sym is) ∙ refuses)

  -- where the World refuses, so do the numbers
  pub numbers_refuse_too : (refusal : Refusal) → optimize_refused w name p q ≡ Some refusal → (e : PlanErr) × (optimize_off held.numbers name p q ≡ Some e)
  numbers_refuse_too refusal is = by (optimize_off held.numbers name p q) refl
    where
      by : (o : Option PlanErr) → optimize_off held.numbers name p q ≡ o → (e : PlanErr) × (optimize_off held.numbers name p q ≡ Some e)
      by None none = let clash : None ≡ Some refusal = sym (world_allows none) ∙ is in absurd cc
      by (Some e) off = (e, off)

  module _ (none : optimize_off held.numbers name p q ≡ None) where
    there : (d : Dataset) × (set_named w name ≡ Some d)
    there = by (set_named w name) refl
      where
        by : (o : Option Dataset) → set_named w name ≡ o → (d : Dataset) × (set_named w name ≡ Some d)
        by None gone = let clash : Some (no.NoCvd name) ≡ None = ap (λ d. refused_in name d p q) (sym gone) ∙ world_allows none in absurd cc
        by (Some d) is = (d, is)

    -- so it begins
    pub begins : (P : World → Type 0) → ((d : Dataset) → set_named w name ≡ Some d → P (moved (BeginPlan d.cvd.number p q) w)) → P (begun_in name p q w)
    begins P each = subst (λ o. P (with_plan o p q w)) (sym there.1) (each there.0 there.1)

    pub plan_asks : (d : Dataset) (e : raw.Event) → set_named w name ≡ Some d
        → Some (content (event_in e) [] []) ≡ Some (asked_as (plan_event d.cvd.number p q d)) → Asks (BeginPlan d.cvd.number p q) w e
    plan_asks d e is says =
        let set = set_found w held s at name d is
        in let of : IsSetOf w d (page_bytes s) set.0 = of_world set.0 set.1 d is
        in let number : set.0.number ≡ d.cvd.number = ap (λ x. x.number) of.shows
        in let among : first_set (numbered d.cvd.number) w.sets ≡ Some d = ap (λ n. first_set (numbered n) w.sets) (sym number) ∙ of.among
        in record {
          fits = subst (IfThere (PlanFits p q)) (sym among) (plan_fits d p q (sym (ap (λ x. refused_in name x p q) is) ∙ world_allows none));
          says = says ∙ ap (λ x. option_map asked_as (in_set (λ y. Some (plan_event d.cvd.number p q y)) x)) (sym among);
        }

-- nothing is allowed and refused
pub never_refused : {o : Option PlanErr} (off : PlanErr) → o ≡ None → o ≡ Some off → ⊥
never_refused off none is = cc
