use Rattle.std.proofs.Common.{◌≡◌, Bool, List, [], ◌∷◌, Some, None, true, false, refl, sym, ◌∙◌, ap, subst}
use Rattle.std.specs.Prelude.{find, is_some, option_map, option_copied, if◌then◌else◌}
use Rattle.ov_host.specs.declared.area.Extent.{Extent}
use Rattle.ov_catalog.specs.Numbers.{Numbers as Catalog}
use Rattle.ov_catalog.specs.Sets.{plan_in, plan_numbers, set_in}
use Rattle.ov_catalog.specs.Sources.{FlipFits}
use Rattle.ov_catalog.specs.Stands.{asked, seen}
use Rattle.ov_fetch.specs.Extents.{page_bytes}
use Rattle.ov_fetch.proofs.Gathered.{passed_on}
use Rattle.law_image.specs.Pages.{readings_of}
use Rattle.ov_read.specs.OfWorld.{IsSpared}
use Rattle.law_steps.specs.Turns.{IsSeenTurn, running}
use Rattle.law_steps.proofs.Finding.{no_turn, seen_turn}
use Rattle.ov_migrate.specs.Steps.{IsNextOf}
use Rattle.ov_migrate.proofs.Applied.{number_finds}
use Rattle.ov_migrate.proofs.Replayed.{PlanIsFit, Set, first_found, plan_fits}
use Rattle.ov_migrate.proofs.next.next_step.Goals as goal

find_holds : (test : Set → Bool) (sets : List Set) (s : Set) → find test sets ≡ Some s → test s ≡ true
find_holds test [] s e = absurd cc
find_holds test (d ∷ sets) s e = by (test d) refl e (find_holds test sets s)
  where
    by : (b : Bool) → test d ≡ b → (if b then Some d else find test sets) ≡ Some s → (find test sets ≡ Some s → test s ≡ true) → test s ≡ true
    by true holds is later = ap test (sym (ap (λ o. elim o as (λ _. Set) [ None ↦ d | Some x ↦ x ]) is)) ∙ holds
    by false holds is later = later is

clash : true ≡ false → ⊥
clash e = cc

pub returns-in_default-clause-world : goal.returns-in_default-clause-world
returns-in_default-clause-world g c w at =
    let n = c.args.core.now.numbers in
    let area = page_bytes (g.H.Host.state c.args.host.now) in
    let none : running n ≡ None =
    ap (λ (m : Catalog Extent Extent). running m) (sym c.catalog-catalog.ensures)
    ∙ sym c.running_of.ensures.first
    ∙ ap (λ o. option_map set_in (option_copied o)) c.in_default.is in
    let shows : seen (readings_of area) n ≡ asked w = ap (seen (readings_of area)) at.numbers_are ∙ at.stands.stands.shows in
    no_turn w n area shows none

pub unreachable-requires : goal.unreachable-requires
unreachable-requires g c =
    let n = c.args.core.now.numbers in
    let s : Set = set_in c.in-Some.d.now in
    let first : running n ≡ Some s =
    ap (λ (m : Catalog Extent Extent). running m) (sym c.catalog-catalog.ensures)
    ∙ sym c.running_of.ensures.first
    ∙ ap (λ o. option_map set_in (option_copied o)) c.in-Some.is in
    clash (sym (find_holds (λ x. is_some x.plan) n.sets s first) ∙ ap (λ o. is_some (plan_in o)) c.in_default-plan.is)

pub step_of-requires-clause-most : goal.step_of-requires-clause-most
step_of-requires-clause-most g c =
    let n = c.args.core.now.numbers in
    let s : Set = set_in c.in-Some.d.now in
    let first : running n ≡ Some s =
    ap (λ (m : Catalog Extent Extent). running m) (sym c.catalog-catalog.ensures)
    ∙ sym c.running_of.ensures.first
    ∙ ap (λ o. option_map set_in (option_copied o)) c.in-Some.is in
    subst (λ o. PlanIsFit (plan_in o)) c.in-Some-plan.is (plan_fits n s c.is_replayed.ensures (first_found (λ x. is_some x.plan) n.sets s first))

pub returns-in_err-step-clause-world : goal.returns-in_err-step-clause-world
returns-in_err-step-clause-world g c w at =
    let n = c.args.core.now.numbers in
    let area = page_bytes (g.H.Host.state c.args.host.now) in
    let s : Set = set_in c.in-Some.d.now in
    let first : running n ≡ Some s =
    ap (λ (m : Catalog Extent Extent). running m) (sym c.catalog-catalog.ensures)
    ∙ sym c.running_of.ensures.first
    ∙ ap (λ o. option_map set_in (option_copied o)) c.in-Some.is in
    let shows : seen (readings_of area) n ≡ asked w = ap (seen (readings_of area)) at.numbers_are ∙ at.stands.stands.shows in
    let turn : IsSeenTurn w area s = seen_turn w n area s at.stands.stands.reached shows first in
    passed_on (IsNextOf w) IsSpared c.from_residual.result c.in_err-step.field-0.0 c.from_residual.ensures (c.in_err-step.ensures.world at.at.told w turn)

pub returns-clause-ready : goal.returns-clause-ready
returns-clause-ready g c =
    let n = c.args.core.now.numbers in
    let s : Set = set_in c.in-Some.d.now in
    let first : running n ≡ Some s =
    ap (λ (m : Catalog Extent Extent). running m) (sym c.catalog-catalog.ensures)
    ∙ sym c.running_of.ensures.first
    ∙ ap (λ o. option_map set_in (option_copied o)) c.in-Some.is in
    let fits : FlipFits s.number n.sets = subst (λ (m : Catalog Extent Extent). FlipFits s.number m.sets) c.catalog-catalog.ensures c.is_apart.ensures in
    record {
      s = s;
      p = plan_numbers c.in-Some-plan.plan;
      turn = record { first = first; plan = ap plan_in c.in-Some-plan.is };
      is = c.in_ok-step.ensures.is;
      applies = c.in_ok-step.ensures.applies n (number_finds n.sets s fits (first_found (λ x. is_some x.plan) n.sets s first));
    }

pub returns-clause-answer : goal.returns-clause-answer
returns-clause-answer g c told =
    let n = c.args.core.now.numbers in
    let s : Set = set_in c.in-Some.d.now in
    let first : running n ≡ Some s =
    ap (λ (m : Catalog Extent Extent). running m) (sym c.catalog-catalog.ensures)
    ∙ sym c.running_of.ensures.first
    ∙ ap (λ o. option_map set_in (option_copied o)) c.in-Some.is in
    record {
      s = s;
      p = plan_numbers c.in-Some-plan.plan;
      turn = record { first = first; plan = ap plan_in c.in-Some-plan.is };
      is = c.in_ok-step.ensures.answer told;
    }

pub returns-clause-world : goal.returns-clause-world
returns-clause-world g c w at =
    let n = c.args.core.now.numbers in
    let area = page_bytes (g.H.Host.state c.args.host.now) in
    let s : Set = set_in c.in-Some.d.now in
    let first : running n ≡ Some s =
    ap (λ (m : Catalog Extent Extent). running m) (sym c.catalog-catalog.ensures)
    ∙ sym c.running_of.ensures.first
    ∙ ap (λ o. option_map set_in (option_copied o)) c.in-Some.is in
    let shows : seen (readings_of area) n ≡ asked w = ap (seen (readings_of area)) at.numbers_are ∙ at.stands.stands.shows in
    let turn : IsSeenTurn w area s = seen_turn w n area s at.stands.stands.reached shows first in
    c.in_ok-step.ensures.world at.at.told w turn
