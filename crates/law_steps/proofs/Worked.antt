-- A plan begins in a store with one dataset, and it is that dataset's turn.
use Rattle.std.proofs.Common.{◌≡◌, ℕ, List, [], ◌∷◌, ◌++◌, map, refl, sym, subst, inl, inr, arith}
use Rattle.std.specs.Prelude.{Option, Some, None, codes}
use Rattle.ov_event.specs.declared.event.Event as raw
use Rattle.ov_event.specs.declared.event.Event.TheVariants as says
use Rattle.ov_host.specs.declared.area.Extent.{Extent}
use Rattle.ov_model.specs.Moves.{Move, BeginPlan, new_set}
use Rattle.ov_model.specs.Plans.{parts_at, targets_of}
use Rattle.ov_model.specs.Steps.{next_step}
use Rattle.ov_model.specs.World.{Dataset}
use Rattle.ov_catalog.specs.Numbers.{Numbers as Catalog}
use Rattle.ov_catalog.specs.Raw.{numbers_in}
use Rattle.ov_catalog.specs.Reached.{Fits}
use Rattle.ov_catalog.specs.Shown.{said_of, shown_target}
use Rattle.ov_catalog.specs.Stands.{StandsFor, asked_event, seen_event}
use Rattle.ov_catalog.proofs.Standing.{one_more}
use Rattle.law_image.specs.Images.{StandsAs}
use Rattle.law_image.specs.Pages.{readings_of}
use Rattle.law_image.specs.Worked.{the_image, the_pages, the_rows, the_schema, the_world}
use Rattle.law_image.proofs.Worked.{the_image_stands}
use Rattle.law_events.proofs.Moves.{is_move}
use Rattle.ov_read.specs.Agreement.{Numbers}
use Rattle.law_steps.specs.Turns.{IsSeenTurn, running}
use Rattle.law_steps.specs.Worked.{the_planned}
use Rattle.law_steps.proofs.Finding.{no_turn, seen_turn}

-- ---- the events of the store with its dataset

abbrev Stands : Type 0
Stands = (events : List raw.Event) × StandsFor 2 events (readings_of the_pages) the_world

stands_by : StandsAs the_world the_image → Stands
stands_by (inl new) = absurd (some_page new.pages)
  where
    some_page : the_pages ≡ [] → ⊥
    some_page e = cc
stands_by (inr made) =
    (made.events, subst (λ (format : ℕ). StandsFor format made.events (readings_of the_pages) the_world) (sym made.by.format) made.by.stands)

-- ---- a plan begins

abbrev the_set : Dataset
the_set = new_set 1 (codes "people") the_schema the_rows

plan_fits : Fits (BeginPlan 1 1 2) the_world
plan_fits = record { idle = refl; some = omega arith; at_most = omega arith; few = omega arith; numbers = omega arith }

abbrev the_plan : raw.Event
the_plan = says.Plan 1 1 2 (map (λ t. said_of (shown_target the_set t)) (targets_of the_set (parts_at the_set 1 2)))

spells : Some (seen_event (readings_of the_pages) the_plan) ≡ asked_event (BeginPlan 1 1 2) the_world
spells = refl

planned_stands : (s : Stands) → StandsFor 2 (s.0 ++ the_plan ∷ []) (readings_of the_pages) the_planned
planned_stands s =
    one_more 2 s.0 (readings_of the_pages) the_world the_plan (BeginPlan 1 1 2) s.1
    (is_move s.0 (readings_of the_pages) the_world the_plan (BeginPlan 1 1 2) s.1 plan_fits tt spells
    (λ page. omega (arith, s.1.apart.once page)) (λ page some. absurd (omega (arith, some))))

-- ---- whose turn it is

a_step : next_step the_planned ≡ None → ⊥
a_step e = clash _ e
  where
    clash : (m : Move) → Some m ≡ None → ⊥
    clash m f = cc

some_of : (o : Option Numbers) → (o ≡ None → ⊥) → (s : Numbers) × (o ≡ Some s)
some_of None some = absurd (some refl)
some_of (Some s) some = (s, refl)

pub met : (s : Numbers) × IsSeenTurn the_planned the_pages s
met =
    let stands : Stands = stands_by the_image_stands
    in let planned = planned_stands stands
    in let n : Catalog Extent Extent = numbers_in (stands.0 ++ the_plan ∷ [])
    in let it = some_of (running n) (λ none. a_step (no_turn the_planned n the_pages planned.shows none))
    in (it.0, seen_turn the_planned n the_pages it.0 planned.reached planned.shows it.1)
