-- The worked run, by computing.
use Rattle.std.proofs.Common.{◌≡◌, [], ◌∷◌, refl, sym, ap, subst, inl, arith}
use Rattle.std.specs.Prelude.{Some, None, codes, slice_get}
use lib.Utf8.{encode}
use Rattle.std.specs.Str.{is_utf8, chars}
use Rattle.ov_graph.specs.Splits.{is_under, stops, may_cut, versions_apart, records_apart, chosen, cuts_within, cuts_of}
use Rattle.ov_value.specs.Making.{name_refusal, column_refusal, key_refusal}
use Rattle.ov_value.specs.Naming.{is_name, is_vid, is_column_name}
use Rattle.ov_model.specs.Course.{moves_of, world_at}
use Rattle.ov_model.specs.Lists.{IsIn}
use Rattle.ov_model.specs.Moves.{BeginPlan, Flip}
use Rattle.ov_model.specs.Plans.{flipped}
use Rattle.ov_model.specs.Words.{lines_of}
use Rattle.ov_model.proofs.Courses.{at_next}
use Rattle.law_image.specs.Worked.{the_image, the_world}
use Rattle.law_image.proofs.Worked.{the_image_stands}
use Rattle.law_partitions.specs.PlanEnds.{HasAllVersions}
use Rattle.law_partitions.proofs.PlanMoves.{begun_has_all}
use Rattle.law_plans.specs.Ends.{BeganAt, EndsPlan}
use Rattle.law_plans.specs.Runs.{IsRun}
use Rattle.law_plans.specs.Worked.{the_items, the_people, the_plan, the_session, the_set}
use Rattle.law_plans.proofs.Images.{any_run}

pub the_run : IsRun the_world the_items
the_run = any_run the_image the_world 1 the_session (lines_of (codes "optimize people -d 1/2\n")) [] the_image_stands

the_moves : moves_of the_items ≡ BeginPlan 1 1 2 ∷ Flip 1 ∷ []
unfolding encode is_utf8 chars is_name is_vid is_column_name name_refusal column_refusal key_refusal is_under stops may_cut versions_apart records_apart chosen cuts_within cuts_of
the_moves = refl

the_first : slice_get (moves_of the_items) 0 ≡ Some (BeginPlan 1 1 2)
the_first = ap (λ ms. slice_get ms 0) the_moves

pub the_beginning : BeganAt the_items 0 1 1 1 2
the_beginning = record { begins = the_first; before = omega arith; only = λ j m low high e. absurd (omega (arith, low, high)) }

set_there : IsIn (world_at the_world the_items 1).sets the_set
set_there = subst (λ v. IsIn v.sets the_set) (sym (at_next the_world the_items 0 (BeginPlan 1 1 2) the_first)) (inl refl)

the_last : (flipped the_set).plan ≡ None
unfolding is_under stops may_cut versions_apart records_apart chosen cuts_within cuts_of
the_last = refl

pub the_end : EndsPlan the_world the_items 1 the_set the_plan
the_end = record { flips = ap (λ ms. slice_get ms 1) the_moves; there = set_there; runs = refl; last = the_last }

pub all_versions : HasAllVersions the_set the_plan
all_versions = begun_has_all 1 2 the_people
