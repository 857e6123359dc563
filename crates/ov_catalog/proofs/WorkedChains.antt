-- What is worked out on a chain, by computing.
use Rattle.std.proofs.Common.{◌≡◌, [], ◌∷◌, map, refl}
use Rattle.std.specs.Prelude.{None, Some}
use Rattle.std.specs.Option.{option_map}
use Rattle.ov_event.specs.declared.event.Event.TheVariants as says
use Rattle.ov_graph.specs.Splits.{is_under, stops, may_cut, versions_apart, records_apart, chosen, cuts_within, cuts_of}
use Rattle.ov_host.specs.declared.area.Extent.{Extent}
use Rattle.ov_value.specs.Making.{name_refusal, column_refusal, key_refusal}
use Rattle.ov_value.specs.Naming.{is_name, is_vid, is_column_name}
use Rattle.ov_value.specs.Spelling.{row_spelling}
use Rattle.ov_model.specs.Moves as moves
use Rattle.ov_model.specs.Moves.{moved}
use Rattle.ov_catalog.specs.declared.field.Field.TheVariants as off
use Rattle.ov_catalog.specs.Applying.{AllFollow, off_at, start_of}
use Rattle.ov_catalog.specs.Chains.{chain, planned_chain, copied_chain, flipped_chain, plan_said, plan_past, plan_short, copy_said, copy_short, first_target, second_target, wide_move, wide_said, chain_whole, chain_snapshot, two_of_three, chain_half, chain_end, ended_chain, bare_numbers, list_at, beyond, within}
use Rattle.ov_catalog.specs.Events.{Plan, Flip, applied}
use Rattle.ov_catalog.specs.Numbers.{nothing_yet}
use Rattle.ov_catalog.specs.Extents.{given_up}
use Rattle.ov_catalog.specs.Raw.{event_in, numbers_in}
use Rattle.ov_catalog.specs.Shown.{shown, event_of, snapshot_of}
use Rattle.ov_catalog.specs.Snapshots.{bare}

pub plan_event : event_of (moves.BeginPlan 1 3 4) chain ≡ Some (Plan 1 3 4 (first_target ∷ second_target ∷ []))
unfolding is_under stops may_cut versions_apart records_apart chosen cuts_within cuts_of row_spelling
plan_event = refl

pub plan_applies : off_at (beyond 2) plan_said (shown chain) ≡ None
unfolding is_under stops may_cut versions_apart records_apart chosen cuts_within cuts_of row_spelling
plan_applies = refl

pub plan_past_off : off_at (beyond 2) plan_past (shown chain) ≡ Some off.Count
unfolding is_under stops may_cut versions_apart records_apart chosen cuts_within cuts_of row_spelling
plan_past_off = refl

pub plan_short_off : off_at (beyond 2) plan_short (shown chain) ≡ Some off.Count
unfolding is_under stops may_cut versions_apart records_apart chosen cuts_within cuts_of row_spelling
plan_short_off = refl

pub plan_numbers : applied (Plan 1 3 4 (first_target ∷ second_target ∷ [])) (shown chain) ≡ shown planned_chain
unfolding is_under stops may_cut versions_apart records_apart chosen cuts_within cuts_of row_spelling
plan_numbers = refl

pub copy_applies : off_at (beyond 2) copy_said (shown planned_chain) ≡ None
unfolding is_under stops may_cut versions_apart records_apart chosen cuts_within cuts_of row_spelling
copy_applies = refl

pub copy_short_off : off_at (beyond 2) copy_short (shown planned_chain) ≡ Some off.Count
unfolding is_under stops may_cut versions_apart records_apart chosen cuts_within cuts_of row_spelling
copy_short_off = refl

pub copy_numbers : option_map (λ e. applied e (shown planned_chain)) (event_of (moves.Copy 1) planned_chain) ≡ Some (shown copied_chain)
unfolding is_under stops may_cut versions_apart records_apart chosen cuts_within cuts_of row_spelling
copy_numbers = refl

pub flip_applies : off_at (beyond 2) (says.Flip 1) (shown copied_chain) ≡ None
unfolding is_under stops may_cut versions_apart records_apart chosen cuts_within cuts_of row_spelling
flip_applies = refl

pub flip_early_off : off_at (beyond 2) (says.Flip 1) (shown planned_chain) ≡ Some off.Count
unfolding is_under stops may_cut versions_apart records_apart chosen cuts_within cuts_of row_spelling
flip_early_off = refl

pub flip_numbers : applied (Flip 1) (shown copied_chain) ≡ shown flipped_chain
unfolding is_under stops may_cut versions_apart records_apart chosen cuts_within cuts_of row_spelling
flip_numbers = refl

pub wide_format_off : off_at (beyond 1) wide_said (shown chain) ≡ Some off.Number
unfolding row_spelling
wide_format_off = refl

pub wide_applies : off_at (beyond 2) wide_said (shown chain) ≡ None
unfolding row_spelling column_refusal name_refusal is_name is_vid is_column_name
wide_applies = refl

pub wide_numbers : option_map (λ e. applied e (shown chain)) (event_of wide_move chain) ≡ Some (shown (moved wide_move chain))
unfolding row_spelling column_refusal name_refusal is_name is_vid is_column_name
wide_numbers = refl

pub snapshot_follows : AllFollow (start_of 2) chain_snapshot nothing_yet
unfolding column_refusal key_refusal name_refusal is_name is_vid is_column_name
snapshot_follows = (refl, (refl, tt))

pub snapshot_says : map (λ e. bare (event_in e)) chain_snapshot ≡ map bare (snapshot_of chain)
unfolding row_spelling
snapshot_says = refl

pub whole_late_off : off_at {L = Extent} {S = Extent} (within 2 1) (says.Whole chain_whole) nothing_yet ≡ Some off.Number
whole_late_off = refl

pub whole_rows_off : off_at {L = Extent} {S = Extent} (within 2 0) (says.Whole (record chain_whole { records = 9 })) nothing_yet ≡ Some off.Rows
unfolding column_refusal key_refusal name_refusal is_name is_vid is_column_name
whole_rows_off = refl

pub whole_placing_off : off_at {L = Extent} {S = Extent} (within 2 0) (says.Whole (record chain_whole { parts = two_of_three ∷ [] })) nothing_yet ≡ Some off.Placing
unfolding column_refusal key_refusal name_refusal is_name is_vid is_column_name
whole_placing_off = refl

pub whole_plan_off : off_at {L = Extent} {S = Extent} (within 2 0) (says.Whole (record chain_whole { q = 5 })) nothing_yet ≡ Some off.Plan
unfolding column_refusal key_refusal name_refusal is_name is_vid is_column_name
whole_plan_off = refl

pub base_late_off : off_at {L = Extent} {S = Extent} (beyond 2) (says.Base 2) nothing_yet ≡ Some off.Number
base_late_off = refl

pub half_follows : AllFollow (start_of 2) chain_end nothing_yet
unfolding is_under stops may_cut versions_apart records_apart chosen cuts_within cuts_of column_refusal key_refusal name_refusal is_name is_vid is_column_name
half_follows = (refl, (refl, (refl, (refl, (refl, (refl, (refl, tt)))))))

pub half_gives : given_up (Flip 1) (numbers_in chain_half) ≡ list_at 1 96 ∷ []
unfolding is_under stops may_cut versions_apart records_apart chosen cuts_within cuts_of
half_gives = refl

pub half_numbers : bare_numbers (numbers_in chain_end) ≡ bare_numbers (shown ended_chain)
unfolding is_under stops may_cut versions_apart records_apart chosen cuts_within cuts_of row_spelling
half_numbers = refl
