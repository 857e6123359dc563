-- When an event follows what the catalog has, and else the first part of it that doesn't.
--     off_at stage e n      that part, where so much of the half came before; None where the event applies
--     first_off format e n      the same of the event of a move, in a store of this format
--     reach_behind reach events      how far the half has come behind these
--     AllFollow stage events n      each event applies where those before it end
use Rattle.std.specs.Prelude.{◌≡◌, ℕ, ◌&&◌, ◌==◌, nat_le, nat_lt, List, [], ◌∷◌, Option, Some, None, find}
use Rattle.std.specs.Option.{option_or}
use Rattle.ov_event.specs.declared.event.Event as raw
use Rattle.ov_event.specs.declared.event.Event.TheVariants as says
use Rattle.ov_host.specs.declared.area.Extent.{Extent}
use Rattle.ov_catalog.specs.declared.field.Field.{Field}
use Rattle.ov_catalog.specs.declared.field.Field.TheVariants as off
use Rattle.ov_catalog.specs.Numbers.{SetNumbers, Numbers}
use Rattle.ov_catalog.specs.Events.{numbered, applied}
use Rattle.ov_catalog.specs.Planning.{plan_off, of_running, copy_off, flip_off}
use Rattle.ov_catalog.specs.Raw.{place_in, whole_in, event_in}
use Rattle.ov_catalog.specs.Wholes.{whole_off}
pub use Rattle.ov_catalog.specs.Testing.{off_unless, is_named, no_column, name_at, are_places, is_schema, is_extent, is_same, is_list, is_segment, name_off, init_off, rows_at, are_distinct, is_parent, are_parents, part_serving, part_numbered, id_in, records_in, targets_from, is_unmoved, copied_in, stored, facts_of, is_place, is_count, vid_off, message_off, version_off, commit_off, columns_off, wide_off}

-- of a live dataset
abbrev pub of_live : {L S : Type 0} → (SetNumbers L S → Option Field) → Option (SetNumbers L S) → Option Field
of_live test None = Some off.Number
of_live test (Some d) = test d

abbrev pub set_numbered : {L S : Type 0} → ℕ → Numbers L S → Option (SetNumbers L S)
set_numbered cvd n = find (numbered cvd) n.sets

-- ---- what counts besides the numbers

-- Where a half of the journal stands: before its first event; in its snapshot, directly behind the Base, which has the next
-- dataset's number, or behind a Whole, the last of which has this number, 0 where there is none; or further on.
pub data Reach : Type 0 where
  AtStart : Reach
  InSnapshot : (next last : ℕ) → Reach
  Beyond : Reach

-- the store's format number, and how far the half has come
pub record Stage : Type 0 where
  pub format : ℕ
  pub reach : Reach

abbrev pub start_of : ℕ → Stage
start_of format = record { format = format; reach = AtStart }

-- a Base begins a snapshot
abbrev pub base_off : ℕ → Reach → Option Field
base_off next AtStart = off_unless (nat_le 1 next) off.Number
base_off next (InSnapshot base last) = Some off.Number
base_off next Beyond = Some off.Number

-- the numbers of a snapshot's datasets ascend below that of the next one
abbrev pub number_off : ℕ → Reach → Option Field
number_off number AtStart = Some off.Number
number_off number (InSnapshot next last) = off_unless (nat_lt last number && nat_lt number next) off.Number
number_off number Beyond = Some off.Number

-- a store of format 1 takes no columns
abbrev pub format_off : ℕ → Option Field
format_off format = off_unless (format == 2) off.Number

abbrev pub off_at : {L S : Type 0} → Stage → raw.Event → Numbers L S → Option Field
off_at stage (says.Init name schema rows list segment) n = init_off name schema rows list segment n
off_at stage (says.Commit cvd vid message parents rows fresh place added list segment) n =
    of_live (commit_off vid message parents rows fresh (place_in place) added list segment) (set_numbered cvd n)
off_at stage (says.Plan cvd p q targets) n = of_live (plan_off p q targets) (set_numbered cvd n)
off_at stage (says.Copy cvd count segment) n = of_live (λ d. of_running (copy_off count segment) d.plan) (set_numbered cvd n)
off_at stage (says.Flip cvd) n = of_live (λ d. of_running flip_off d.plan) (set_numbered cvd n)
off_at stage (says.Drop cvd) n = of_live (λ d. None) (set_numbered cvd n)
off_at stage (says.Base next) n = base_off next stage.reach
off_at stage (says.Whole said) n = option_or (number_off said.number stage.reach) (whole_off said (whole_in said) n)
off_at stage (says.Wide cvd vid message columns parents rows fresh place added list segment) n =
    option_or (format_off stage.format)
    (of_live (wide_off vid message columns parents rows fresh (place_in place) added list segment) (set_numbered cvd n))

-- a snapshot goes on with a Whole, and ends with any other event
abbrev pub reach_with : ℕ → Reach → Reach
reach_with number AtStart = Beyond
reach_with number (InSnapshot next last) = InSnapshot next number
reach_with number Beyond = Beyond

abbrev pub reach_after : raw.Event → Reach → Reach
reach_after (says.Init name schema rows list segment) reach = Beyond
reach_after (says.Commit cvd vid message parents rows fresh place added list segment) reach = Beyond
reach_after (says.Plan cvd p q targets) reach = Beyond
reach_after (says.Copy cvd count segment) reach = Beyond
reach_after (says.Flip cvd) reach = Beyond
reach_after (says.Drop cvd) reach = Beyond
reach_after (says.Base next) reach = InSnapshot next 0
reach_after (says.Whole said) reach = reach_with said.number reach
reach_after (says.Wide cvd vid message columns parents rows fresh place added list segment) reach = Beyond

-- where so many events leave a half
abbrev pub reach_behind : Reach → List raw.Event → Reach
reach_behind reach [] = reach
reach_behind reach (e ∷ es) = reach_behind (reach_after e reach) es

-- a half keeps its format number
abbrev pub stage_after : raw.Event → Stage → Stage
stage_after e stage = record { format = stage.format; reach = reach_after e stage.reach }

abbrev pub AllFollow : Stage → List raw.Event → Numbers Extent Extent → Type 0
AllFollow stage [] n = Unit {0}
AllFollow stage (e ∷ es) n = (off_at stage e n ≡ None) × AllFollow (stage_after e stage) es (applied (event_in e) n)

-- ---- the event of a move

-- A snapshot is behind it: its own events are off.
abbrev pub first_off : {L S : Type 0} → ℕ → raw.Event → Numbers L S → Option Field
first_off format e n = off_at (record { format = format; reach = Beyond }) e n
