-- A chain of three versions, and what is worked out on it: a plan, its steps, a version with a column more, and a snapshot.
--     chain      the World; its versions have the keys 1 to 4, then 1 and 5 to 7, then 8 as well
use Rattle.std.specs.Prelude.{ℕ, pos, List, [], ◌∷◌, ◌++◌, map, None, codes}
use Rattle.ov_event.specs.declared.event.Event as raw
use Rattle.ov_event.specs.declared.event.Event.TheVariants as says
use Rattle.ov_event.specs.declared.event.Placed.TheVariants as at
use Rattle.ov_event.specs.declared.event.PlanTarget.{PlanTarget}
use Rattle.ov_event.specs.declared.event.RawSchema.{RawSchema}
use Rattle.ov_event.specs.declared.whole.RawPart.{RawPart}
use Rattle.ov_event.specs.declared.whole.Whole.{Whole}
use Rattle.ov_host.specs.declared.area.Extent.{Extent}
use Rattle.ov_value.specs.declared.column.Column.{Column}
use Rattle.ov_value.specs.declared.column.Kind.TheVariants as kind
use Rattle.ov_value.specs.declared.value.Value.TheVariants.{Int, Text}
use Rattle.ov_model.specs.Book.{Row}
use Rattle.ov_model.specs.Moves.{Move, Init, Commit, BeginPlan, Copy, Flip}
use Rattle.ov_model.specs.Steps.{all_moved}
use Rattle.ov_model.specs.World.{World, empty_world}
use Rattle.ov_catalog.specs.Applying.{Stage, Beyond, InSnapshot}
use Rattle.ov_catalog.specs.Numbers.{Numbers, each}

abbrev pub columns_kx : List Column
columns_kx = record { name = codes "k"; kind = kind.Int } ∷ record { name = codes "x"; kind = kind.Int } ∷ []

-- x is 1 in every row
abbrev pub rows_of_keys : List ℕ → List Row
rows_of_keys keys = map (λ k. Int (pos k) ∷ Int (pos 1) ∷ []) keys

abbrev pub chain_moves : List Move
chain_moves =
    Init (codes "chain") (record { columns = columns_kx; key = 0 ∷ [] }) (rows_of_keys (1 ∷ 2 ∷ 3 ∷ 4 ∷ []))
    ∷ Commit 1 (1 ∷ []) (codes "two") [] (rows_of_keys (1 ∷ 5 ∷ 6 ∷ 7 ∷ []))
    ∷ Commit 1 (2 ∷ []) (codes "three") [] (rows_of_keys (1 ∷ 5 ∷ 6 ∷ 7 ∷ 8 ∷ []))
    ∷ []

abbrev pub chain : World
chain = all_moved chain_moves empty_world

-- ---- a plan at 3/4: one target is built anew, the other keeps two segments of partition 1

abbrev pub first_target : PlanTarget
first_target = record { size = 4; source = 0; kept = []; kept_records = 0 }

abbrev pub second_target : PlanTarget
second_target = record { size = 5; source = 1; kept = 1 ∷ 2 ∷ []; kept_records = 4 }

abbrev pub plan_said : raw.Event
plan_said = says.Plan 1 3 4 (first_target ∷ second_target ∷ [])

-- a target that keeps a segment that its source doesn't have, and one too few
abbrev pub plan_past : raw.Event
plan_past = says.Plan 1 3 4 (first_target ∷ record { size = 5; source = 1; kept = 1 ∷ 3 ∷ []; kept_records = 4 } ∷ [])

abbrev pub plan_short : raw.Event
plan_short = says.Plan 1 3 4 (first_target ∷ [])

abbrev pub planned_chain : World
planned_chain = all_moved (BeginPlan 1 3 4 ∷ []) chain

abbrev pub copied_chain : World
copied_chain = all_moved (Copy 1 ∷ []) planned_chain

abbrev pub flipped_chain : World
flipped_chain = all_moved (Flip 1 ∷ []) copied_chain

abbrev pub somewhere : Extent
somewhere = record { page = 9; bytes = 40 }

abbrev pub copy_said : raw.Event
copy_said = says.Copy 1 4 somewhere

-- one record too few
abbrev pub copy_short : raw.Event
copy_short = says.Copy 1 3 somewhere

-- ---- a version with a column more

abbrev pub team : List Column
team = record { name = codes "team"; kind = kind.Text } ∷ []

abbrev pub wide_move : Move
wide_move = Commit 1 (3 ∷ []) (codes "wide") team ((Int (pos 1) ∷ Int (pos 1) ∷ Text (codes "a") ∷ []) ∷ [])

abbrev pub wide_said : raw.Event
wide_said =
    says.Wide 1 4 (codes "wide") team ((3, 0) ∷ []) 1 1 (at.Join 1) 1 (record { page = 8; bytes = 8 }) somewhere

-- ---- a snapshot

abbrev pub spelled_kx : RawSchema
spelled_kx = record { columns = columns_kx; key = 0 ∷ [] }

-- so many bytes at a page
abbrev pub list_at : ℕ → ℕ → Extent
list_at page bytes = record { page = page; bytes = bytes }

abbrev pub chain_whole : Whole
chain_whole = record {
  number = 1;
  name = codes "chain";
  schema = spelled_kx;
  records = 8;
  p = 0;
  q = 0;
  next = 2;
  versions = record { parents = []; message = codes "init"; rows = 4; fresh = 4; list = list_at 0 8 }
      ∷ record { parents = (1, 1) ∷ []; message = codes "two"; rows = 4; fresh = 3; list = list_at 2 16 }
      ∷ record { parents = (2, 4) ∷ []; message = codes "three"; rows = 5; fresh = 1; list = list_at 4 16 }
      ∷ [];
  parts = record { id = 1; versions = 1 ∷ 2 ∷ 3 ∷ []; holds = 1 ∷ 2 ∷ 3 ∷ []; records = 8; segments = list_at 1 96 ∷ list_at 3 72 ∷ list_at 5 24 ∷ [] } ∷ [];
  plan = None;
}

-- a partition that doesn't serve version 3
abbrev pub two_of_three : RawPart
two_of_three = record { id = 1; versions = 1 ∷ 2 ∷ []; holds = 1 ∷ 2 ∷ 3 ∷ []; records = 8; segments = list_at 1 96 ∷ [] }

abbrev pub chain_snapshot : List raw.Event
chain_snapshot = says.Base 2 ∷ says.Whole chain_whole ∷ []

-- ---- a half with a plan from its beginning to its end

-- up to the last flip
abbrev pub chain_half : List raw.Event
chain_half = chain_snapshot ++ plan_said ∷ copy_said ∷ says.Flip 1 ∷ says.Copy 1 1 (list_at 10 24) ∷ []

abbrev pub chain_end : List raw.Event
chain_end = chain_half ++ says.Flip 1 ∷ []

abbrev pub ended_chain : World
ended_chain = all_moved (BeginPlan 1 3 4 ∷ Copy 1 ∷ Flip 1 ∷ Copy 1 ∷ Flip 1 ∷ []) chain

-- numbers without what fills their holes
abbrev pub bare_numbers : {L S : Type 0} → Numbers L S → Numbers (Unit {0}) (Unit {0})
bare_numbers n = each (λ list. tt) (λ segment. tt) n

-- the format number of a store whose half has gone beyond its snapshot, and one that is in it
abbrev pub beyond : ℕ → Stage
beyond format = record { format = format; reach = Beyond }

abbrev pub within : ℕ → ℕ → Stage
within next last = record { format = 2; reach = InSnapshot next last }
