-- Which fields each record is read from.
use Rattle.std.specs.Prelude.{ℕ, zero, suc, List, [], ◌∷◌, Option, Some, None}
use Rattle.ov_value.specs.declared.column.Column.{Column}
use Rattle.ov_value.specs.declared.column.Kind.{Kind}
use Rattle.ov_value.specs.declared.column.Kind.TheVariants as kind
use Rattle.ov_event.specs.declared.event.Placed.{Placed}
use Rattle.ov_event.specs.declared.event.Placed.TheVariants.{Own, Join}
use Rattle.ov_event.specs.declared.event.PlanTarget.{PlanTarget}
use Rattle.ov_event.specs.declared.event.RawSchema.{RawSchema}
use Rattle.ov_event.specs.declared.whole.RawPart.{RawPart}
use Rattle.ov_event.specs.declared.whole.RawPlan.{RawPlan}
use Rattle.ov_event.specs.declared.whole.RawTarget.{RawTarget}
use Rattle.ov_event.specs.declared.whole.RawVersion.{RawVersion}
use Rattle.ov_event.specs.declared.whole.Whole.{Whole as Dataset}
use Rattle.ov_event.specs.Reading.{Reading, u8_at, u16_at, u32_at, text_at, extent_at, counted_at, ◌then◌, end_at, made_at}

unfoldable pub kind_at : Reading Kind
kind_at [] = None
kind_at (zero ∷ bytes) = None
kind_at (suc zero ∷ bytes) = Some (kind.Int, bytes)
kind_at (suc (suc zero) ∷ bytes) = Some (kind.Text, bytes)
kind_at (suc (suc (suc zero)) ∷ bytes) = Some (kind.Flag, bytes)
kind_at (suc (suc (suc (suc n))) ∷ bytes) = None

unfoldable pub column_at : Reading Column
column_at = made_at (λ t. record { name = t.0; kind = t.1.0 }) (text_at then kind_at then end_at)

abbrev pub columns_at : Reading (List Column)
columns_at = counted_at u8_at column_at

unfoldable pub schema_at : Reading RawSchema
schema_at = made_at (λ t. record { columns = t.0; key = t.1.0 }) (columns_at then counted_at u8_at u8_at then end_at)

unfoldable pub parent_at : Reading (ℕ × ℕ)
parent_at = made_at (λ t. (t.0, t.1.0)) (u32_at then u32_at then end_at)

abbrev pub parents_at : Reading (List (ℕ × ℕ))
parents_at = counted_at u16_at parent_at

abbrev pub numbers_at : Reading (List ℕ)
numbers_at = counted_at u32_at u32_at

unfoldable pub place_at : Reading Placed
place_at [] = None
place_at (zero ∷ bytes) = Some (Own, bytes)
place_at (suc zero ∷ bytes) = made_at Join u32_at bytes
place_at (suc (suc n) ∷ bytes) = None

unfoldable pub target_at : Reading PlanTarget
target_at =
    made_at (λ t. record { size = t.0; source = t.1.0; kept = t.1.1.0; kept_records = t.1.1.1.0 })
    (u32_at then u32_at then numbers_at then u32_at then end_at)

unfoldable pub version_at : Reading RawVersion
version_at =
    made_at (λ t. record { parents = t.0; message = t.1.0; rows = t.1.1.0; fresh = t.1.1.1.0; list = t.1.1.1.1.0 })
    (parents_at then text_at then u32_at then u32_at then extent_at then end_at)

unfoldable pub part_at : Reading RawPart
part_at =
    made_at (λ t. record { id = t.0; versions = t.1.0; holds = t.1.1.0; records = t.1.1.1.0; segments = t.1.1.1.1.0 })
    (u32_at then numbers_at then numbers_at then u32_at then counted_at u32_at extent_at then end_at)

unfoldable pub raw_target_at : Reading RawTarget
raw_target_at =
    made_at (λ t. record { versions = t.0; size = t.1.0; source = t.1.1.0; kept = t.1.1.1.0; kept_records = t.1.1.1.1.0 })
    (numbers_at then u32_at then u32_at then numbers_at then u32_at then end_at)

unfoldable pub raw_plan_at : Reading RawPlan
raw_plan_at =
    made_at (λ t. record { at = t.0; copied = t.1.0; targets = t.1.1.0; segments = t.1.1.1.0 })
    (u32_at then u32_at then counted_at u32_at raw_target_at then counted_at u32_at extent_at then end_at)

unfoldable pub maybe_plan_at : Reading (Option RawPlan)
maybe_plan_at [] = None
maybe_plan_at (zero ∷ bytes) = Some (None, bytes)
maybe_plan_at (suc zero ∷ bytes) = made_at (λ p. Some p) raw_plan_at bytes
maybe_plan_at (suc (suc n) ∷ bytes) = None

unfoldable pub dataset_at : Reading Dataset
dataset_at =
    made_at (λ t. record {
      number = t.0;
      name = t.1.0;
      schema = t.1.1.0;
      records = t.1.1.1.0;
      p = t.1.1.1.1.0;
      q = t.1.1.1.1.1.0;
      next = t.1.1.1.1.1.1.0;
      versions = t.1.1.1.1.1.1.1.0;
      parts = t.1.1.1.1.1.1.1.1.0;
      plan = t.1.1.1.1.1.1.1.1.1.0;
    })
    (u32_at then text_at then schema_at then u32_at then u32_at then u32_at then u32_at
    then counted_at u32_at version_at then counted_at u32_at part_at then maybe_plan_at then end_at)
