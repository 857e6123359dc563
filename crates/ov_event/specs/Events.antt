-- Which fields each event is read from.
use Rattle.std.specs.Prelude.{ℕ, zero, suc, List, length, Option, Some, None, ◌==◌, if◌then◌else◌}
use Rattle.ov_event.specs.declared.event.Event.{Event}
use Rattle.ov_event.specs.declared.event.Event.TheVariants.{Init, Commit, Plan, Copy, Flip, Drop, Base, Whole, Wide}
use Rattle.ov_event.specs.declared.commit.Tail.{Tail}
use Rattle.ov_event.specs.Reading.{Reading, ◌>>=◌, u8_at, u32_at, text_at, extent_at, counted_at, ◌then◌, end_at, made_at}
use Rattle.ov_event.specs.Records.{columns_at, schema_at, parents_at, place_at, target_at, dataset_at}

unfoldable pub init_at : Reading Event
init_at =
    made_at (λ t. Init t.0 t.1.0 t.1.1.0 t.1.1.1.0 t.1.1.1.1.0)
    (text_at then schema_at then u32_at then extent_at then extent_at then end_at)

-- what a commit has behind its message and its columns
unfoldable pub tail_at : Reading Tail
tail_at =
    made_at (λ t. record {
      parents = t.0;
      rows = t.1.0;
      fresh = t.1.1.0;
      place = t.1.1.1.0;
      added = t.1.1.1.1.0;
      list = t.1.1.1.1.1.0;
      segment = t.1.1.1.1.1.1.0;
    })
    (parents_at then u32_at then u32_at then place_at then u32_at then extent_at then extent_at then end_at)

unfoldable pub commit_at : Reading Event
commit_at =
    made_at (λ t. let l = t.1.1.1 in Commit t.0 t.1.0 t.1.1.0 l.parents l.rows l.fresh l.place l.added l.list l.segment)
    (u32_at then u32_at then text_at then tail_at)

unfoldable pub wide_at : Reading Event
wide_at =
    made_at (λ t. let l = t.1.1.1.1 in Wide t.0 t.1.0 t.1.1.0 t.1.1.1.0 l.parents l.rows l.fresh l.place l.added l.list l.segment)
    (u32_at then u32_at then text_at then columns_at then tail_at)

unfoldable pub plan_at : Reading Event
plan_at = made_at (λ t. Plan t.0 t.1.0 t.1.1.0 t.1.1.1.0) (u32_at then u32_at then u32_at then counted_at u32_at target_at then end_at)

unfoldable pub copy_at : Reading Event
copy_at = made_at (λ t. Copy t.0 t.1.0 t.1.1.0) (u32_at then u32_at then extent_at then end_at)

-- the fields behind a tag
unfoldable pub fields_at : ℕ → Reading Event
fields_at zero bytes = None
fields_at (suc zero) bytes = init_at bytes
fields_at (suc (suc zero)) bytes = commit_at bytes
fields_at (suc (suc (suc zero))) bytes = plan_at bytes
fields_at (suc (suc (suc (suc zero)))) bytes = copy_at bytes
fields_at (suc (suc (suc (suc (suc zero))))) bytes = made_at (λ t. Flip t.0) (u32_at then end_at) bytes
fields_at (suc (suc (suc (suc (suc (suc zero)))))) bytes = made_at (λ t. Drop t.0) (u32_at then end_at) bytes
fields_at (suc (suc (suc (suc (suc (suc (suc zero))))))) bytes = made_at (λ t. Base t.0) (u32_at then end_at) bytes
fields_at (suc (suc (suc (suc (suc (suc (suc (suc zero)))))))) bytes = made_at (λ t. Whole t.0) (dataset_at then end_at) bytes
fields_at (suc (suc (suc (suc (suc (suc (suc (suc (suc zero))))))))) bytes = wide_at bytes
fields_at (suc (suc (suc (suc (suc (suc (suc (suc (suc (suc n)))))))))) bytes = None

unfoldable pub event_at : Reading Event
event_at bytes = do
  tag ← u8_at bytes
  fields_at tag.0 tag.1

-- all of the bytes
unfoldable pub all_of : List ℕ → Option Event
all_of bytes = do
  e ← event_at bytes
  if length e.1 == 0 then Some e.0 else None
