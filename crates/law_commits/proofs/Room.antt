-- No dataset has more records than there are rids.
use Rattle.std.proofs.Common.{◌≤◌, ◌+◌, ◌^◌, ◌==◌, ◌&&◌, ℕ, List, inl, inr, arith}
use Rattle.std.specs.Prelude.{nat_le}
use Rattle.std.specs.List.{sum_by}
use Rattle.std.proofs.lemmas.Bool.{and_parts, cases_lt, leb-true}
use Rattle.ov_event.specs.declared.event.Event as raw
use Rattle.ov_host.specs.declared.area.Extent.{Extent}
use Rattle.ov_model.specs.Lists.{IsIn}
use Rattle.ov_records.specs.Records.{WouldPass}
use Rattle.ov_catalog.specs.Applying.{AllFollow, start_of}
use Rattle.ov_catalog.specs.Numbers.{SetNumbers, nothing_yet}
use Rattle.ov_catalog.specs.Raw.{numbers_in}
use Rattle.ov_catalog.specs.Wholes.{are_rows}
use Rattle.law_snapshots.proofs.Carrying.{one_whole}

pub few_records : (format : ℕ) (events : List raw.Event) (d : SetNumbers Extent Extent) → AllFollow (start_of format) events nothing_yet → IsIn (numbers_in events).sets d → d.records ≤ 2 ^ 31
few_records format events d follow is =
    let counts = and_parts (are_rows 0 d.versions) (sum_by (λ v. v.fresh) d.versions == d.records && nat_le d.records (2 ^ 31)) (one_whole format events d follow is).records
    in leb-true d.records (2 ^ 31) (and_parts (sum_by (λ v. v.fresh) d.versions == d.records) (nat_le d.records (2 ^ 31)) counts.1).1

pub room_left : (records fresh : ℕ) → records ≤ 2 ^ 31 → (WouldPass (records + 1) fresh → ⊥) → records + fresh ≤ 2 ^ 31
room_left records fresh few room =
    elim (cases_lt (2 ^ 31) (records + fresh)) [
      | inl above ↦ absurd (room (omega (arith, above, few), omega (arith, above)))
      | inr le ↦ le
    ]
