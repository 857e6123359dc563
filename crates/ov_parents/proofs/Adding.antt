-- A dataset's number of records is the sum of what its versions brought.
use Rattle.std.proofs.Common.{◌≡◌, ◌^◌, ◌==◌, ◌&&◌, ℕ, List, arith}
use Rattle.std.specs.Prelude.{nat_le}
use Rattle.std.specs.List.{sum_by}
use Rattle.std.proofs.lemmas.Bool.{and_parts, eqb-true}
use Rattle.std.proofs.lemmas.List.Sums.{sum_by-take-le}
use Rattle.ov_event.specs.declared.event.Event as raw
use Rattle.ov_model.specs.Lists.{IsIn}
use Rattle.ov_catalog.specs.Applying.{AllFollow, start_of}
use Rattle.ov_catalog.specs.Numbers.{nothing_yet}
use Rattle.ov_catalog.specs.Raw.{numbers_in}
use Rattle.ov_catalog.specs.Wholes.{are_rows}
use Rattle.law_snapshots.proofs.Carrying.{one_whole}
use Rattle.ov_read.specs.Agreement.{Numbers}
use Rattle.ov_parents.specs.Parents.{IsCounted}

sums : (format : ℕ) (events : List raw.Event) (s : Numbers) → AllFollow (start_of format) events nothing_yet → IsIn (numbers_in events).sets s → sum_by (λ v. v.fresh) s.versions ≡ s.records
sums format events s follow is =
    let counts = and_parts (are_rows 0 s.versions) (sum_by (λ v. v.fresh) s.versions == s.records && nat_le s.records (2 ^ 31)) (one_whole format events s follow is).records
    in eqb-true (sum_by (λ v. v.fresh) s.versions) s.records (and_parts (sum_by (λ v. v.fresh) s.versions == s.records) (nat_le s.records (2 ^ 31)) counts.1).0

pub all_counted : (format : ℕ) (events : List raw.Event) (s : Numbers) → AllFollow (start_of format) events nothing_yet → IsIn (numbers_in events).sets s → IsCounted s
all_counted format events s follow is = λ vid. omega (arith, sum_by-take-le (λ v. v.fresh) s.versions vid, sums format events s follow is)
