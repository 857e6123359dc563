-- Records that were read may be written.
use Rattle.std.proofs.Common.{◌≤◌, ℕ, List, [], ◌∷◌, length, map}
use Rattle.std.specs.List.{All}
use Rattle.std.proofs.lemmas.List.Elements.{All-cons, All-nil}
use Rattle.ov_value.specs.Shapes.{Shape}
use Rattle.ov_value.specs.Rows.{Fits}
use Rattle.ov_value.specs.Spelling.{row_spelling}
use Rattle.ov_segment.specs.declared.numbered.Record.{Record}
use Rattle.ov_segment.specs.Segments.{AreRecords, Ascend}

pub records_ascend : (schema : Shape) (last : ℕ) (rs : List Record) → AreRecords schema last rs → Ascend last (map (λ r. r.rid) rs)
records_ascend schema last [] are = tt
records_ascend schema last (r ∷ rs) are = (are.0.above, are.0.below, records_ascend schema r.rid rs are.1)

pub records_fit : (schema : Shape) (last : ℕ) (rs : List Record) → AreRecords schema last rs → All (λ r. Fits schema r.row) rs
records_fit schema last [] are = All-nil (λ r. Fits schema r.row)
records_fit schema last (r ∷ rs) are = All-cons (λ r. Fits schema r.row) r rs are.0.row.fits (records_fit schema r.rid rs are.1)

pub records_small : (schema : Shape) (last : ℕ) (rs : List Record) → AreRecords schema last rs → All (λ r. length (row_spelling r.row).bytes ≤ 65536) rs
records_small schema last [] are = All-nil (λ r. length (row_spelling r.row).bytes ≤ 65536)
records_small schema last (r ∷ rs) are =
    All-cons (λ r. length (row_spelling r.row).bytes ≤ 65536) r rs are.0.small (records_small schema r.rid rs are.1)
