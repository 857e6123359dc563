-- A dataset with columns more has as many versions and partitions as before, and stores as many records.
use Rattle.std.proofs.Common.{◌≡◌, ℕ, ◌+◌, List, [], ◌∷◌, ◌++◌, length, map, refl, sym, ◌∙◌, ap}
use Rattle.std.specs.Prelude.{Option, Some, None}
use Rattle.std.specs.List.{sum}
use Rattle.std.proofs.lemmas.List.{length-append, length-map}
use Rattle.ov_value.specs.declared.column.Column.{Column}
use Rattle.ov_model.specs.Book.{Cvd}
use Rattle.ov_model.specs.Lists.{joined}
use Rattle.ov_model.specs.Moves.{wide, wide_part, wide_plan, wide_rec, wide_version}
use Rattle.ov_model.specs.Records.{Rec}
use Rattle.ov_model.specs.World.{Dataset, Part, Plan, copied_records, held, stored}

-- pieces of wider records have as many
joined_wide : (count : ℕ) (pieces : List (List Rec)) → length (joined (map (map (wide_rec count)) pieces)) ≡ length (joined pieces)
joined_wide count [] = refl
joined_wide count (piece ∷ pieces) =
    length-append (map (wide_rec count) piece) (joined (map (map (wide_rec count)) pieces))
    ∙ (rw (length-map piece (wide_rec count), joined_wide count pieces) refl)
    ∙ sym (length-append piece (joined pieces))

abbrev counts : List Part → List ℕ
counts parts = map (λ (part : Part). length (held part)) parts

parts_wide : (count : ℕ) (parts : List Part) → counts (map (wide_part count) parts) ≡ counts parts
parts_wide count [] = refl
parts_wide count (part ∷ parts) =
    ap (λ (n : ℕ). n ∷ counts (map (wide_part count) parts)) (joined_wide count part.pieces)
    ∙ ap (λ (ns : List ℕ). length (held part) ∷ ns) (parts_wide count parts)

copied_wide : (count : ℕ) (plan : Option Plan) → copied_records (wide_plan count plan) ≡ copied_records plan
copied_wide count None = refl
copied_wide count (Some plan) = joined_wide count plan.copied

-- with whatever versions
pub as_much : (count : ℕ) (cvd : Cvd) (d : Dataset)
    → stored (record d { cvd = cvd; parts = map (wide_part count) d.parts; plan = wide_plan count d.plan }) ≡ stored d
as_much count cvd d =
    ap (λ (ns : List ℕ). sum ns + copied_records (wide_plan count d.plan)) (parts_wide count d.parts)
    ∙ ap (λ (n : ℕ). sum (counts d.parts) + n) (copied_wide count d.plan)

pub as_many : (added : List Column) (d : Dataset) → length (wide added d).cvd.versions ≡ length d.cvd.versions
as_many [] d = refl
as_many (column ∷ added) d = length-map d.cvd.versions (wide_version (length (column ∷ added)))

pub as_many_parts : (added : List Column) (d : Dataset) → length (wide added d).parts ≡ length d.parts
as_many_parts [] d = refl
as_many_parts (column ∷ added) d = length-map d.parts (wide_part (length (column ∷ added)))
