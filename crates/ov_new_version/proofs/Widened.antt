-- A dataset with columns more has as many versions and records, the same rids in its partitions, and decides on the same place.
use Rattle.std.proofs.Common.{◌≡◌, ℕ, Bool, true, false, ◌==◌, List, [], ◌∷◌, length, map, refl, sym, ◌∙◌, ap}
use Rattle.std.specs.Prelude.{if◌then◌else◌}
use Rattle.std.proofs.lemmas.List.{length-map}
use Rattle.ov_place.specs.declared.place_facts.Place.{Place}
use Rattle.ov_place.specs.declared.place_facts.Place.TheVariants.{Own, Join}
use Rattle.ov_value.specs.declared.column.Column.{Column}
use Rattle.ov_model.specs.Moves.{wide, wide_part, wide_rec, wide_version}
use Rattle.ov_model.specs.Records.{Rec, order_of, rid_in}
use Rattle.ov_model.specs.World.{Part, Dataset, held}
use Rattle.ov_model.proofs.Ordering.{order_wide}
use Rattle.ov_model.proofs.Widening.{joined_map}
use Rattle.ov_catalog.specs.Applying.{facts_of}
use Rattle.ov_catalog.specs.Shown.{held_by, shown_set}
use Rattle.ov_catalog.proofs.Widened.{rids_wide, wide_shown}
use Rattle.ov_version_bytes.specs.Next.{held_at}

pub wide_versions : (added : List Column) (d : Dataset) → length (wide added d).cvd.versions ≡ length d.cvd.versions
wide_versions [] d = refl
wide_versions (column ∷ added) d = length-map d.cvd.versions (wide_version (length (column ∷ added)))

pub wide_records : (added : List Column) (d : Dataset) → length (order_of (wide added d).cvd.versions) ≡ length (order_of d.cvd.versions)
wide_records [] d = refl
wide_records (column ∷ added) d =
    ap length (order_wide (length (column ∷ added)) d.cvd.versions) ∙ length-map (order_of d.cvd.versions) (wide_rec (length (column ∷ added)))

pub wide_facts : (added : List Column) (d : Dataset) (edge : ℕ × ℕ) → facts_of (shown_set (wide added d)) edge ≡ facts_of (shown_set d) edge
wide_facts [] d edge = refl
wide_facts (column ∷ added) d edge = ap (λ s. facts_of s edge) (wide_shown column added d)

held_wide : (n id : ℕ) (parts : List Part) → held_by (map (wide_part n) parts) id ≡ map (wide_rec n) (held_by parts id)
held_wide n id [] = refl
held_wide n id (part ∷ parts) = by (part.id == id) (held_wide n id parts)
  where
    by : (b : Bool) → held_by (map (wide_part n) parts) id ≡ map (wide_rec n) (held_by parts id)
        → (if b then held (wide_part n part) else held_by (map (wide_part n) parts) id) ≡ map (wide_rec n) (if b then held part else held_by parts id)
    by true rest = joined_map (wide_rec n) part.pieces
    by false rest = rest

at_wide : (n : ℕ) (place : Place) (parts : List Part) → held_at place (map (wide_part n) parts) ≡ map (wide_rec n) (held_at place parts)
at_wide n Own parts = refl
at_wide n (Join id) parts = held_wide n id parts

pub wide_held : (added : List Column) (d : Dataset) (place : Place)
    → map (rid_in (order_of (wide added d).cvd.versions)) (held_at place (wide added d).parts) ≡ map (rid_in (order_of d.cvd.versions)) (held_at place d.parts)
wide_held [] d place = refl
wide_held (column ∷ added) d place =
    let n : ℕ = length (column ∷ added)
    in (λ i. map (rid_in (order_wide n d.cvd.versions i)) (at_wide n place d.parts i)) ∙ rids_wide n (order_of d.cvd.versions) (held_at place d.parts)
