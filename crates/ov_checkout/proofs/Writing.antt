-- A file that grows line by line, some of it in a piece that wasn't passed on yet.
use Rattle.std.proofs.Common.{◌≡◌, ◌∙◌, ◌<◌, ◌+◌, ◌++◌, ◌∷◌, [], ℕ, List, Option, Some, None, arith, subst, ap, take, length, append_assoc, append-nil, get_or}
use Rattle.std.specs.Prelude.{map}
use Rattle.std.specs.List.{flat_map}
use Rattle.std.proofs.lemmas.List.{map_more}
use Rattle.std.proofs.lemmas.Grind.{flat_map-append}
use Rattle.ov_host.specs.Stage.{Staged}
use Rattle.ov_files.specs.Files.{Serves}
use Rattle.ov_csv.specs.Growing.{Grows}
use Rattle.ov_checkout.specs.Given.{IsOpenAs}

pub serves_more : (old mid new : Staged) → Serves old mid → Serves mid new → Serves old new
serves_more old mid new first later = record {
  told = later.told ∙ first.told;
  faults = omega (arith, first.faults, later.faults);
  misses = omega (arith, first.misses, later.misses);
}

pub open_more : (old mid new : Staged) → Serves old mid → IsOpenAs old mid → IsOpenAs mid new → IsOpenAs old new
open_more old mid new serves first later = (
  later.0,
  λ told.
      let same = first.1 told in let then = later.1 (serves.told ∙ told) in (then.0 ∙ same.0, then.1 ∙ same.1),
)

pub grows_more : (before mid after : Option (List ℕ)) (line more : List ℕ) → Grows before line mid → Grows mid more after → Grows before (line ++ more) after
grows_more None mid after line more first later = absurd first
grows_more (Some text) mid after line more first later =
    subst (λ (o : Option (List ℕ)). Grows o more after) first later ∙ ap Some (append_assoc text line more)

-- the lines up to a row, and that of the row
module _ {R Row : Type 0} (line : Row → List ℕ) (row : R → Row) where
  pub lines_more : (places : List R) (i : ℕ) (none : R) → i < length places
      → flat_map line (map row (take (i + 1) places)) ≡ flat_map line (map row (take i places)) ++ line (row (get_or places i none))
  lines_more places i none low =
      ap (flat_map line) (map_more row places i none low)
      ∙ flat_map-append line (map row (take i places)) (row (get_or places i none) ∷ [])
      ∙ ap (λ xs. flat_map line (map row (take i places)) ++ xs) (append-nil (line (row (get_or places i none))))
