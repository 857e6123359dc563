-- The bytes of a store in which one dataset was made stand for a World, and so this dataset is found.
use Rattle.std.proofs.Common.{◌≡◌, ℕ, List, [], ◌∷◌, refl, inl, inr}
use Rattle.std.specs.Prelude.{Option, Some, None, codes}
use Rattle.std.specs.List.{find}
use Rattle.ov_value.specs.Spelling.{row_spelling}
use Rattle.ov_member.specs.Lists.{run}
use Rattle.ov_model.specs.World.{set_named}
use Rattle.ov_catalog.specs.Applying.{is_named}
use Rattle.ov_catalog.specs.Raw.{numbers_in}
use Rattle.ov_catalog.specs.Reached.{Reached}
use Rattle.ov_catalog.specs.Stands.{asked, seen}
use Rattle.law_image.specs.Images.{StandsAs}
use Rattle.law_image.specs.Pages.{readings_of}
use Rattle.law_image.specs.Worked.{the_event, the_image, the_pages, the_world}
use Rattle.law_image.proofs.Worked.{the_image_stands}
use Rattle.ov_read.specs.Agreement.{Numbers}
use Rattle.law_reads.specs.Sights.{IsFound}
use Rattle.law_reads.proofs.Founds.{by_name, by_no_name}

reached_in : StandsAs the_world the_image → Reached the_world
reached_in (inl new) = absurd (some_page new.pages)
  where
    some_page : the_pages ≡ [] → ⊥
    some_page e = cc
reached_in (inr made) = made.by.stands.reached

shows : seen (readings_of the_pages) (numbers_in (the_event ∷ [])) ≡ asked the_world
unfolding row_spelling run
shows = refl

abbrev people : List ℕ
people = codes "people"

is_there : set_named the_world people ≡ None → ⊥
is_there e = cc

some_of : (o : Option Numbers) → (o ≡ None → ⊥) → (s : Numbers) × (o ≡ Some s)
some_of None some = absurd (some refl)
some_of (Some s) some = (s, refl)

pub met : (s : Numbers) × IsFound the_world the_pages s (set_named the_world (codes "people"))
met =
    let it = some_of (find (is_named people) (numbers_in (the_event ∷ [])).sets) (λ none. is_there (by_no_name the_world (numbers_in (the_event ∷ [])) the_pages people shows none))
    in (it.0, by_name the_world (numbers_in (the_event ∷ [])) the_pages people it.0 (reached_in the_image_stands) shows it.1)
