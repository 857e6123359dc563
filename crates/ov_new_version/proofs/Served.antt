-- The partition that is joined serves a parent.
use Rattle.std.proofs.Common.{◌≡◌, ◌≢◌, ℕ, Bool, true, false, ◌||◌, cond, List, [], ◌∷◌, length, map, refl, sym, ◌∙◌, ap, subst, inl, inr}
use Rattle.std.specs.Prelude.{Option, Some, None}
use Rattle.std.specs.List.{find, list_any, zip}
use Rattle.std.proofs.lemmas.List.{length-map}
use Rattle.ov_graph.specs.Versions.{heaviest}
use Rattle.ov_host.specs.declared.area.Extent.{Extent}
use Rattle.ov_place.specs.declared.place_facts.Place.{Place}
use Rattle.ov_place.specs.declared.place_facts.Place.TheVariants.{Own, Join}
use Rattle.ov_model.specs.Lists.{IsIn}
use Rattle.ov_records.specs.Records.{lists_of, pairs_of, shared}
use Rattle.ov_catalog.specs.Applying.{part_serving}
use Rattle.ov_catalog.specs.Numbers.{PartNumbers}
use Rattle.law_commits.proofs.Same.{tree_parent}
use Rattle.ov_read.specs.Agreement.{Numbers, serves}
use Rattle.ov_read.specs.Partitions.{AreHeld}
use Rattle.ov_read.specs.Sizes.{serves_one}
use Rattle.ov_new_version.specs.Asked.{Asked, edges_of, place_of, rids_of}
use Rattle.ov_new_version.specs.Joined.{if_joined, joined_of}
use Rattle.ov_new_version.specs.Held.{IsServed}

inside : {X : Type 0} (x y : X) → Some x ≡ Some y → y ≡ x
inside x y e = cc

found : {X : Type 0} (p : X → Bool) (xs : List X) (y : X) → find p xs ≡ Some y → IsIn xs y × (p y ≡ true)
found p [] y is = absurd cc
found p (x ∷ xs) y is = by (p x) refl is (found p xs y)
  where
    by : (b : Bool) → p x ≡ b → cond b (Some x) (find p xs) ≡ Some y → (find p xs ≡ Some y → IsIn xs y × (p y ≡ true)) → IsIn (x ∷ xs) y × (p y ≡ true)
    by true e same rest = let here = inside x y same in (inl here, ap p here ∙ e)
    by false e same rest = let it = rest same in (inr it.0, it.1)

or_true : (b : Bool) → (b || true) ≡ true
or_true true = refl
or_true false = refl

any_in : {X : Type 0} (p : X → Bool) (xs : List X) (y : X) → IsIn xs y → p y ≡ true → list_any p xs ≡ true
any_in p [] y is holds = absurd is
any_in p (x ∷ xs) y (inl same) holds = ap (λ b. b || list_any p xs) (ap p (sym same) ∙ holds)
any_in p (x ∷ xs) y (inr later) holds = ap (λ b. p x || b) (any_in p xs y later holds) ∙ or_true (p x)

joined_serving : (place : Place) (o : Option (PartNumbers Extent)) (part : PartNumbers Extent) → if_joined place o ≡ Some part → o ≡ Some part
joined_serving Own o part is = absurd cc
joined_serving (Join id) o part is = is

pub joined_serves : (a : Asked) (part : PartNumbers Extent) → a.vids ≢ [] → length a.parents ≡ length a.vids → joined_of a ≡ Some part → serves_one a.vids part ≡ true
joined_serves a part some same is =
    let sharing = shared (zip (rids_of a) a.rows)
    in let long : length (map sharing (lists_of a.parents)) ≡ length a.vids =
    length-map (lists_of a.parents) sharing ∙ length-map a.parents pairs_of ∙ same
    in let vid : ℕ = (heaviest (edges_of a)).0
    in let it = found (λ p. serves vid p) a.set.parts part (joined_serving (place_of a) (part_serving a.set.parts vid) part is)
    in any_in (λ v. serves v part) a.vids vid (tree_parent a.vids (map sharing (lists_of a.parents)) some long) it.1

-- or there is none
pub joined_served : (a : Asked) (o : Option (PartNumbers Extent)) → a.vids ≢ [] → length a.parents ≡ length a.vids → o ≡ joined_of a → IsServed a.vids o
joined_served a None some same is = tt
joined_served a (Some part) some same is = joined_serves a part some same (sym is)

pub if_told : (told : Bool) (area : List ℕ) (s : Numbers) (vids : List ℕ) (held : List (List (List ℕ))) → AreHeld told area s vids held → told ≡ true → AreHeld true area s vids held
if_told told area s vids held have tells = subst (λ t. AreHeld t area s vids held) tells have
