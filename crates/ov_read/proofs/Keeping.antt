-- What is kept of the partitions that were passed.
use Rattle.std.proofs.Common.{◌≡◌, ◌<◌, ◌≤◌, ◌+◌, ℕ, suc, Bool, true, false, List, [], ◌∷◌, ◌++◌, length, map, get_or, refl, ◌∙◌, subst, arith}
use Rattle.std.specs.Prelude.{◌||◌}
use Rattle.std.specs.List.{AllZip, list_any}
use Rattle.ov_host.specs.declared.area.Extent.{Extent}
use Rattle.ov_host.specs.Host.{State}
use Rattle.ov_layout.specs.declared.part.Part.{Part}
use Rattle.ov_layout.specs.Parts.{times_placed}
use Rattle.ov_member.specs.Rids.{has}
use Rattle.ov_catalog.specs.declared.cvd.Cvd.{Cvd}
use Rattle.ov_catalog.specs.Numbers.{PartNumbers}
use Rattle.ov_catalog.specs.Sets.{part_in, set_in}
use Rattle.ov_fetch.specs.Extents.{Looked, page_bytes}
use Rattle.ov_fetch.specs.Rows.{HaveRids}
use Rattle.ov_fetch.proofs.Looks.{same_pages}
use Rattle.ov_read.specs.declared.gathering.Gathered.{Gathered}
use Rattle.ov_read.specs.Gathering.{IsAdded, IsGroup, bytes_if}
use Rattle.ov_read.specs.Partitions.{AreHeld, IsHeld}
use Rattle.ov_read.specs.Sizes.{serves_one}
use Rattle.ov_read.proofs.Passed.{HasParts, goes_on}

abbrev IsPartHeld : State → Cvd → List ℕ → Part → List (List ℕ) → Type 0
IsPartHeld s d vids part sets = IsHeld s.tells (page_bytes s) d.schema vids (part_in part) sets

pub record HasPassed (before now : State) (d : Cvd) (vids : List ℕ) (lists : List (List ℕ)) (parts : List Part) (found : Gathered) (held : List (List (List ℕ))) : Type 0 where
  pub passed : HasParts before now d vids lists parts found
  pub kept : AllZip (IsPartHeld before d vids) parts held

pub none_passed : (s : State) (d : Cvd) (vids : List ℕ) (lists : List (List ℕ)) (found : Gathered) (held : List (List (List ℕ))) → HasParts s s d vids lists [] found → held ≡ [] → HasPassed s s d vids lists [] found held
none_passed s d vids lists found [] passed none = record { passed = passed; kept = tt }
none_passed s d vids lists found (x ∷ held) passed none = cc

zip_push : {A B : Type 0} (R : A → B → Type 0) (xs : List A) (ys : List B) (x : A) (y : B) → AllZip R xs ys → R x y → AllZip R (xs ++ x ∷ []) (ys ++ y ∷ [])
zip_push R [] [] x y all one = (one, tt)
zip_push R [] (b ∷ ys) x y all one = absurd all
zip_push R (a ∷ xs) [] x y all one = absurd all
zip_push R (a ∷ xs) (b ∷ ys) x y all one = (all.0, zip_push R xs ys x y all.1 one)

zip_map : {A B C : Type 0} (R : B → C → Type 0) (f : A → B) (xs : List A) (ys : List C) → AllZip (λ x. R (f x)) xs ys → AllZip R (map f xs) ys
zip_map R f [] [] all = tt
zip_map R f [] (y ∷ ys) all = absurd all
zip_map R f (x ∷ xs) [] all = absurd all
zip_map R f (x ∷ xs) (y ∷ ys) all = (all.0, zip_map R f xs ys all.1)

-- one of the versions is served
record ServesAt (versions vids : List ℕ) : Type 0 where
  place : ℕ
  low : place < length vids
  member : has versions (get_or vids place 0) ≡ true

serves_at : (versions vids : List ℕ) → list_any (λ vid. has versions vid) vids ≡ true → ServesAt versions vids
serves_at versions [] e = cc
serves_at versions (v ∷ vids) e = by (has versions v) refl e (serves_at versions vids)
  where
    by : (b : Bool) → has versions v ≡ b → (b || list_any (λ vid. has versions vid) vids) ≡ true → (list_any (λ vid. has versions vid) vids ≡ true → ServesAt versions vids) → ServesAt versions (v ∷ vids)
    by true is e rest = record { place = 0; low = omega arith; member = is }
    by false is e rest = let at = rest e in record { place = suc at.place; low = omega (arith, at.low); member = at.member }

no : false ≡ true → ⊥
no e = cc

some_served : (vids : List ℕ) (part : Part) (group : List ℕ) → IsGroup vids part.versions group → serves_one vids (part_in part) ≡ true → 0 < length group
some_served vids part [] is served = let at = serves_at part.versions vids served in absurd (no (is.all at.place at.low at.member))
some_served vids part (place ∷ group) is served = omega arith

pub passes : (s0 s1 s2 : State) (d : Cvd) (vids : List ℕ) (lists : List (List ℕ)) (parts : List Part) (k : ℕ) (part : Part) (group : List ℕ) (old new : Gathered) (held : List (List (List ℕ))) (rids : List (List ℕ))
    → k < length d.layout.parts → part ≡ get_or d.layout.parts k part → ((vid : ℕ) → times_placed vid d.layout.parts ≤ 1) → IsGroup vids part.versions group → HasPassed s0 s1 d vids lists parts old held → Looked s1 s2
    → s2.fetched ≤ s1.fetched + bytes_if group part.segments → IsAdded d.schema s1 part vids lists old new
    → (s1.tells ≡ true → 0 < length group → HaveRids d.schema (page_bytes s1) part.segments rids) → HasPassed s0 s2 d vids lists (parts ++ part ∷ []) new (held ++ rids ∷ [])
passes s0 s1 s2 d vids lists parts k part group old new held rids low is once grouped h looked fetched added read = record {
  passed = goes_on s0 s1 s2 d vids lists parts k part group old new low is once grouped h.passed looked fetched added;
  kept = zip_push (IsPartHeld s0 d vids) parts held part rids h.kept (λ told served.
      subst (λ (a : List ℕ). HaveRids d.schema a part.segments rids) (same_pages s0 s1 h.passed.looked told)
      (read (h.passed.looked.told ∙ told) (some_served vids part group grouped served)));
}

pub all_held : (s : State) (d : Cvd) (vids : List ℕ) (held : List (List (List ℕ))) → AllZip (IsPartHeld s d vids) d.layout.parts held → AreHeld s.tells (page_bytes s) (set_in d) vids held
all_held s d vids held all = zip_map (IsHeld s.tells (page_bytes s) d.schema vids) part_in d.layout.parts held all

-- looking changes nothing of it
pub held_before : (s0 s1 : State) (d : Cvd) (vids : List ℕ) (held : List (List (List ℕ))) → Looked s0 s1 → AreHeld s1.tells (page_bytes s1) (set_in d) vids held → AreHeld s0.tells (page_bytes s0) (set_in d) vids held
held_before s0 s1 d vids held looked all = each (map part_in d.layout.parts) held all
  where
    each : (parts : List (PartNumbers Extent)) (hs : List (List (List ℕ))) → AllZip (IsHeld s1.tells (page_bytes s1) d.schema vids) parts hs → AllZip (IsHeld s0.tells (page_bytes s0) d.schema vids) parts hs
    each [] [] h = tt
    each [] (y ∷ ys) h = absurd h
    each (x ∷ xs) [] h = absurd h
    each (x ∷ xs) (y ∷ ys) h =
        (λ told served. subst (λ (a : List ℕ). HaveRids d.schema a x.segments y) (same_pages s0 s1 looked told) (h.0 (looked.told ∙ told) served), each xs ys h.1)
