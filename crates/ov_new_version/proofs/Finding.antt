-- The partition with a number, and the rids that are held of it.
use Rattle.std.proofs.Common.{◌≡◌, ◌<◌, ℕ, zero, suc, true, false, ◌==◌, cond, List, [], ◌∷◌, length, map, get_or, refl, sym, ◌∙◌, ap, subst, inl, inr, arith}
use Rattle.std.specs.Prelude.{◌⊎◌, Some, None, slice_get}
use Rattle.std.proofs.lemmas.List.{get_or-map, length-map}
use Rattle.ov_host.specs.declared.area.Extent.{Extent}
use Rattle.ov_layout.specs.declared.part.Part.{Part}
use Rattle.ov_layout.specs.Parts.{part_numbered}
use Rattle.ov_value.specs.Shapes.{Shape}
use Rattle.ov_catalog.specs.declared.cvd.Cvd.{Cvd}
use Rattle.ov_catalog.specs.Sets.{part_in, set_in}
use Rattle.ov_fetch.specs.Rows.{HaveRids}
use Rattle.ov_read.specs.Agreement.{AreTogether, PartAgrees}
use Rattle.ov_read.specs.Damages.{PartDisagrees}
use Rattle.ov_read.specs.Partitions.{AreHeld, IsHeld, IsPartRead}
use Rattle.ov_read.specs.Sizes.{serves_one}
use Rattle.ov_read.proofs.Gatherings.{zip_at}

-- ---- the first partition with a number

abbrev pub nobody : Part
nobody = record { id = 0; versions = []; holds = []; records = 0; segments = [] }

-- the first k have other numbers
abbrev pub AreOthers : ℕ → List Part → ℕ → Type 0
AreOthers id parts k = (j : ℕ) → j < k → ((get_or parts j nobody).id == id) ≡ false

less_or_same : (j k : ℕ) → j < suc k → (j < k) ⊎ (j ≡ k)
less_or_same zero zero low = inr refl
less_or_same zero (suc k) low = inl (omega arith)
less_or_same (suc j) zero low = absurd (omega (arith, low))
less_or_same (suc j) (suc k) low = up (less_or_same j k (omega (arith, low)))
  where
    up : (j < k) ⊎ (j ≡ k) → (suc j < suc k) ⊎ (suc j ≡ suc k)
    up (inl less) = inl (omega (arith, less))
    up (inr same) = inr (ap suc same)

pub no_others : (id : ℕ) (parts : List Part) → AreOthers id parts 0
no_others id parts j low = absurd (omega (arith, low))

pub one_other : (id : ℕ) (parts : List Part) (k : ℕ) → AreOthers id parts k → ((get_or parts k nobody).id == id) ≡ false → AreOthers id parts (suc k)
one_other id parts k others here j low = by (less_or_same j k low)
  where
    by : (j < k) ⊎ (j ≡ k) → ((get_or parts j nobody).id == id) ≡ false
    by (inl less) = others j less
    by (inr same) = subst (λ n. ((get_or parts n nobody).id == id) ≡ false) (sym same) here

pub none_numbered : (id : ℕ) (parts : List Part) → AreOthers id parts (length parts) → part_numbered id parts ≡ None
none_numbered id [] others = refl
none_numbered id (part ∷ parts) others =
    ap (λ b. cond b (Some part) (part_numbered id parts)) (others 0 (omega arith)) ∙ none_numbered id parts (λ j low. others (suc j) (omega (arith, low)))

pub one_numbered : (id : ℕ) (parts : List Part) (k : ℕ) → k < length parts → AreOthers id parts k → ((get_or parts k nobody).id == id) ≡ true → part_numbered id parts ≡ slice_get parts k
one_numbered id [] k low others here = absurd (omega (arith, low))
one_numbered id (part ∷ parts) zero low others here = ap (λ b. cond b (Some part) (part_numbered id parts)) here
one_numbered id (part ∷ parts) (suc k) low others here =
    ap (λ b. cond b (Some part) (part_numbered id parts)) (others 0 (omega arith))
    ∙ one_numbered id parts k (omega (arith, low)) (λ j less. others (suc j) (omega (arith, less))) here

-- ---- what is held of it

pub held_of : (d : Cvd) (area vids : List ℕ) (held : List (List (List ℕ))) (k : ℕ) (part : Part) → AreHeld true area (set_in d) vids held → k < length d.layout.parts → part ≡ get_or d.layout.parts k part
    → serves_one vids (part_in part) ≡ true → HaveRids d.schema area part.segments (get_or held k [])
held_of d area vids held k part have low is served =
    let at = zip_at (IsHeld true area d.schema vids) (map part_in d.layout.parts) held k (part_in part) [] have (rw (length-map d.layout.parts part_in) low)
    in let same = get_or-map part_in d.layout.parts k part (part_in part) low ∙ ap part_in (sym is)
    in subst (λ p. IsHeld true area d.schema vids p (get_or held k [])) same at refl served

pub rids_read : (schema : Shape) (area : List ℕ) (segments : List Extent) (sets : List (List ℕ)) (all : List ℕ) → HaveRids schema area segments sets → AreTogether sets all → IsPartRead schema area segments all
rids_read schema area segments sets all have together =
    record { contents = have.contents; read = have.read; together = subst (λ s. AreTogether s all) have.sets_are together }

pub rids_off : (schema : Shape) (area : List ℕ) (segments : List Extent) (sets : List (List ℕ)) (records last : ℕ) → HaveRids schema area segments sets → (PartAgrees records last sets → ⊥)
    → PartDisagrees schema area segments records last
rids_off schema area segments sets records last have off =
    record { contents = have.contents; read = have.read; off = subst (λ s. PartAgrees records last s → ⊥) have.sets_are off }
