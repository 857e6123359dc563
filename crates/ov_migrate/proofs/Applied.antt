-- Where the event of a step applies.
use Rattle.std.proofs.Common.{◌≡◌, ◌≢◌, ◌≤◌, ◌+◌, ◌==◌, ℕ, Bool, true, false, not, ◌&&◌, List, [], ◌∷◌, min, refl, sym, ◌∙◌, ap, inl, inr}
use Rattle.std.specs.Prelude.{Some, None, IsTrue, find, nat_le, if◌then◌else◌}
use Rattle.std.specs.Option.{option_or}
use Rattle.std.proofs.lemmas.Bool.{eq-eqb, eqb-true, le-leb}
use Rattle.ov_host.specs.declared.area.Extent.{Extent}
use Rattle.ov_event.specs.declared.event.Event as raw
use Rattle.ov_event.specs.declared.event.Event.TheVariants as says
use Rattle.ov_model.specs.Lists.{IsIn}
use Rattle.ov_catalog.specs.declared.field.Field.TheVariants as off
use Rattle.ov_catalog.specs.Applying.{first_off, is_extent, of_live, off_unless, set_numbered}
use Rattle.ov_catalog.specs.Events.{current, numbered}
use Rattle.ov_catalog.specs.Numbers.{Numbers as Catalog, PlanNumbers, SetNumbers}
use Rattle.ov_catalog.specs.Planning.{copy_off, flip_off, missing, of_running}
use Rattle.ov_catalog.specs.Sources.{FlipFits, NoSet}

abbrev Set : Type 0
Set = SetNumbers Extent Extent

both : (a b : Bool) → a ≡ true → b ≡ true → (a && b) ≡ true
both true true e f = refl
both true false e f = cc
both false b e f = cc

copy_is_next : (p : PlanNumbers Extent) (count : ℕ) (segment : Extent) → 1 ≤ count → count ≡ min 256 (missing p)
    → IsTrue (not (segment.bytes == 0) && is_extent segment) → copy_off count segment p ≡ None
copy_is_next p count segment some is placed =
    ap (λ a. option_or (off_unless a off.Count) (off_unless (not (segment.bytes == 0) && is_extent segment) off.Place))
    (both (nat_le 1 count) (count == min 256 (missing p)) (le-leb 1 count some) (eq-eqb count (min 256 (missing p)) is))
    ∙ ap (λ b. option_or (off_unless true off.Count) (off_unless b off.Place)) placed

pub copy_applies : (s : Set) (p : PlanNumbers Extent) (count : ℕ) (segment : Extent) (e : raw.Event) → s.plan ≡ Some p → e ≡ says.Copy s.number count segment → 1 ≤ count
    → count ≡ min 256 (missing p) → IsTrue (not (segment.bytes == 0) && is_extent segment) → (n : Catalog Extent Extent) → set_numbered s.number n ≡ Some s → (format : ℕ) → first_off format e n ≡ None
copy_applies s p count segment e runs says_it some is placed n found format =
    ap (λ x. first_off format x n) says_it
    ∙ ap (of_live (λ (d : Set). of_running (copy_off count segment) d.plan)) found
    ∙ ap (of_running (copy_off count segment)) runs
    ∙ copy_is_next p count segment some is placed

pub flip_applies : (s : Set) (p : PlanNumbers Extent) → s.plan ≡ Some p → (current p).kept_records + p.copied ≡ (current p).size → (n : Catalog Extent Extent)
    → set_numbered s.number n ≡ Some s → (format : ℕ) → first_off format (says.Flip s.number) n ≡ None
flip_applies s p runs all n found format =
    ap (of_live (λ (d : Set). of_running flip_off d.plan)) found
    ∙ ap (of_running flip_off) runs
    ∙ ap (λ b. off_unless b off.Count) (eq-eqb ((current p).kept_records + p.copied) (current p).size all)

-- ---- its number finds a dataset

none_in : (number : ℕ) (sets : List Set) (s : Set) → NoSet number sets → IsIn sets s → s.number ≢ number
none_in number [] s none is = absurd is
none_in number (d ∷ sets) s none (inl is) = λ same. none.0 (ap (λ x. x.number) (sym is) ∙ same)
none_in number (d ∷ sets) s none (inr is) = none_in number sets s none.1 is

pub number_finds : (sets : List Set) (s : Set) → FlipFits s.number sets → IsIn sets s → find (numbered s.number) sets ≡ Some s
number_finds [] s fits is = absurd is
number_finds (d ∷ sets) s fits (inl is) =
    ap (λ b. if b then Some d else find (numbered s.number) sets) (eq-eqb d.number s.number (ap (λ x. x.number) (sym is))) ∙ ap Some (sym is)
number_finds (d ∷ sets) s fits (inr is) =
    by (d.number == s.number) (λ t. none_in s.number sets s (fits.0 (eqb-true d.number s.number t)).1 is refl) (number_finds sets s fits.1 is)
  where
    by : (b : Bool) → (b ≡ true → ⊥) → find (numbered s.number) sets ≡ Some s → (if b then Some d else find (numbered s.number) sets) ≡ Some s
    by true none rest = absurd (none refl)
    by false none rest = rest
