-- The dataset that a catalog finds is the World's.
use Rattle.std.proofs.Common.{◌≡◌, ℕ, Bool, true, false, ◌==◌, List, [], ◌∷◌, map, cond, refl, sym, ◌∙◌, ap, subst, inl, inr}
use Rattle.std.specs.Prelude.{if◌then◌else◌, Option, Some, None, unwrap_or}
use Rattle.std.specs.List.{find}
use Rattle.std.specs.Str.{bytes_eq}
use Rattle.ov_host.specs.declared.area.Extent.{Extent}
use Rattle.ov_model.specs.Lists.{IsIn}
use Rattle.ov_model.specs.Moves as moves
use Rattle.ov_model.specs.World.{Dataset, World, first_set, named, set_named}
use Rattle.ov_catalog.specs.Applying.{is_named}
use Rattle.ov_catalog.specs.Events.{numbered}
use Rattle.ov_catalog.specs.Numbers.{Numbers as Catalog, each_set}
use Rattle.ov_catalog.specs.Reached.{Reached}
use Rattle.ov_catalog.specs.Shown.{shown_set}
use Rattle.ov_catalog.specs.Stands.{asked, seen}
use Rattle.std.proofs.lemmas.Bool.{eqb-true, eq-eqb}
use Rattle.ov_catalog.proofs.Good.{NoneNumbered, Distinct, good}
use Rattle.ov_catalog.proofs.Members.{heads, tails}
use Rattle.law_image.specs.Pages.{readings_of}
use Rattle.ov_read.specs.Agreement.{Numbers}
use Rattle.ov_read.specs.OfWorld.{seen_set, asked_set}
use Rattle.law_reads.specs.Sights.{IsFound}

pub some_is : {A : Type 0} (a b : A) → Some a ≡ Some b → a ≡ b
some_is a b e = ap (λ o. unwrap_or o a) e

abbrev pub Shows : List ℕ → Numbers → Dataset → Type 0
Shows area s d = seen_set (readings_of area) s ≡ asked_set d

abbrev AreShown : List ℕ → List Numbers → List Dataset → Type 0
AreShown area ss ds = map (each_set (readings_of area).list (readings_of area).segment) ss ≡ map (each_set Some Some) (map shown_set ds)

module _ (area : List ℕ) (p : Numbers → Bool) (q : Dataset → Bool) (same : (s : Numbers) (d : Dataset) → Shows area s d → p s ≡ q d) where
  abbrev IsOneOf : List Dataset → Numbers → Option Dataset → Type 0
  IsOneOf ds s found = (d : Dataset) × ((found ≡ Some d) × IsIn ds d × Shows area s d)

  finds : (ss : List Numbers) (ds : List Dataset) (s : Numbers) → AreShown area ss ds → find p ss ≡ Some s → IsOneOf ds s (first_set q ds)
  finds [] ds s shown is = cc
  finds (x ∷ ss) [] s shown is = cc
  finds (x ∷ ss) (d ∷ ds) s shown is =
      let first : Shows area x d = heads _ _ _ _ shown
      in by (p x) (q d) first (same x d first) is (λ later. finds ss ds s (tails _ _ _ _ shown) later)
    where
      by : (a b : Bool) → Shows area x d → a ≡ b → cond a (Some x) (find p ss) ≡ Some s → (find p ss ≡ Some s → IsOneOf ds s (first_set q ds))
          → IsOneOf (d ∷ ds) s (if b then Some d else first_set q ds)
      by true true first e is rest = (d, (refl, inl refl, subst (λ y. Shows area y d) (some_is x s is) first))
      by true false first e is rest = absurd cc
      by false true first e is rest = absurd cc
      by false false first e is rest = let it = rest is in (it.0, (it.1.0, inr it.1.1, it.1.2))

  finds_none : (ss : List Numbers) (ds : List Dataset) → AreShown area ss ds → find p ss ≡ None → first_set q ds ≡ None
  finds_none [] [] shown is = refl
  finds_none [] (d ∷ ds) shown is = cc
  finds_none (x ∷ ss) [] shown is = refl
  finds_none (x ∷ ss) (d ∷ ds) shown is =
      by (p x) (q d) (same x d (heads _ _ _ _ shown)) is (λ later. finds_none ss ds (tails _ _ _ _ shown) later)
    where
      by : (a b : Bool) → a ≡ b → cond a (Some x) (find p ss) ≡ None → (find p ss ≡ None → first_set q ds ≡ None) → (if b then Some d else first_set q ds) ≡ None
      by true b e is rest = cc
      by false true e is rest = cc
      by false false e is rest = rest is

sets_shown : (w : World) (n : Catalog Extent Extent) (area : List ℕ) → seen (readings_of area) n ≡ asked w → AreShown area n.sets w.sets
sets_shown w n area shows = ap (λ x. x.sets) shows

-- ---- the dataset of its number

not_both : (b : Bool) → b ≡ true → b ≡ false → ⊥
not_both true e f = cc
not_both false e f = cc

other_number : (number : ℕ) (ds : List Dataset) (d : Dataset) → NoneNumbered number ds → IsIn ds d → d.cvd.number ≡ number → ⊥
other_number number [] d none is same = is
other_number number (x ∷ ds) d none (inl here) same = none.0 (ap (λ y. y.cvd.number) (sym here) ∙ same)
other_number number (x ∷ ds) d none (inr later) same = other_number number ds d none.1 later same

is_first : (ds : List Dataset) (d : Dataset) → Distinct ds → IsIn ds d → first_set (moves.numbered d.cvd.number) ds ≡ Some d
is_first [] d distinct is = absurd is
is_first (x ∷ ds) d distinct is =
    by (x.cvd.number == d.cvd.number) is (λ same. eq-eqb x.cvd.number d.cvd.number same) (λ e. eqb-true x.cvd.number d.cvd.number e) (λ later. is_first ds d distinct.1 later)
  where
    by : (b : Bool) → IsIn (x ∷ ds) d → (x.cvd.number ≡ d.cvd.number → b ≡ true) → (b ≡ true → x.cvd.number ≡ d.cvd.number)
        → (IsIn ds d → first_set (moves.numbered d.cvd.number) ds ≡ Some d) → (if b then Some x else first_set (moves.numbered d.cvd.number) ds) ≡ Some d
    by true (inl here) test back rest = ap Some (sym here)
    by true (inr later) test back rest = absurd (other_number x.cvd.number ds d distinct.0 later (sym (back refl)))
    by false (inl here) test back rest = absurd (not_both false (test (ap (λ y. y.cvd.number) (sym here))) refl)
    by false (inr later) test back rest = rest later

pub first_in : (q : Dataset → Bool) (ds : List Dataset) (d : Dataset) → first_set q ds ≡ Some d → IsIn ds d
first_in q [] d e = cc
first_in q (x ∷ ds) d e = by (q x) e (λ later. first_in q ds d later)
  where
    by : (b : Bool) → (if b then Some x else first_set q ds) ≡ Some d → (first_set q ds ≡ Some d → IsIn ds d) → IsIn (x ∷ ds) d
    by true here rest = inl (sym (some_is x d here))
    by false later rest = inr (rest later)

found : (w : World) (area : List ℕ) (s : Numbers) (o : Option Dataset) → Reached w → ((d : Dataset) × ((o ≡ Some d) × IsIn w.sets d × Shows area s d)) → IsFound w area s o
found w area s o reached it =
    let number : s.number ≡ it.0.cvd.number = ap (λ x. x.number) it.1.2
    in record {
      set = it.0;
      is = it.1.0;
      of_world = record {
        reached = reached;
        among = ap (λ n. first_set (moves.numbered n) w.sets) number ∙ is_first w.sets it.0 (good w reached).distinct it.1.1;
        shows = it.1.2;
      };
    }

same_name : (area name : List ℕ) (s : Numbers) (d : Dataset) → Shows area s d → is_named name s ≡ named name d
same_name area name s d shows = ap (λ x. bytes_eq x.name name) shows

same_number : (area : List ℕ) (k : ℕ) (s : Numbers) (d : Dataset) → Shows area s d → numbered k s ≡ moves.numbered k d
same_number area k s d shows = ap (λ x. x.number == k) shows

pub by_name : (w : World) (n : Catalog Extent Extent) (area name : List ℕ) (s : Numbers) → Reached w → seen (readings_of area) n ≡ asked w
    → find (is_named name) n.sets ≡ Some s → IsFound w area s (set_named w name)
by_name w n area name s reached shows is =
    found w area s (set_named w name) reached (finds area (is_named name) (named name) (same_name area name) n.sets w.sets s (sets_shown w n area shows) is)

pub by_no_name : (w : World) (n : Catalog Extent Extent) (area name : List ℕ) → seen (readings_of area) n ≡ asked w
    → find (is_named name) n.sets ≡ None → set_named w name ≡ None
by_no_name w n area name shows is = finds_none area (is_named name) (named name) (same_name area name) n.sets w.sets (sets_shown w n area shows) is

pub by_number : (w : World) (n : Catalog Extent Extent) (area : List ℕ) (k : ℕ) (s : Numbers) → Reached w → seen (readings_of area) n ≡ asked w
    → find (numbered k) n.sets ≡ Some s → IsFound w area s (first_set (moves.numbered k) w.sets)
by_number w n area k s reached shows is =
    found w area s (first_set (moves.numbered k) w.sets) reached
    (finds area (numbered k) (moves.numbered k) (same_number area k) n.sets w.sets s (sets_shown w n area shows) is)

pub by_no_number : (w : World) (n : Catalog Extent Extent) (area : List ℕ) (k : ℕ) → seen (readings_of area) n ≡ asked w
    → find (numbered k) n.sets ≡ None → first_set (moves.numbered k) w.sets ≡ None
by_no_number w n area k shows is = finds_none area (numbered k) (moves.numbered k) (same_number area k) n.sets w.sets (sets_shown w n area shows) is
