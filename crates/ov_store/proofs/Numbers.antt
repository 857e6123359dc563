-- Of numbers that events make, a dataset that its name finds is the one that its number finds.
use Rattle.std.proofs.Common.{◌≡◌, ◌≤◌, ◌==◌, ◌+◌, ℕ, Bool, true, false, ◌&&◌, List, [], ◌∷◌, refl, sym, ◌∙◌, ap, subst, inl, inr, arith}
use Rattle.std.specs.Prelude.{Some, None, find, nat_le, if◌then◌else◌}
use Rattle.std.proofs.lemmas.Bool.{eq-eqb, leb-true, ne_eqb}
use Rattle.ov_host.specs.declared.area.Extent.{Extent}
use Rattle.ov_event.specs.declared.event.Event as raw
use Rattle.ov_model.specs.Lists.{IsIn}
use Rattle.ov_catalog.specs.Applying.{AllFollow, is_named, start_of}
use Rattle.ov_catalog.specs.Events.{numbered}
use Rattle.ov_catalog.specs.Numbers.{SetNumbers, nothing_yet}
use Rattle.ov_catalog.specs.Planning.{ascend_from}
use Rattle.ov_catalog.specs.Raw.{numbers_in}
use Rattle.law_snapshots.specs.Whole.{numbers_of}
use Rattle.law_snapshots.proofs.Carrying.{all_whole}

abbrev Set : Type 0
Set = SetNumbers Extent Extent

-- ---- numbers ascend

left_true : (a b : Bool) → (a && b) ≡ true → a ≡ true
left_true true b e = refl
left_true false b e = cc

right_true : (a b : Bool) → (a && b) ≡ true → b ≡ true
right_true true b e = e
right_true false b e = cc

from_least : (least : ℕ) (sets : List Set) (s : Set) → ascend_from least (numbers_of sets) ≡ true → IsIn sets s → least ≤ s.number
from_least least [] s rise is = absurd is
from_least least (d ∷ sets) s rise (inl is) =
    subst (λ (x : Set). least ≤ x.number) (sym is)
    (leb-true least d.number (left_true (nat_le least d.number) (ascend_from (d.number + 1) (numbers_of sets)) rise))
from_least least (d ∷ sets) s rise (inr is) =
    let here = leb-true least d.number (left_true (nat_le least d.number) (ascend_from (d.number + 1) (numbers_of sets)) rise)
    in let later = from_least (d.number + 1) sets s (right_true (nat_le least d.number) (ascend_from (d.number + 1) (numbers_of sets)) rise) is
    in omega (arith, here, later)

in_numbered : (least : ℕ) (sets : List Set) (s : Set) → ascend_from least (numbers_of sets) ≡ true → IsIn sets s → find (numbered s.number) sets ≡ Some s
in_numbered least [] s rise is = absurd is
in_numbered least (d ∷ sets) s rise (inl is) =
    let same : (d.number == s.number) ≡ true = eq-eqb d.number s.number (ap (λ x. x.number) (sym is))
    in ap (λ b. if b then Some d else find (numbered s.number) sets) same ∙ ap Some (sym is)
in_numbered least (d ∷ sets) s rise (inr is) =
    let rest = right_true (nat_le least d.number) (ascend_from (d.number + 1) (numbers_of sets)) rise
    in let above = from_least (d.number + 1) sets s rest is
    in let other : (d.number == s.number) ≡ false = ne_eqb d.number s.number (λ same. omega (arith, same, above))
    in ap (λ b. if b then Some d else find (numbered s.number) sets) other ∙ in_numbered (d.number + 1) sets s rest is

-- ---- a dataset that is found by its name

pub found_in : (name : List ℕ) (sets : List Set) (s : Set) → find (is_named name) sets ≡ Some s → IsIn sets s
found_in name [] s e = absurd cc
found_in name (d ∷ sets) s e = by (is_named name d) e (found_in name sets s)
  where
    by : (b : Bool) → (if b then Some d else find (is_named name) sets) ≡ Some s → (find (is_named name) sets ≡ Some s → IsIn sets s) → IsIn (d ∷ sets) s
    by true is later = inl (sym (ap (λ o. elim o as (λ _. Set) [ None ↦ d | Some x ↦ x ]) is))
    by false is later = inr (later is)

pub named_numbered : (format : ℕ) (events : List raw.Event) → AllFollow (start_of format) events nothing_yet → (name : List ℕ) (s : Set)
    → find (is_named name) (numbers_in events).sets ≡ Some s → find (numbered s.number) (numbers_in events).sets ≡ Some s
named_numbered format events follow name s found =
    in_numbered 1 (numbers_in events).sets s (all_whole format events follow).rise (found_in name (numbers_in events).sets s found)
