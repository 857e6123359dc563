-- The places of the segments that a target keeps.
use Rattle.std.proofs.Common.{◌≡◌, ◌≤◌, ℕ, suc, ◌+◌, Bool, true, false, ◌==◌, List, [], ◌∷◌, ◌++◌, length, refl, arith}
use Rattle.std.specs.Prelude.{nat_le, nat_lt, if◌then◌else◌}
use Rattle.std.proofs.lemmas.Bool.{and_from, le-leb, lt-ltb, ne_eqb}
use Rattle.std.proofs.lemmas.List.{length-append}
use Rattle.std.proofs.lemmas.List.Elements.{All-head, All-tail}
use Rattle.ov_event.specs.Fields.{IsU32}
use Rattle.std.specs.List.{AllByRecursion}
use Rattle.ov_member.specs.Rids.{AreRids}
use Rattle.ov_model.specs.Lists.{joined}
use Rattle.ov_match.specs.Matching.{AreApart, kept_of, lies_within, places_within}
use Rattle.ov_match.proofs.Counts.{missing_is}
use Rattle.ov_catalog.specs.Applying.{is_same}
use Rattle.ov_catalog.specs.Planning.{are_below, ascend_from}
use Rattle.ov_optimize.specs.Reading.{AreFilled}

pub places_ascend : (wanted : List ℕ) (least at : ℕ) (segments : List (List ℕ)) → least ≤ at → ascend_from least (places_within at wanted segments) ≡ true
places_ascend wanted least at [] low = refl
places_ascend wanted least at (segment ∷ segments) low =
    by (lies_within wanted segment) (places_ascend wanted (at + 1) (at + 1) segments (omega arith)) (places_ascend wanted least (at + 1) segments (omega (arith, low)))
  where
    by : (b : Bool) → ascend_from (at + 1) (places_within (at + 1) wanted segments) ≡ true → ascend_from least (places_within (at + 1) wanted segments) ≡ true
        → ascend_from least (if b then at ∷ places_within (at + 1) wanted segments else places_within (at + 1) wanted segments) ≡ true
    by true next same = and_from (nat_le least at) (ascend_from (at + 1) (places_within (at + 1) wanted segments)) (le-leb least at low) next
    by false next same = same

pub places_below : (wanted : List ℕ) (at limit : ℕ) (segments : List (List ℕ)) → at + length segments ≤ limit → are_below limit (places_within at wanted segments) ≡ true
places_below wanted at limit [] low = refl
places_below wanted at limit (segment ∷ segments) low =
    by (lies_within wanted segment) (places_below wanted (at + 1) limit segments (omega (arith, low)))
  where
    by : (b : Bool) → are_below limit (places_within (at + 1) wanted segments) ≡ true
        → are_below limit (if b then at ∷ places_within (at + 1) wanted segments else places_within (at + 1) wanted segments) ≡ true
    by true rest = and_from (nat_lt at limit) (are_below limit (places_within (at + 1) wanted segments)) (lt-ltb at limit (omega (arith, low))) rest
    by false rest = rest

pub places_few : (wanted : List ℕ) (at : ℕ) (segments : List (List ℕ)) → length (places_within at wanted segments) ≤ length segments
places_few wanted at [] = omega arith
places_few wanted at (segment ∷ segments) = by (lies_within wanted segment) (places_few wanted (at + 1) segments)
  where
    by : (b : Bool) → length (places_within (at + 1) wanted segments) ≤ length segments
        → length (if b then at ∷ places_within (at + 1) wanted segments else places_within (at + 1) wanted segments) ≤ suc (length segments)
    by true rest = omega (arith, rest)
    by false rest = omega (arith, rest)

pub places_fit : (wanted : List ℕ) (at : ℕ) (segments : List (List ℕ)) → IsU32 (at + length segments) → AllByRecursion IsU32 (places_within at wanted segments)
places_fit wanted at [] low = tt
places_fit wanted at (segment ∷ segments) low = by (lies_within wanted segment) (places_fit wanted (at + 1) segments (omega (arith, low)))
  where
    by : (b : Bool) → AllByRecursion IsU32 (places_within (at + 1) wanted segments)
        → AllByRecursion IsU32 (if b then at ∷ places_within (at + 1) wanted segments else places_within (at + 1) wanted segments)
    by true rest = (omega (arith, low), rest)
    by false rest = rest

-- places are kept exactly where records are, since each segment has one
pub kept_both : (wanted : List ℕ) (at : ℕ) (segments : List (List ℕ)) → AreFilled segments
    → is_same (length (places_within at wanted segments) == 0) (length (joined (kept_of wanted segments)) == 0) ≡ true
kept_both wanted at [] filled = refl
kept_both wanted at (segment ∷ segments) filled =
    by (lies_within wanted segment) (kept_both wanted (at + 1) segments (All-tail (λ (r : List ℕ). 1 ≤ length r) segment segments filled))
  where
    kept : (length (at ∷ places_within (at + 1) wanted segments) == 0) ≡ false
    kept = ne_eqb (length (at ∷ places_within (at + 1) wanted segments)) 0 (λ e. absurd (omega (arith, e)))

    some : (length (segment ++ joined (kept_of wanted segments)) == 0) ≡ false
    some =
        ne_eqb (length (segment ++ joined (kept_of wanted segments))) 0
        (λ e. absurd (omega (arith, e, length-append segment (joined (kept_of wanted segments)), All-head (λ (r : List ℕ). 1 ≤ length r) segment segments filled)))

    by : (b : Bool) → is_same (length (places_within (at + 1) wanted segments) == 0) (length (joined (kept_of wanted segments)) == 0) ≡ true
        → is_same (length (if b then at ∷ places_within (at + 1) wanted segments else places_within (at + 1) wanted segments) == 0)
        (length (joined (if b then segment ∷ kept_of wanted segments else kept_of wanted segments)) == 0) ≡ true
    by true rest = λ i. is_same (kept i) (some i)
    by false rest = rest

pub kept_most : (wanted : List ℕ) (segments : List (List ℕ)) → AreRids wanted → AreApart segments → length (joined (kept_of wanted segments)) ≤ length wanted
kept_most wanted segments rids apart = omega (arith, missing_is wanted segments rids apart)
