-- Which old partition a target of a plan takes its segments from, by rids. A target is a set of rids, and so is a segment.
--     modification wanted segments      what it costs to make the target of them
--     cheapest wanted candidates      number and cost of the candidate that costs least
--     IsChoice wanted candidates choice      what the target begins with
--     NoneIsCheap wanted candidates      none costs less than to build anew
use Rattle.std.specs.Prelude.{◌≡◌, ◌≤◌, ◌<◌, ◌^◌, ℕ, ◌+◌, Bool, nat_lt, if◌then◌else◌, List, [], ◌∷◌, length, filter, Option, Some, None}
use Rattle.std.specs.List.{list_all}
use Rattle.ov_member.specs.Rids.{has, left_out}
use Rattle.ov_model.specs.Lists.{IsIn, joined}
use Rattle.ov_model.specs.Placed.{times}
use Rattle.ov_model.specs.Plans.{cheaper}
use Rattle.ov_match.specs.declared.choosing.Candidate.{Candidate}
use Rattle.ov_match.specs.declared.choosing.Choice.{Choice}

-- no rid is in two of these segments, nor twice in one
abbrev pub AreApart : List (List ℕ) → Type 0
AreApart segments = (rid : ℕ) → times (joined segments) rid ≤ 1

-- the rids that have to come and those that have to go, to make these of a partition's segments
abbrev pub modification : List ℕ → List (List ℕ) → ℕ
modification wanted segments = length (left_out wanted (joined segments)) + length (left_out (joined segments) wanted)

-- each of its rids is wanted
abbrev pub lies_within : List ℕ → List ℕ → Bool
lies_within wanted segment = list_all (has wanted) segment

-- those segments that lie within these rids
abbrev pub kept_of : List ℕ → List (List ℕ) → List (List ℕ)
kept_of wanted segments = filter (lies_within wanted) segments

-- their places, counted from `at` on
abbrev pub places_within : ℕ → List ℕ → List (List ℕ) → List ℕ
places_within at wanted [] = []
places_within at wanted (segment ∷ segments) =
    if lies_within wanted segment then at ∷ places_within (at + 1) wanted segments else places_within (at + 1) wanted segments

-- the numbers of the candidates ascend, each above the one before
abbrev pub NumbersAscend : ℕ → List Candidate → Type 0
NumbersAscend low [] = Unit {0}
NumbersAscend low (candidate ∷ candidates) = (low < candidate.part) × NumbersAscend candidate.part candidates

-- segments of one partition
pub record AreSegments (segments : List (List ℕ)) : Type 0 where
  pub few : length segments < 2 ^ 32
  pub apart : AreApart segments

abbrev pub AllSound : List Candidate → Type 0
AllSound [] = Unit {0}
AllSound (candidate ∷ candidates) = AreSegments candidate.segments.items × AllSound candidates

abbrev pub cost : List ℕ → Candidate → ℕ
cost wanted candidate = modification wanted candidate.segments.items

-- the candidate that costs least, as its number and its cost; ties to the first
abbrev pub cheapest : List ℕ → List Candidate → Option (ℕ × ℕ)
cheapest wanted [] = None
cheapest wanted (candidate ∷ candidates) = cheaper (candidate.part, cost wanted candidate) (cheapest wanted candidates)

-- the best one, where it costs less than so much
abbrev pub below : ℕ → Option (ℕ × ℕ) → Option (ℕ × ℕ)
below size None = None
below size (Some best) = if nat_lt best.1 size then Some best else None

-- it is the one that costs least, and less than to build anew
pub record IsBest (wanted : List ℕ) (candidates : List Candidate) (candidate : Candidate) : Type 0 where
  pub listed : IsIn candidates candidate
  pub best : below (length wanted) (cheapest wanted candidates) ≡ Some (candidate.part, cost wanted candidate)

-- each of them costs at least what it takes to build anew
abbrev pub NoneIsCheap : List ℕ → List Candidate → Type 0
NoneIsCheap wanted candidates = (other : Candidate) → IsIn candidates other → length wanted ≤ cost wanted other

-- The candidate costs less than to build anew, none costs less than it, and each of a lesser number costs more.
pub record IsCheapest (wanted : List ℕ) (candidates : List Candidate) (candidate : Candidate) : Type 0 where
  pub listed : IsIn candidates candidate
  pub cheap : cost wanted candidate < length wanted
  pub least : (other : Candidate) → IsIn candidates other → cost wanted candidate ≤ cost wanted other
  pub first : (other : Candidate) → IsIn candidates other → other.part < candidate.part → cost wanted candidate < cost wanted other

-- The choice is the cheapest candidate; of its segments those are kept that lie within the target. The records that the target
-- lacks then are all but those in the kept segments.
pub record IsChoice (wanted : List ℕ) (candidates : List Candidate) (choice : Choice) : Type 0 where
  pub from : Candidate
  pub numbered : choice.part ≡ from.part
  pub cheapest : IsCheapest wanted candidates from
  pub kept : choice.kept.items ≡ places_within 0 wanted from.segments.items
  pub records : choice.records ≡ length (joined (kept_of wanted from.segments.items))
  pub missing : length (left_out wanted (joined (kept_of wanted from.segments.items))) + choice.records ≡ length wanted

-- the number of the partition that was chosen; 0 for none
abbrev pub number_of : Option Choice → ℕ
number_of None = 0
number_of (Some choice) = choice.part
