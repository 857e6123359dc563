-- What is asked of a partition: of each version that it serves, those rids of its list that no version before had.
--     IsMore list extent left after old new      the rids of one more list were asked for
--     IsAsked s versions lists served left after asked      so were those of all versions that a partition serves
use Rattle.std.specs.Prelude.{◌≡◌, ◌<◌, ◌||◌, ℕ, true, false, List, [], ◌∷◌, ◌++◌, length, slice_index_or}
use Rattle.std.specs.List.{AllZip}
use Rattle.ov_host.specs.declared.area.Extent.{Extent}
use Rattle.ov_member.specs.Rids.{AreRids, has, left_out, shared}
use Rattle.ov_fetch.specs.Rows.{is_asked}
use Rattle.ov_read.specs.Agreement.{Numbers, list_of}
use Rattle.ov_copies.specs.declared.asking.Asked.{Asked}

-- no set where it would be empty
abbrev pub set_if : List ℕ → List (List ℕ)
set_if [] = []
set_if (rid ∷ rids) = (rid ∷ rids) ∷ []

abbrev pub extent_if : List ℕ → Extent → List Extent
extent_if [] extent = []
extent_if (rid ∷ rids) extent = extent ∷ []

pub record IsMore (list : List ℕ) (extent : Extent) (left after : List ℕ) (old new : Asked) : Type 0 where
  pub after_is : after ≡ left_out left list
  pub sets_are : new.sets.items ≡ old.sets.items ++ set_if (shared left list)
  pub lists_are : new.lists.items ≡ old.lists.items ++ extent_if (shared left list) extent

-- rids of the list of one of the versions, which is among those that are served, and where that list is
pub record IsPartOf (s : Numbers) (versions : List ℕ) (lists : List (List ℕ)) (served : List ℕ) (extent : Extent) (rids : List ℕ) : Type 0 where
  pub place : ℕ
  pub there : place < length versions
  pub member : has served (slice_index_or versions place 0) ≡ true
  pub extent_is : extent ≡ list_of s (slice_index_or versions place 0)
  pub within : (rid : ℕ) → has rids rid ≡ true → has (slice_index_or lists place []) rid ≡ true
  pub some : 0 < length rids

-- Each rid that was left is asked for or left still, and none is both. None is left that one of those versions has that were
-- passed, which are among those that are served.
pub record IsAsked (s : Numbers) (versions : List ℕ) (lists : List (List ℕ)) (served passed left after : List ℕ) (asked : Asked) : Type 0 where
  pub set : AreRids after
  pub split : (rid : ℕ) → has left rid ≡ (is_asked asked.sets.items rid || has after rid)
  pub apart : (rid : ℕ) → is_asked asked.sets.items rid ≡ true → has after rid ≡ false
  pub none_left : (place rid : ℕ) → place < length versions → has passed (slice_index_or versions place 0) ≡ true
      → has (slice_index_or lists place []) rid ≡ true → has after rid ≡ false
  pub each : AllZip (IsPartOf s versions lists served) asked.lists.items asked.sets.items
