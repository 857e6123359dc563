-- Versions as they are listed, while they are passed.
--     Sees count before seen      of each version that is there it is known whether it was listed
--     IsListed count vids listed      each is there, none twice, and these are they
use Rattle.std.specs.Prelude.{◌≡◌, ◌≤◌, ◌+◌, ℕ, Bool, false, List, [], length, take, drop, slice_index_or, None}
use Rattle.ov_model.specs.World.{is_one}
use Rattle.ov_store.specs.Refusals.{vids_off}

pub record Sees (count : ℕ) (before : List ℕ) (seen : List Bool) : Type 0 where
  pub size : length seen ≡ count + 1
  pub each : (vid : ℕ) → vid ≤ count → slice_index_or seen vid false ≡ is_one before vid

pub record IsListed (count : ℕ) (vids listed : List ℕ) : Type 0 where
  pub passed : vids_off count [] vids ≡ None
  pub listed_are : listed ≡ vids

-- so many versions from the left were passed
pub record IsPassing (count : ℕ) (vids : List ℕ) (at : ℕ) (seen : List Bool) (made : List ℕ) : Type 0 where
  pub before : List ℕ
  pub sees : Sees count before seen
  pub rest : vids_off count [] vids ≡ vids_off count before (drop at vids)
  pub made_are : made ≡ take at vids
