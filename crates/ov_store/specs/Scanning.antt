-- What `scan` and `scan_all` do.
--     scan_off n name vids      why a scan is refused by numbers
--     all_off set, all_vids set      why one of all versions is, and which versions these are
--     IsUnscanned off s old new vids why      why it isn't done, where the dataset's numbers are these
use Rattle.std.specs.Prelude.{◌≡◌, ℕ, true, List, [], length, Option, Some, None, find}
use Rattle.ov_host.specs.declared.area.Area.TheVariants.{Pages}
use Rattle.ov_host.specs.declared.area.Extent.{Extent}
use Rattle.ov_host.specs.Host.{Rose, State}
use Rattle.ov_catalog.specs.Applying.{is_named}
use Rattle.ov_catalog.specs.Numbers.{SetNumbers, Numbers}
use Rattle.ov_fetch.specs.Extents.{page_bytes}
use Rattle.ov_model.specs.Records.{counted}
use Rattle.ov_read.specs.Damages.{IsDamage}
use Rattle.ov_store.specs.declared.errors.StoreErr.{StoreErr}
use Rattle.ov_store.specs.declared.errors.StoreErr.TheVariants as why
use Rattle.ov_store.specs.Refusals.{vids_off}

-- the dataset of this name
abbrev pub set_in : Numbers Extent Extent → List ℕ → Option (SetNumbers Extent Extent)
set_in n name = find (is_named name) n.sets

abbrev pub versions_off : Option (SetNumbers Extent Extent) → List ℕ → Option StoreErr
versions_off None vids = Some why.NoCvd
versions_off (Some s) vids = vids_off (length s.versions) [] vids

-- 10, then per version from the left 12, 13
abbrev pub scan_off : Numbers Extent Extent → List ℕ → List ℕ → Option StoreErr
scan_off n name vids = versions_off (set_in n name) vids

-- all versions that a dataset has, ascending
abbrev pub vids_in : SetNumbers Extent Extent → List ℕ
vids_in s = counted 1 (length s.versions)

abbrev pub all_vids : Option (SetNumbers Extent Extent) → List ℕ
all_vids None = []
all_vids (Some s) = vids_in s

-- 10, and none of a dataset's own versions is refused
abbrev pub all_off : Option (SetNumbers Extent Extent) → Option StoreErr
all_off None = Some why.NoCvd
all_off (Some s) = None

-- a damage of a scan, where the host tells its bytes
abbrev pub IsDamagedIn : Option (SetNumbers Extent Extent) → List ℕ → State → ℕ → Type 0
IsDamagedIn None vids s page = ⊥
IsDamagedIn (Some d) vids s page = s.tells ≡ true → IsDamage (page_bytes s) d vids page

-- A refusal by numbers comes before anything is read.
abbrev pub IsUnscanned : Option StoreErr → Option (SetNumbers Extent Extent) → List ℕ → State → State → StoreErr → Type 0
IsUnscanned off set vids old new why.Host = Rose old.faults new.faults
IsUnscanned off set vids old new why.Memory = Unit {0}
IsUnscanned off set vids old new (why.Damaged area at) = (area ≡ Pages) × (off ≡ None) × IsDamagedIn set vids old at
IsUnscanned off set vids old new other = (off ≡ Some other) × (new ≡ old)

-- where the store is at a World nothing is damaged
abbrev pub IsUndamaged : StoreErr → Type 0
IsUndamaged (why.Damaged area at) = ⊥
IsUndamaged _ = Unit {0}
