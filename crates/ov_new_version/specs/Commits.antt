-- What a commit writes, and why it doesn't.
--     IsCommitOf a told area e list segment      this event, list and segment, from what was read of the partition that it joins
--     Refuses why a told area      why there is none: the records are counted before the partition is looked at, and all else comes after
use Rattle.std.specs.Prelude.{◌≡◌, ◌≤◌, ◌<◌, ◌+◌, ◌^◌, ℕ, Bool, true, List, [], length}
use Rattle.ov_event.specs.declared.event.Event as raw
use Rattle.ov_event.specs.declared.event.Event.TheVariants as says
use Rattle.ov_fetch.specs.declared.errors.FetchErr.TheVariants as fetch
use Rattle.ov_place.specs.declared.place_facts.Place.TheVariants.{Own}
use Rattle.ov_catalog.specs.Raw.{adding}
use Rattle.ov_core.specs.Brought.{extent_at}
use Rattle.law_commits.specs.Committing.{JoinedAgrees, added_for}
use Rattle.ov_version_bytes.specs.Next.{spelled_place}
use Rattle.ov_version_bytes.specs.Written.{IsLong, list_written, segment_written}
use Rattle.ov_new_version.specs.declared.errors.CommitErr.{CommitErr}
use Rattle.ov_new_version.specs.declared.errors.CommitErr.TheVariants.{Memory, Damaged, TooManyRecords, TooLong}
use Rattle.ov_new_version.specs.Asked.{Asked, rids_of, fresh_of, edges_of, place_of}
use Rattle.ov_new_version.specs.Joined.{joined_of, IsReadOf, RefusesJoined}

-- the event, where the partition holds these rids already
abbrev pub event_for : Asked → List ℕ → List ℕ → List ℕ → raw.Event
event_for a held list segment =
    adding a.added (says.Commit a.set.number (length a.set.versions + 1) a.message (edges_of a) (length a.rows) (fresh_of a) (spelled_place (place_of a))
    (added_for (place_of a) a.rows (rids_of a) held) (extent_at 0 list) (extent_at 0 segment))

-- the dataset's records and the new ones are not too many
abbrev pub HasRecords : Asked → Type 0
HasRecords a = a.set.records + fresh_of a ≤ 2 ^ 31

-- what was read agrees with the numbers on every host; where the host tells its bytes, it is what stands there
pub record IsCommitOf (a : Asked) (told : Bool) (area : List ℕ) (e : raw.Event) (list segment : List ℕ) : Type 0 where
  pub room : HasRecords a
  pub held : List ℕ
  pub agrees : JoinedAgrees a.set (place_of a) held
  pub own : place_of a ≡ Own → held ≡ []
  pub read : told ≡ true → IsReadOf a.set area (joined_of a) held
  pub event_is : e ≡ event_for a held list segment
  pub list_is : list ≡ list_written (rids_of a)
  pub segment_is : segment ≡ segment_written held (rids_of a) a.rows

-- the segment that it would have is too long; both have so many pages
pub record IsTooLong (a : Asked) (told : Bool) (area : List ℕ) (list_pages segment_pages : ℕ) : Type 0 where
  pub event : raw.Event
  pub list : List ℕ
  pub segment : List ℕ
  pub commit : IsCommitOf a told area event list segment
  pub long : IsLong list_pages segment_pages list segment

-- want of memory says nothing of the bytes
abbrev pub Refuses : CommitErr → Asked → Bool → List ℕ → Type 0
Refuses Memory a told area = Unit {0}
Refuses (Damaged page) a told area = HasRecords a × (told ≡ true → RefusesJoined (fetch.Damaged page) a.set area (joined_of a))
Refuses TooManyRecords a told area = 2 ^ 31 < a.set.records + fresh_of a
Refuses (TooLong list_pages segment_pages) a told area = IsTooLong a told area list_pages segment_pages
