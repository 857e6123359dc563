-- Why a version isn't committed.
use Rattle.std.proofs.Common.{◌≡◌, ℕ, Bool, true, List, [], sym, subst}
use Rattle.std.specs.Prelude.{Option, Result, Ok, Err, MatchResult, IsErr, IsErrAnd}
use Rattle.std.proofs.lemmas.Bool.{true≢false}
use Rattle.ov_fetch.specs.declared.errors.FetchErr.TheVariants as fetch
use Rattle.ov_host.specs.declared.area.Extent.{Extent}
use Rattle.ov_place.specs.declared.place_facts.Place.{Place}
use Rattle.ov_place.specs.declared.place_facts.Place.TheVariants.{Own}
use Rattle.ov_records.specs.declared.outcome.Assigned.{Assigned}
use Rattle.ov_catalog.specs.Numbers.{PartNumbers}
use Rattle.law_commits.specs.Committing.{JoinedAgrees}
use Rattle.ov_version_bytes.specs.Written.{IsWhy}
use Rattle.ov_version_bytes.specs.declared.write_err.WriteErr.{WriteErr}
use Rattle.ov_version_bytes.specs.declared.write_err.WriteErr.TheVariants as write
use Rattle.ov_new_version.specs.Asked.{Asked}
use Rattle.ov_new_version.specs.Commits.{HasRecords, Refuses}
use Rattle.ov_new_version.specs.Errors.{of_write}
use Rattle.ov_new_version.specs.Held.{IsOfHeld, RefusesHeld}
use Rattle.ov_new_version.specs.declared.errors.CommitErr.{CommitErr}
use Rattle.ov_new_version.specs.declared.errors.CommitErr.TheVariants.{Memory, Damaged, TooManyRecords, TooLong}
use Rattle.ov_new_version.specs.Joined.{joined_of, IsReadOf, RefusesJoined}
use Rattle.ov_new_version.proofs.Making.{IsMade, too_long}

pub err_match : {X E : Type 0} (P : X → Type 0) (Q : E → Type 0) (r : Result X E) (e : E) → IsErr r × IsErrAnd r (λ x. x ≡ e) → Q e → MatchResult r P Q
err_match P Q (Ok x) e h q = absurd (true≢false (sym h.0))
err_match P Q (Err x) e h q = subst Q (sym h.1) q

pub not_held : (a : Asked) → HasRecords a → (told : Bool) (area : List ℕ) (part : Option (PartNumbers Extent)) (e : CommitErr) → part ≡ joined_of a → (told ≡ true → RefusesHeld e a.set area part)
    → IsOfHeld e → Refuses e a told area
not_held a room told area part Memory is why of_held = tt
not_held a room told area part (Damaged page) is why of_held = (room, λ tells. subst (RefusesJoined (fetch.Damaged page) a.set area) is (why tells))
not_held a room told area part TooManyRecords is why of_held = absurd of_held
not_held a room told area part (TooLong list_pages segment_pages) is why of_held = absurd of_held

pub not_written : (a : Asked) (made : Assigned) (place : Place) (is : IsMade a made place) (held : List ℕ) (own : place ≡ Own → held ≡ []) → HasRecords a → (told : Bool) (area : List ℕ) (e : WriteErr)
    → JoinedAgrees a.set place held → (told ≡ true → IsReadOf a.set area (joined_of a) held) → IsWhy e held made.rids a.rows → Refuses (of_write e) a told area
not_written a made place is held own room told area write.Memory agrees read why = tt
not_written a made place is held own room told area (write.TooLong list_pages segment_pages) agrees read why =
    too_long a made place is held own room told area list_pages segment_pages agrees read why
