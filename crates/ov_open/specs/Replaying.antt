-- What a journal's payloads make of an empty catalog, and where they stop. `IsReplay` stands in `ov_core`.
--     IsStopped format payloads nth      in a journal of this format those before it do, and the payload at this place spells no event that
--         follows
use Rattle.std.specs.Prelude.{◌≡◌, ◌<◌, ℕ, List, [], length, take, slice_index_or, None}
use Rattle.ov_event.specs.declared.event.Event.{Event}
use Rattle.ov_event.specs.Spelling.{IsEvent, spelling}
use Rattle.ov_host.specs.declared.area.Extent.{Extent}
use Rattle.ov_catalog.specs.Applying.{Reach, Stage, AtStart, off_at, reach_after, reach_behind}
use Rattle.ov_catalog.specs.Events.{applied}
use Rattle.ov_catalog.specs.Numbers.{Numbers}
use Rattle.ov_catalog.specs.Raw.{event_in}
use Rattle.ov_core.specs.Held.{IsReplay}
use Rattle.ov_open.specs.declared.replaying.ReplayErr.{ReplayErr}
use Rattle.ov_open.specs.declared.replaying.ReplayErr.TheVariants.{Damaged, Memory}

-- the bytes spell an event that follows these numbers, behind so much of its half
abbrev pub Follows : List ℕ → Stage → Numbers Extent Extent → Type 0
Follows bytes stage n = (e : Event) × IsEvent e × (bytes ≡ spelling e) × (off_at stage e n ≡ None)

pub record IsStopped (format : ℕ) (payloads : List (List ℕ)) (nth : ℕ) : Type 0 where
  pub there : nth < length payloads
  pub before : Numbers Extent Extent
  pub replayed : IsReplay format (take nth payloads) before
  pub stops : Follows (slice_index_or payloads nth []) (record { format = format; reach = reach_behind AtStart replayed.events }) before → ⊥

-- want of memory has no cause in the payloads
abbrev pub RefusesPayloads : ℕ → List (List ℕ) → ReplayErr → Type 0
RefusesPayloads format payloads (Damaged nth) = IsStopped format payloads nth
RefusesPayloads format payloads Memory = Unit {0}

-- the payloads replay to these numbers, and leave their half here
pub record HasCome (format : ℕ) (payloads : List (List ℕ)) (reach : Reach) (n : Numbers Extent Extent) : Type 0 where
  pub replayed : IsReplay format payloads n
  pub reach_is : reach ≡ reach_behind AtStart replayed.events

-- the numbers with the event that these bytes spell, and how far the half has come with it
pub record IsTaken (bytes : List ℕ) (format : ℕ) (reach : Reach) (old new : Numbers Extent Extent) (later : Reach) : Type 0 where
  pub event : Event
  pub is : IsEvent event
  pub written : bytes ≡ spelling event
  pub applies : off_at (record { format = format; reach = reach }) event old ≡ None
  pub numbers : new ≡ applied (event_in event) old
  pub reach_is : later ≡ reach_after event reach

-- why they aren't taken, where they are the payload at this place
abbrev pub IsLeft : List ℕ → ℕ → Stage → Numbers Extent Extent → ReplayErr → Type 0
IsLeft bytes nth stage n (Damaged at) = (at ≡ nth) × (Follows bytes stage n → ⊥)
IsLeft bytes nth stage n Memory = Unit {0}
