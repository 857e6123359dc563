-- What events bring.
--     with_extents list segment e      the event with these extents
--     BringsRuns e list      it brings runs, and the list's has these bytes
--     IsUnplaced b      the event's extents are those of the bytes, not placed yet
--     content e list segment      what the event says, with what the bytes spell in its holes
--     Brings m w b      it is the event of a move that fits, and the bytes are what the World asks for
--     IsBare e      it brings no run
--     Asks m w e      it is the event of a move that fits, and brings no bytes
use Rattle.std.specs.Prelude.{◌≡◌, ℕ, List, [], ◌∷◌, length, Option, Some, None}
use Rattle.ov_host.specs.declared.area.Extent.{Extent}
use Rattle.ov_event.specs.declared.event.Event as raw
use Rattle.ov_event.specs.declared.event.Event.TheVariants as says
use Rattle.ov_model.specs.Moves.{Move}
use Rattle.ov_model.specs.World.{World}
use Rattle.ov_catalog.specs.Events.{Event, Init, Commit, Plan, Copy, Flip, Drop, Base, Whole, Wide}
use Rattle.ov_catalog.specs.Numbers.{each_set}
use Rattle.ov_catalog.specs.Raw.{event_in}
use Rattle.ov_catalog.specs.Reached.{Fits}
use Rattle.ov_catalog.specs.Shown.{Rids, Records}
use Rattle.ov_catalog.specs.Stands.{asked_event}
use Rattle.law_image.specs.Lists.{list_in}
use Rattle.law_image.specs.Segments.{segment_in}
use Rattle.ov_core.specs.declared.brought.Brought.{Brought}

-- bytes from a page on; where there are none, the page is 0
abbrev pub extent_at : ℕ → List ℕ → Extent
extent_at page [] = record { page = 0; bytes = 0 }
extent_at page (byte ∷ bytes) = record { page = page; bytes = length (byte ∷ bytes) }

abbrev pub with_extents : Extent → Extent → raw.Event → raw.Event
with_extents list segment (says.Init name schema rows l s) = says.Init name schema rows list segment
with_extents list segment (says.Commit cvd vid message parents rows fresh place added l s) =
    says.Commit cvd vid message parents rows fresh place added list segment
with_extents list segment (says.Plan cvd p q targets) = says.Plan cvd p q targets
with_extents list segment (says.Copy cvd count s) = says.Copy cvd count segment
with_extents list segment (says.Flip cvd) = says.Flip cvd
with_extents list segment (says.Drop cvd) = says.Drop cvd
with_extents list segment (says.Base next) = says.Base next
with_extents list segment (says.Whole said) = says.Whole said
with_extents list segment (says.Wide cvd vid message columns parents rows fresh place added l s) =
    says.Wide cvd vid message columns parents rows fresh place added list segment

-- An Init, a Commit and a Wide bring a list and a segment, a Copy a segment alone.
abbrev pub BringsRuns : raw.Event → List ℕ → Type 0
BringsRuns (says.Init name schema rows l s) list = Unit {0}
BringsRuns (says.Commit cvd vid message parents rows fresh place added l s) list = Unit {0}
BringsRuns (says.Plan cvd p q targets) list = ⊥
BringsRuns (says.Copy cvd count s) list = list ≡ []
BringsRuns (says.Flip cvd) list = ⊥
BringsRuns (says.Drop cvd) list = ⊥
BringsRuns (says.Base next) list = ⊥
BringsRuns (says.Whole said) list = ⊥
BringsRuns (says.Wide cvd vid message columns parents rows fresh place added l s) list = Unit {0}

pub record IsUnplaced (b : Brought) : Type 0 where
  pub runs : BringsRuns b.event b.list.items
  pub extents : with_extents (extent_at 0 b.list.items) (extent_at 0 b.segment.items) b.event ≡ b.event

-- what the segments of these bytes spell: of none there is no segment
abbrev pub segments_in : List ℕ → List (Option Records)
segments_in [] = []
segments_in (byte ∷ bytes) = segment_in (byte ∷ bytes) ∷ []

-- one list and one segment are not what a dataset as it stands has
abbrev pub content : Event Extent Extent → List ℕ → List ℕ → Event (Option Rids) (Option Records)
content (Init name schema rows l s) list segment = Init name schema rows (list_in list) (segments_in segment)
content (Commit cvd vid message parents rows fresh place added l s) list segment =
    Commit cvd vid message parents rows fresh place added (list_in list) (segments_in segment)
content (Plan cvd p q targets) list segment = Plan cvd p q targets
content (Copy cvd count s) list segment = Copy cvd count (segments_in segment)
content (Flip cvd) list segment = Flip cvd
content (Drop cvd) list segment = Drop cvd
content (Base next) list segment = Base next
content (Whole d) list segment = Whole (each_set (λ l. None) (λ s. None) d)
content (Wide cvd vid message columns parents rows fresh place added l s) list segment =
    Wide cvd vid message columns parents rows fresh place added (list_in list) (segments_in segment)

pub record Brings (m : Move) (w : World) (b : Brought) : Type 0 where
  pub fits : Fits m w
  pub says : Some (content (event_in b.event) b.list.items b.segment.items) ≡ asked_event m w

-- A Plan, a Flip or a Drop brings none.
abbrev pub IsBare : raw.Event → Type 0
IsBare (says.Init name schema rows list segment) = ⊥
IsBare (says.Commit cvd vid message parents rows fresh place added list segment) = ⊥
IsBare (says.Plan cvd p q targets) = Unit {0}
IsBare (says.Copy cvd count segment) = ⊥
IsBare (says.Flip cvd) = Unit {0}
IsBare (says.Drop cvd) = Unit {0}
IsBare (says.Base next) = ⊥
IsBare (says.Whole said) = ⊥
IsBare (says.Wide cvd vid message columns parents rows fresh place added list segment) = ⊥

pub record Asks (m : Move) (w : World) (e : raw.Event) : Type 0 where
  pub fits : Fits m w
  pub says : Some (content (event_in e) [] []) ≡ asked_event m w
