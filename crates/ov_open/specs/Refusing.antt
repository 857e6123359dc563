-- Why a store isn't opened.
--     Refuses why d e      of a disk that was d and is e
use Rattle.std.specs.Prelude.{◌≡◌, ◌≢◌, ◌≤◌, ◌<◌, ◌⊎◌, ℕ, ◌+◌, List, [], length, take}
use Rattle.std.specs.List.{flat_map}
use Rattle.ov_host.specs.declared.area.Area.TheVariants.{Pages, Journal}
use Rattle.ov_host.specs.declared.area.Extent.{Extent}
use Rattle.ov_host.specs.Disk.{Disk, as_read}
use Rattle.ov_journal.specs.Bytes.{record_of}
use Rattle.ov_journal.specs.Journal.{Kept, AreaIs, Unmade, Foreign, OfFormat, DamagedAt, Holds}
use Rattle.ov_journal.specs.Opened.{IsMaking}
use Rattle.ov_catalog.specs.Extents.{covers, live}
use Rattle.ov_catalog.specs.Numbers.{Numbers}
use Rattle.law_image.specs.Pages.{pages_in}
use Rattle.ov_core.specs.Held.{IsReplay}
use Rattle.ov_open.specs.Replaying.{IsStopped}
use Rattle.ov_open.specs.declared.errors.OpenErr.{OpenErr}
use Rattle.ov_open.specs.declared.errors.OpenErr.TheVariants as errors

-- the place of the gate of the record that comes after these, where the first one's is at this start
abbrev pub gate_behind : ℕ → List (List ℕ) → ℕ
gate_behind start payloads = start + length (flat_map record_of payloads)

-- the journal stands, and the record whose gate is at this place is the first whose payload spells no event that follows
pub record StopsAt (place : ℕ) (journal : List ℕ) : Type 0 where
  pub kept : Kept
  pub stands : AreaIs (Holds kept) journal
  pub nth : ℕ
  pub stops : IsStopped kept.format kept.payloads nth
  pub there : place ≡ gate_behind kept.start (take nth kept.payloads)

-- the least page that two of these extents cover
pub record IsTwice (es : List Extent) (page : ℕ) : Type 0 where
  pub twice : 2 ≤ covers es page
  pub least : (other : ℕ) → other < page → covers es other ≤ 1

-- no two of them share a page
abbrev pub SharesNone : List Extent → Type 0
SharesNone es = (page : ℕ) → covers es page ≤ 1

-- of the pages that one of them covers, the least that isn't there: there are only the first so many
pub record IsMissing (es : List Extent) (there page : ℕ) : Type 0 where
  pub covered : 1 ≤ covers es page
  pub beyond : there ≤ page
  pub least : (other : ℕ) → 1 ≤ covers es other → there ≤ other → page ≤ other

-- why a page is off: two extents cover it; or else, where no page is covered twice, it isn't there
abbrev pub IsOff : List Extent → ℕ → ℕ → Type 0
IsOff es there page = IsTwice es page ⊎ (SharesNone es × IsMissing es there page)

-- the journal stands and all its payloads follow one another, and this page of their live extents is off
pub record HasPageOff (page : ℕ) (pages journal : List ℕ) : Type 0 where
  pub kept : Kept
  pub stands : AreaIs (Holds kept) journal
  pub numbers : Numbers Extent Extent
  pub replays : IsReplay kept.format kept.payloads numbers
  pub off : IsOff (live numbers) (pages_in pages) page

-- at none but Host and Memory anything was written; at Memory a journal may have been made
abbrev pub Refuses : OpenErr → Disk → Disk → Type 0
Refuses errors.Host d e = Unit {0}
Refuses errors.Memory d e = (as_read e ≡ as_read d) ⊎ (AreaIs Unmade d.journal.bytes × IsMaking d (as_read e))
Refuses errors.NotAStore d e =
    (AreaIs Foreign d.journal.bytes ⊎ (AreaIs Unmade d.journal.bytes × (d.pages.bytes ≢ []))) × (as_read e ≡ as_read d)
Refuses (errors.Format found) d e = AreaIs (OfFormat found) d.journal.bytes × (as_read e ≡ as_read d)
Refuses (errors.Damaged Journal place) d e =
    (AreaIs (DamagedAt place) d.journal.bytes ⊎ StopsAt place d.journal.bytes) × (as_read e ≡ as_read d)
Refuses (errors.Damaged Pages page) d e = HasPageOff page d.pages.bytes d.journal.bytes × (as_read e ≡ as_read d)
