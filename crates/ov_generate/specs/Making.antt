-- A version of a generated dataset, and the whole of one: how a call that makes it ends.
--     IsKnown n name      the numbers have the dataset of this name, of generated rows
--     IsNotGrown, IsUnread      the rows of a parent, as they are read, aren't those of a generated version; why they aren't given
--     AreRowsRead set parent s rows      the rows of a version, as a scan finds them
--     IsWishOf x count vid rows wish      what a version's commit asks for, of its parent's rows and what is drawn
--     HasDamage held name x count vid s page      what making a version finds damaged, where `x` is what is drawn from
--     IsUnmoved m w ..      why a move wasn't made, where the store is at a World
--     IsWanted wanted      what may be asked for
--     Ends name d s w ..      a command that isn't done is refused, or broken off
use Rattle.std.specs.Prelude.{◌≡◌, ◌⊎◌, ◌≤◌, ◌+◌, ◌-◌, ℕ, true, List, [], ◌∷◌, Option, Some, None, codes}
use Rattle.ov_host.specs.declared.area.Area.TheVariants.{Pages}
use Rattle.ov_host.specs.declared.area.Extent.{Extent}
use Rattle.ov_host.specs.Host.{State}
use Rattle.ov_host.specs.Stops.{Only}
use Rattle.ov_catalog.specs.Numbers.{Numbers}
use Rattle.ov_core.specs.AtWorld.{IsEither}
use Rattle.ov_core.specs.Held.{Held}
use Rattle.ov_fetch.specs.Extents.{Looked, page_bytes}
use Rattle.ov_fetch.specs.Scans.{rows_at}
use Rattle.ov_gen.specs.Versions.{IsGrown}
use Rattle.ov_model.specs.Act.{Deed, Session}
use Rattle.ov_model.specs.Book.{Row}
use Rattle.ov_model.specs.Generator.{child_of, generated_schema, parent_drawn}
use Rattle.ov_model.specs.Moves.{Move, moved}
use Rattle.ov_model.specs.World.{World}
use Rattle.ov_model.specs.declared.refusal.Refusal.{Refusal}
use Rattle.ov_model.specs.declared.reply.Reply.TheVariants as says
use Rattle.ov_read.specs.Agreement.{list_of}
use Rattle.ov_read.specs.Found.{IsScanned}
use Rattle.ov_segment.specs.declared.numbered.Record.{Record}
use Rattle.ov_store.specs.Committing.{IsDamagedAt, Set, Wish}
use Rattle.ov_store.specs.Refusals.{refusal_of}
use Rattle.ov_store.specs.Scanning.{IsDamagedIn, IsUnscanned, scan_off, set_in}
use Rattle.ov_store.specs.declared.errors.StoreErr.{StoreErr}
use Rattle.ov_store.specs.declared.errors.StoreErr.TheVariants as why
use Rattle.ov_generate.specs.declared.generating.Wanted.{Wanted}
use Rattle.law_room.specs.Room.{Entry, IsWithin, LacksRecord, LacksRun, Made}
use Rattle.law_runs.specs.Serving.{Breaks, Does}
use Rattle.law_runs.specs.Stops.{printed_of}

pub record IsKnown (n : Numbers Extent Extent) (name : List ℕ) : Type 0 where
  pub set : Set
  pub named : set_in n name ≡ Some set
  pub schema_is : set.schema ≡ generated_schema

pub record IsWanted (wanted : Wanted) : Type 0 where
  pub some_rows : 1 ≤ wanted.rows
  pub some_versions : 1 ≤ wanted.versions
  pub few_versions : wanted.versions ≤ 65535
  pub few : wanted.rows + wanted.versions ≤ 1000000

-- ---- a parent's rows

-- a scan of the version finds these rows, and they aren't those of a version before `vid`
pub record IsNotGrown (area : List ℕ) (s : Set) (parent count vid page : ℕ) : Type 0 where
  pub records : List Record
  pub pick : List ℕ
  pub scanned : IsScanned area s records parent pick
  pub off : IsGrown count vid (rows_at records pick) → ⊥
  pub page_is : page ≡ (list_of s parent).page

-- where the host tells its bytes
abbrev pub IsNotGrownIn : Option Set → ℕ → ℕ → ℕ → State → ℕ → Type 0
IsNotGrownIn None parent count vid s page = ⊥
IsNotGrownIn (Some set) parent count vid s page = s.tells ≡ true → IsNotGrown (page_bytes s) set parent count vid page

-- a scan is refused or damaged, or what it finds isn't grown
abbrev pub IsUnread : Held → List ℕ → ℕ → ℕ → ℕ → State → State → StoreErr → Type 0
IsUnread held name parent count vid old new off =
    IsUnscanned (scan_off held.numbers name (parent ∷ [])) (set_in held.numbers name) (parent ∷ []) old new off
    ⊎ ((page : ℕ) × (off ≡ why.Damaged Pages page) × IsNotGrownIn (set_in held.numbers name) parent count vid old page)

-- where the host tells its bytes
pub record AreScanned (area : List ℕ) (s : Set) (parent : ℕ) (rows : List Row) : Type 0 where
  pub records : List Record
  pub pick : List ℕ
  pub scanned : IsScanned area s records parent pick
  pub rows_are : rows ≡ rows_at records pick

abbrev pub AreRowsRead : Set → ℕ → State → List Row → Type 0
AreRowsRead set parent s rows = s.tells ≡ true → AreScanned (page_bytes s) set parent rows

-- the parent is drawn first, and then what becomes of its rows
pub record IsWishOf (x count vid : ℕ) (rows : List Row) (wish : Wish) : Type 0 where
  pub vids_are : wish.vids ≡ (parent_drawn (vid - 1) x).is ∷ []
  pub message_is : wish.message ≡ codes "gen"
  pub none_added : wish.added ≡ []
  pub rows_are : wish.rows ≡ (child_of count vid (parent_drawn (vid - 1) x).state rows).is

-- ---- damage

-- what the commit of a version reads
pub record HasDamagedCommit (set : Set) (x count vid : ℕ) (s : State) (page : ℕ) : Type 0 where
  pub rows : List Row
  pub read : AreRowsRead set (parent_drawn (vid - 1) x).is s rows
  pub grown : IsGrown count vid rows
  pub wish : Wish
  pub asked : IsWishOf x count vid rows wish
  pub damaged : IsDamagedAt set wish s page

-- a scan of the parent, or its rows aren't those that were made, or what the commit reads
abbrev pub IsDamagedOf : List ℕ → Held → Set → ℕ → ℕ → ℕ → State → ℕ → Type 0
IsDamagedOf name held set x count vid s page =
    IsDamagedIn (set_in held.numbers name) ((parent_drawn (vid - 1) x).is ∷ []) s page
    ⊎ (IsNotGrownIn (set_in held.numbers name) (parent_drawn (vid - 1) x).is count vid s page
    ⊎ HasDamagedCommit set x count vid s page)

-- at a state at which the host was at most looked at since
pub record HasDamage (held : Held) (name : List ℕ) (x count vid : ℕ) (s : State) (page : ℕ) : Type 0 where
  pub known : IsKnown held.numbers name
  pub before : State
  pub looked : Looked before s
  pub damaged : IsDamagedOf name held known.set x count vid before page

-- damage of the pages, at a page of which this holds
abbrev pub IsDamageOf : (ℕ → Type 0) → StoreErr → Type 0
IsDamageOf P (why.Damaged area at) = (area ≡ Pages) × P at
IsDamageOf P _ = Unit {0}

-- ---- a move

-- Nothing is damaged there, and nothing but room may be wanting. A fault of the host leaves the World before the move or after it.
abbrev pub IsUnmoved : Move → World → Held → State → State → StoreErr → Type 0
IsUnmoved m w held old new why.Host = Only old.tape new.tape (IsEither w (moved m w) (printed_of old))
IsUnmoved m w held old new why.Memory = Unit {0}
IsUnmoved m w held old new (why.Full pages) = (entry : Entry) (past : List Made) → IsWithin entry past held → LacksRun entry past m w pages
IsUnmoved m w held old new why.JournalFull = (entry : Entry) (past : List Made) → IsWithin entry past held → LacksRecord entry past m w
IsUnmoved m w held old new _ = ⊥

-- ---- a command

abbrev pub EndsBy : Option Refusal → Deed → Session → World → Held → Held → State → State → Type 0
EndsBy None d s w before now old new = Breaks d s w old new
EndsBy (Some refusal) d s w before now old new = Does d s s w (says.Refused refusal) before now old new

abbrev pub Ends : List ℕ → Deed → Session → World → Held → Held → State → State → StoreErr → Type 0
Ends name d s w before now old new off = EndsBy (refusal_of name off) d s w before now old new
