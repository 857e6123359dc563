-- Why the text of a `run` by a user isn't answered, and what it reads: by the numbers of the store, the user and the text alone.
--     known_in set      what the numbers know of a dataset: its schema, and the parents of its versions
--     query_off n user text      the first refusal of a query: 40, 41, 71, 10, the first lineage's 12, per version from the left 12 and 13,
--         the first of 42 to 45; of a join: 40, 41, 71, 10 and 12 of the left side and then of the right one, the first of 42 and 43.
--         46 isn't among them: the rows decide it
--     Reading      versions of a dataset whose rows are read at once
--     query_reads n text      what is read, in its order: the versions of a query; the left side of a join, and then the right one
--     query_fetch n user text      how many bytes of pages it fetches at most; nothing where it is refused
--     IsQueryDamaged n user text s page      what it reads is damaged, and nothing refuses it
use Rattle.std.specs.Prelude.{◌≡◌, ◌⊎◌, ℕ, ◌+◌, List, [], ◌∷◌, length, map, Option, Some, None, Result, Ok, Err}
use Rattle.std.specs.Option.{option_map, option_or}
use Rattle.ov_host.specs.declared.area.Area.TheVariants.{Pages}
use Rattle.ov_host.specs.declared.area.Extent.{Extent}
use Rattle.ov_host.specs.Host.{Rose, State}
use Rattle.ov_catalog.specs.Numbers.{Numbers, SetNumbers}
use Rattle.ov_model.specs.Asking.{name_read, query_refusal}
use Rattle.ov_model.specs.Kinds.{kinds}
use Rattle.ov_model.specs.Known.{Known, cvd_like, join_off_by}
use Rattle.ov_model.specs.Lineages.{relatives}
use Rattle.ov_model.specs.QueryTexts.{Asked, BadByte, NoQuery, AsksQuery, AsksJoin, asked_of}
use Rattle.ov_model.specs.Users.{permit_names}
use Rattle.ov_model.specs.declared.query.JoinQuery.{JoinQuery}
use Rattle.ov_model.specs.declared.query.Query.{Query}
use Rattle.ov_model.specs.declared.query.Side.{Side}
use Rattle.ov_model.specs.declared.query.Src.{Src}
use Rattle.ov_model.specs.declared.query.Src.TheVariants as source
use Rattle.ov_model.specs.declared.refusal.Refusal.{Refusal}
use Rattle.ov_model.specs.declared.refusal.Refusal.TheVariants as no
use Rattle.ov_model.specs.declared.reply.Reply.{Reply}
use Rattle.ov_model.specs.declared.reply.Reply.TheVariants as says
use Rattle.ov_read.specs.Sizes.{bytes_for}
use Rattle.ov_store.specs.Scanning.{IsDamagedIn, all_vids, set_in}
use Rattle.ov_store.specs.declared.errors.StoreErr.{StoreErr}
use Rattle.ov_store.specs.declared.errors.StoreErr.TheVariants as why

abbrev pub Set : Type 0
Set = SetNumbers Extent Extent

-- ---- why it isn't answered

abbrev pub refusal_in : {X : Type 0} → Result X Refusal → Option Refusal
refusal_in (Ok x) = None
refusal_in (Err refusal) = Some refusal

-- 40, 41 and 71, which the store has no part in
abbrev pub text_off : List ℕ → Asked → Option Refusal
text_off user (BadByte at) = Some (no.BadByte at)
text_off user NoQuery = Some no.NotAQuery
text_off user (AsksQuery query) = permit_names user (name_read query.source ∷ [])
text_off user (AsksJoin join) = permit_names user (join.left.cvd ∷ join.right.cvd ∷ [])

-- of a dataset with these numbers, where it is there: 10, then 12 of the first lineage from the left, per listed version 12 and 13, then
-- 42 to 45
abbrev pub set_off : Query → Option Set → Option Refusal
set_off query None = Some (no.NoCvd (name_read query.source))
set_off query (Some set) = option_or (query_refusal (length set.versions) query) (refusal_in (kinds query set.schema))

abbrev pub known_in : Set → Known
known_in set = record { schema = set.schema; parents = map (λ v. map (λ edge. edge.0) v.parents) set.versions }

-- of the datasets of both sides: 10 and 12 of the left one, 10 and 12 of the right one, then 42 and 43
abbrev pub join_off : JoinQuery → Option Set → Option Set → Option Refusal
join_off join left right = join_off_by join (option_map known_in left) (option_map known_in right)

abbrev pub numbers_off : Numbers Extent Extent → Asked → Option Refusal
numbers_off n (BadByte at) = None
numbers_off n NoQuery = None
numbers_off n (AsksQuery query) = set_off query (set_in n (name_read query.source))
numbers_off n (AsksJoin join) = join_off join (set_in n join.left.cvd) (set_in n join.right.cvd)

abbrev pub asked_off : Numbers Extent Extent → List ℕ → Asked → Option Refusal
asked_off n user asked = option_or (text_off user asked) (numbers_off n asked)

abbrev pub query_off : Numbers Extent Extent → List ℕ → List ℕ → Option Refusal
query_off n user text = asked_off n user (asked_of text)

-- ---- what it reads

-- these versions of a dataset, where it is there
pub record Reading : Type 0 where
  pub set : Option Set
  pub vids : List ℕ

abbrev pub one_read : Option Set → List ℕ → List Reading
one_read set vids = record { set = set; vids = vids } ∷ []

-- the versions that it lists, those of a lineage, or all that the dataset has
abbrev pub vids_read : Src → Option Set → List ℕ
vids_read (source.Listed vids name) set = vids
vids_read (source.Whole name) set = all_vids set
vids_read (source.Lineage kind vid name) None = []
vids_read (source.Lineage kind vid name) (Some set) = relatives (cvd_like (known_in set)) kind vid

-- a join's sides are read one after the other, also where both are one version
abbrev pub side_read : Side → Option Set → Reading
side_read side set = record { set = set; vids = side.vid ∷ [] }

abbrev pub join_reads : JoinQuery → Option Set → Option Set → List Reading
join_reads join left right = side_read join.left left ∷ side_read join.right right ∷ []

abbrev pub asked_reads : Numbers Extent Extent → Asked → List Reading
asked_reads n (BadByte at) = []
asked_reads n NoQuery = []
asked_reads n (AsksQuery query) = one_read (set_in n (name_read query.source)) (vids_read query.source (set_in n (name_read query.source)))
asked_reads n (AsksJoin join) = join_reads join (set_in n join.left.cvd) (set_in n join.right.cvd)

abbrev pub query_reads : Numbers Extent Extent → List ℕ → List Reading
query_reads n text = asked_reads n (asked_of text)

-- the lists of the versions, and each partition that serves one of them, once
abbrev pub bytes_in : Option Set → List ℕ → ℕ
bytes_in None vids = 0
bytes_in (Some set) vids = bytes_for set vids

abbrev pub bytes_of_all : List Reading → ℕ
bytes_of_all [] = 0
bytes_of_all (r ∷ []) = bytes_in r.set r.vids
bytes_of_all (r ∷ q ∷ reads) = bytes_in r.set r.vids + bytes_of_all (q ∷ reads)

-- where nothing is refused
abbrev pub bytes_read : Option Refusal → List Reading → ℕ
bytes_read (Some refusal) reads = 0
bytes_read None reads = bytes_of_all reads

abbrev pub query_fetch : Numbers Extent Extent → List ℕ → List ℕ → ℕ
query_fetch n user text = bytes_read (query_off n user text) (query_reads n text)

-- damage of what is read: the first reading that is damaged names the page
abbrev pub AreDamaged : List Reading → State → ℕ → Type 0
AreDamaged [] s page = ⊥
AreDamaged (r ∷ []) s page = IsDamagedIn r.set r.vids s page
AreDamaged (r ∷ q ∷ reads) s page =
    IsDamagedIn r.set r.vids s page ⊎ (((other : ℕ) → IsDamagedIn r.set r.vids s other → ⊥) × AreDamaged (q ∷ reads) s page)

-- where nothing is refused
abbrev pub IsDamagedRead : Option Refusal → List Reading → State → ℕ → Type 0
IsDamagedRead off reads s page = (off ≡ None) × AreDamaged reads s page

abbrev pub IsQueryDamaged : Numbers Extent Extent → List ℕ → List ℕ → State → ℕ → Type 0
IsQueryDamaged n user text s page = IsDamagedRead (query_off n user text) (query_reads n text) s page

-- ---- what comes of it

-- refused so, or answered exactly where nothing is refused
abbrev pub IsReplyBy : Option Refusal → Reply → Type 0
IsReplyBy (Some refusal) reply = reply ≡ says.Refused refusal
IsReplyBy None (says.Answer text rows) = Unit {0}
IsReplyBy None _ = ⊥

-- Why there is no reply: for want of memory; and, only where nothing is refused, for a fault of the host or for damage of what
-- is read.
abbrev pub IsUnread : Option Refusal → List Reading → State → State → StoreErr → Type 0
IsUnread off reads old new why.Host = (off ≡ None) × Rose old.faults new.faults
IsUnread off reads old new why.Memory = Unit {0}
IsUnread off reads old new (why.Damaged area at) = (area ≡ Pages) × IsDamagedRead off reads old at
IsUnread off reads old new _ = ⊥

abbrev pub IsUnanswered : Numbers Extent Extent → List ℕ → List ℕ → State → State → StoreErr → Type 0
IsUnanswered n user text old new off = IsUnread (query_off n user text) (query_reads n text) old new off

-- no reply says that there is no file
abbrev pub IsOfNoFile : Reply → Type 0
IsOfNoFile reply = (name : List ℕ) → reply ≡ says.Refused (no.NoFile name) → ⊥
