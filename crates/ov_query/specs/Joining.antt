-- A join on its way to its reply.
--     IsSideFound side set found      the schema of a side's dataset, where it is there and has the version; or 10, or 12
--     IsFitted join left right fitted      the join with the schemas of its sides, or its refusal by numbers
--     join_reply join left right ls rs      what a join says of these rows of sides with these schemas: 46, or else the answer
--     IsVersionRead set vid area rows      these are the version's rows as they are read from these bytes of pages
--     IsJoinReply join left right s reply      the reply of a join that the numbers don't refuse: by the rows that are read
--     IsReplyFor n user asked s reply      the reply to what a text asks
use Rattle.std.specs.Prelude.{◌≡◌, ℕ, Bool, true, false, ◌||◌, ◌==◌, nat_lt, if◌then◌else◌, List, length, Option, Some, None, Result, Ok, Err, IsOk}
use Rattle.std.specs.Option.{option_map}
use Rattle.ov_host.specs.Host.{State}
use Rattle.ov_host.specs.declared.area.Extent.{Extent}
use Rattle.ov_catalog.specs.Numbers.{Numbers}
use Rattle.ov_fetch.specs.Extents.{page_bytes}
use Rattle.ov_fetch.specs.Scans.{rows_of}
use Rattle.ov_model.specs.Answers.{Pair, answer_text}
use Rattle.ov_model.specs.Book.{Cvd, Row}
use Rattle.ov_model.specs.Joins.{join_answer, join_kinds, matches, side_in}
use Rattle.ov_model.specs.Known.{cvd_like}
use Rattle.ov_model.specs.QueryTexts.{Asked, BadByte, NoQuery, AsksQuery, AsksJoin}
use Rattle.ov_model.specs.declared.answer.Cell.{Cell}
use Rattle.ov_model.specs.declared.query.JoinQuery.{JoinQuery}
use Rattle.ov_model.specs.declared.query.Side.{Side}
use Rattle.ov_model.specs.declared.refusal.Refusal.{Refusal}
use Rattle.ov_model.specs.declared.refusal.Refusal.TheVariants as no
use Rattle.ov_model.specs.declared.reply.Reply.{Reply}
use Rattle.ov_model.specs.declared.reply.Reply.TheVariants as says
use Rattle.ov_read.specs.Found.{IsScanned}
use Rattle.ov_segment.specs.declared.numbered.Record.{Record}
use Rattle.ov_store.specs.Scanning.{set_in}
use Rattle.ov_value.specs.Shapes.{Shape}
use Rattle.ov_value.specs.declared.column.Kind.{Kind}
use Rattle.ov_join.specs.Fitting.{Fitting}
use Rattle.ov_query.specs.Queries.{IsReplyBy, Set, asked_off, join_off, known_in}
use Rattle.ov_query.specs.declared.fitting.Fitted.{Fitted}
use Rattle.ov_query.specs.declared.fitting.Fitted.TheVariants as fitted
use Rattle.ov_query.specs.declared.sides.SideFound.{SideFound}
use Rattle.ov_query.specs.declared.sides.SideFound.TheVariants as found

-- ---- a side, by the numbers

-- no version of a dataset that has so many
abbrev pub is_missing : ℕ → ℕ → Bool
is_missing count vid = vid == 0 || nat_lt count vid

abbrev pub IsSideThere : Side → Option Set → Shape → Type 0
IsSideThere side None schema = ⊥
IsSideThere side (Some set) schema = (schema ≡ set.schema) × (is_missing (length set.versions) side.vid ≡ false)

-- as the numbers know it
abbrev pub side_known : Side → Option Set → Result Cvd Refusal
side_known side set = side_in side (option_map cvd_like (option_map known_in set))

abbrev pub IsSideFound : Side → Option Set → SideFound → Type 0
IsSideFound side set (found.There schema) = IsSideThere side set schema.now
IsSideFound side set (found.Refused refusal) = side_known side set ≡ Err refusal

-- ---- a join, by the numbers

pub record IsTyped (join : JoinQuery) (left right : Option Set) (typed : Fitting) : Type 0 where
  pub is : typed.join ≡ join
  pub left_there : IsSideThere join.left left typed.left
  pub right_there : IsSideThere join.right right typed.right
  pub fits : IsOk (join_kinds join typed.left typed.right)

-- it is none that says that there is no file
pub record IsJoinRefusal (join : JoinQuery) (left right : Option Set) (refusal : Refusal) : Type 0 where
  pub first : join_off join left right ≡ Some refusal
  pub no_file : (name : List ℕ) → refusal ≡ no.NoFile name → ⊥

abbrev pub IsFitted : JoinQuery → Option Set → Option Set → Fitted → Type 0
IsFitted join left right (fitted.Typed typed) = IsTyped join left right typed
IsFitted join left right (fitted.Refused refusal) = IsJoinRefusal join left right refusal

-- ---- what it says of rows

abbrev pub answered_in : List Kind → List (List Cell) → Reply
answered_in kinds rows = says.Answer (answer_text kinds rows) (length rows)

abbrev pub pairs_reply : JoinQuery → Shape → Shape → List Kind → List Pair → Reply
pairs_reply join left right kinds pairs =
    if nat_lt 1000000 (length pairs) then says.Refused no.TooManyJoined else answered_in kinds (join_answer join left right pairs)

abbrev pub reply_by : JoinQuery → Shape → Shape → List Row → List Row → Result (List Kind) Refusal → Reply
reply_by join left right ls rs (Err refusal) = says.Refused refusal
reply_by join left right ls rs (Ok kinds) = pairs_reply join left right kinds (matches join left right ls rs)

abbrev pub join_reply : JoinQuery → Shape → Shape → List Row → List Row → Reply
join_reply join left right ls rs = reply_by join left right ls rs (join_kinds join left right)

-- ---- the rows that are read

-- whole segments have its records, which have the rids of its list, in key order
pub record IsVersionRead (set : Set) (vid : ℕ) (area : List ℕ) (rows : List Row) : Type 0 where
  pub records : List Record
  pub pick : List ℕ
  pub scanned : IsScanned area set records vid pick
  pub rows_are : rows ≡ rows_of scanned.found

-- over the rows of both sides, whose datasets have these numbers
pub record AreJoined (join : JoinQuery) (left right : Set) (area : List ℕ) (reply : Reply) : Type 0 where
  pub ls : List Row
  pub rs : List Row
  pub left_read : IsVersionRead left join.left.vid area ls
  pub right_read : IsVersionRead right join.right.vid area rs
  pub is : reply ≡ join_reply join left.schema right.schema ls rs

abbrev pub IsJoined : JoinQuery → Option Set → Option Set → List ℕ → Reply → Type 0
IsJoined join None right area reply = ⊥
IsJoined join (Some left) None area reply = ⊥
IsJoined join (Some left) (Some right) area reply = AreJoined join left right area reply

-- ---- its reply

abbrev pub IsAnswerOr46 : Reply → Type 0
IsAnswerOr46 (says.Answer text rows) = Unit {0}
IsAnswerOr46 (says.Refused refusal) = refusal ≡ no.TooManyJoined
IsAnswerOr46 _ = ⊥

-- on each host an answer or 46, and where it tells its bytes the one that the rows say
pub record IsJoinReply (join : JoinQuery) (left right : Option Set) (s : State) (reply : Reply) : Type 0 where
  pub either : IsAnswerOr46 reply
  pub joined : s.tells ≡ true → IsJoined join left right (page_bytes s) reply

abbrev pub IsJoinReplyBy : Option Refusal → JoinQuery → Option Set → Option Set → State → Reply → Type 0
IsJoinReplyBy (Some refusal) join left right s reply = reply ≡ says.Refused refusal
IsJoinReplyBy None join left right s reply = IsJoinReply join left right s reply

-- refused exactly so; else a query is answered, and a join by the rows that are read
abbrev pub IsReplyFor : Numbers Extent Extent → List ℕ → Asked → State → Reply → Type 0
IsReplyFor n user (BadByte at) s reply = IsReplyBy (asked_off n user (BadByte at)) reply
IsReplyFor n user NoQuery s reply = IsReplyBy (asked_off n user NoQuery) reply
IsReplyFor n user (AsksQuery query) s reply = IsReplyBy (asked_off n user (AsksQuery query)) reply
IsReplyFor n user (AsksJoin join) s reply =
    IsJoinReplyBy (asked_off n user (AsksJoin join)) join (set_in n join.left.cvd) (set_in n join.right.cvd) s reply
