-- A join that the numbers don't refuse, and its reply.
use Rattle.std.proofs.Common.{◌≡◌, ◌∙◌, ℕ, Bool, true, false, List, Some, None, length, refl, sym, ap, ap₂, subst}
use Rattle.std.specs.Prelude.{IfOk, OnOk, Option, Result, Ok, Err, IsOk, nat_lt, if◌then◌else◌}
use Rattle.std.specs.Option.{option_map}
use Rattle.ov_host.specs.Host.{State}
use Rattle.ov_core.specs.AtWorld.{IsAtWorld}
use Rattle.ov_core.specs.Held.{Held}
use Rattle.ov_fetch.proofs.Looks.{same_pages}
use Rattle.ov_fetch.specs.Extents.{Looked, page_bytes}
use Rattle.ov_model.proofs.KnownBy.{join-refused}
use Rattle.ov_model.specs.Act.{Session, Deed, refuses, tells}
use Rattle.ov_model.specs.Answers.{Pair}
use Rattle.ov_model.specs.Book.{Cvd, Row}
use Rattle.ov_model.specs.Joins.{join_answer, join_by, join_deed, join_kinds, join_over, joined_rows, matches, side_in, side_of, told}
use Rattle.ov_model.specs.Known.{join_off_by, known_of}
use Rattle.ov_model.specs.Records.{rows_at}
use Rattle.ov_model.specs.World.{Dataset, World, cvd_in, set_named}
use Rattle.ov_model.specs.declared.answer.Cell.{Cell}
use Rattle.ov_model.specs.declared.query.JoinQuery.{JoinQuery}
use Rattle.ov_model.specs.declared.query.Side.{Side}
use Rattle.ov_model.specs.declared.refusal.Refusal.{Refusal}
use Rattle.ov_model.specs.declared.refusal.Refusal.TheVariants as no
use Rattle.ov_model.specs.declared.reply.Reply.{Reply}
use Rattle.ov_model.specs.declared.reply.Reply.TheVariants as says
use Rattle.ov_store.proofs.Deciding.{counts, none_named, world_named}
use Rattle.ov_store.specs.Scanning.{set_in}
use Rattle.ov_store.specs.declared.errors.StoreErr.{StoreErr}
use Rattle.ov_value.specs.Shapes.{Shape}
use Rattle.ov_value.specs.declared.column.Kind.{Kind}
use Rattle.ov_query.specs.Joining.{AreJoined, IsAnswerOr46, IsJoinReply, IsJoined, IsSideThere, IsVersionRead, answered_in, is_missing, join_reply, reply_by}
use Rattle.ov_query.specs.Queries.{AreDamaged, IsDamagedRead, IsOfNoFile, Reading, Set, join_off, known_in}
use Rattle.ov_query.proofs.Parents.{known_is}

-- ---- its reply over rows

module _ (join : JoinQuery) (left right : Shape) (ls rs : List Row) where
  abbrev pairs : List Pair
  pairs = matches join left right ls rs

  -- so it is an answer or 46
  either_by : (of : Result (List Kind) Refusal) → IsOk of → IsAnswerOr46 (reply_by join left right ls rs of)
  either_by (Err refusal) fits = absurd cc
  either_by (Ok kinds) fits = by (nat_lt 1000000 (length pairs))
    where
      by : (t : Bool) → IsAnswerOr46 (if t then says.Refused no.TooManyJoined else answered_in kinds (join_answer join left right pairs))
      by true = refl
      by false = tt

  either : (reply : Reply) → IsOk (join_kinds join left right) → reply ≡ join_reply join left right ls rs → IsAnswerOr46 reply
  either reply fits is = subst IsAnswerOr46 (sym is) (either_by (join_kinds join left right) fits)

-- and none that says that there is no file
seen_by : (reply : Reply) → IsAnswerOr46 reply → (name : List ℕ) → reply ≡ says.Refused (no.NoFile name) → ⊥
seen_by reply is name file = let it : no.NoFile name ≡ no.TooManyJoined = subst IsAnswerOr46 file is in cc

pub joined_seen : (result : Result Reply StoreErr) (join : JoinQuery) (left right : Option Set) (s : State) → IfOk result (IsJoinReply join left right s) → IfOk result IsOfNoFile
joined_seen (Ok reply) join left right s is = λ name file. seen_by reply is.either name file
joined_seen (Err e) join left right s is = tt

-- an answer of what isn't damaged
pub whole_join : (result : Result Reply StoreErr) (off : Option Refusal) (reads : List Reading) (old : State) (page : ℕ) → OnOk result (AreDamaged reads old page → ⊥)
    → OnOk result (IsDamagedRead off reads old page → ⊥)
whole_join (Ok reply) off reads old page whole = λ met. whole met.1
whole_join (Err e) off reads old page whole = tt

-- by the rows that are read
read_before : (old mid : State) → Looked old mid → old.tells ≡ true → (set : Set) (vid : ℕ) (rows : List Row) → IsVersionRead set vid (page_bytes mid) rows
    → IsVersionRead set vid (page_bytes old) rows
read_before old mid looked told set vid rows is = subst (λ (area : List ℕ). IsVersionRead set vid area rows) (same_pages old mid looked told) is

joined_in : (join : JoinQuery) (left right : Option Set) (l r : Set) (area : List ℕ) (reply : Reply) → left ≡ Some l → right ≡ Some r → AreJoined join l r area reply
    → IsJoined join left right area reply
joined_in join left right l r area reply of_left of_right is =
    subst (λ (o : Option Set). IsJoined join o right area reply) (sym of_left) (subst (λ (o : Option Set). IsJoined join (Some l) o area reply) (sym of_right) is)

pub join_replied : (join : JoinQuery) (left right : Option Set) (l r : Set) (ls rs : Shape) (lrows rrows : List Row) (old mid : State) (reply : Reply)
    → left ≡ Some l → right ≡ Some r → ls ≡ l.schema → rs ≡ r.schema → Looked old mid
    → (old.tells ≡ true → IsVersionRead l join.left.vid (page_bytes old) lrows) → (mid.tells ≡ true → IsVersionRead r join.right.vid (page_bytes mid) rrows)
    → IsOk (join_kinds join ls rs) → reply ≡ join_reply join ls rs lrows rrows → IsJoinReply join left right old reply
join_replied join left right l r ls rs lrows rrows old mid reply of_left of_right of_ls of_rs looked lread rread fits is = record {
  either = either join ls rs lrows rrows reply fits is;
  joined = λ told. joined_in join left right l r (page_bytes old) reply of_left of_right
      (record {
        ls = lrows;
        rs = rrows;
        left_read = lread told;
        right_read = read_before old mid looked told r join.right.vid rrows (rread (looked.told ∙ told));
        is = is ∙ (λ i. join_reply join (of_ls i) (of_rs i) lrows rrows);
      });
}

-- ---- at a World

abbrev deed_if : Session → List Kind → List (List Cell) → Bool → Deed
deed_if s kinds rows t = if t then refuses s no.TooManyJoined else told s kinds rows

by_rows : (s : Session) (join : JoinQuery) (left right : Cvd) (of : Result (List Kind) Refusal)
    → join_by s join left right of ≡ tells s (reply_by join left.schema right.schema (rows_at left.versions join.left.vid) (rows_at right.versions join.right.vid) of)
by_rows s join left right (Err refusal) = refl
by_rows s join left right (Ok kinds) = by (nat_lt 1000000 (length (joined_rows join left right)))
  where
    by : (t : Bool) → deed_if s kinds (join_answer join left.schema right.schema (joined_rows join left right)) t
        ≡ tells s (if t then says.Refused no.TooManyJoined else answered_in kinds (join_answer join left.schema right.schema (joined_rows join left right)))
    by true = refl
    by false = refl

abbrev side_if : Side → Cvd → Bool → Result Cvd Refusal
side_if side cvd t = if t then Err (no.NoVersion side.vid) else Ok cvd

module _ (w : World) (held : Held) (t : State) (at : IsAtWorld w held t) where
  -- the numbers know what the World has
  known_same : (name : List ℕ) → option_map known_in (set_in held.numbers name) ≡ option_map known_of (cvd_in (set_named w name))
  known_same name = by (set_in held.numbers name) refl
    where
      of_named : (o : Option Dataset) → set_named w name ≡ o → option_map known_of (cvd_in (set_named w name)) ≡ option_map known_of (cvd_in o)
      of_named o is = ap (λ (x : Option Dataset). option_map known_of (cvd_in x)) is

      by : (o : Option Set) → set_in held.numbers name ≡ o → option_map known_in o ≡ option_map known_of (cvd_in (set_named w name))
      by None none = sym (of_named None (none_named w held t at name none))
      by (Some set) found =
          let d = world_named w held t at name set found
          in ap Some (known_is w held t at name d.0 d.1 set found) ∙ sym (of_named (Some d.0) d.1)

  pub join_refuses : (s : Session) (join : JoinQuery) (refusal : Refusal) → join_off join (set_in held.numbers join.left.cvd) (set_in held.numbers join.right.cvd) ≡ Some refusal
      → join_deed w s join ≡ refuses s refusal
  join_refuses s join refusal is =
      join-refused s join (cvd_in (set_named w join.left.cvd)) (cvd_in (set_named w join.right.cvd)) refusal
      (sym (ap₂ (join_off_by join) (known_same join.left.cvd) (known_same join.right.cvd)) ∙ is)

  -- a side that is there
  side_at : (side : Side) (schema : Shape) → IsSideThere side (set_in held.numbers side.cvd) schema
      → (d : Dataset) × (set_named w side.cvd ≡ Some d) × (side_of w side ≡ Ok d.cvd) × (schema ≡ d.cvd.schema)
  side_at side schema is_there = by (set_in held.numbers side.cvd) refl is_there
    where
      by : (o : Option Set) → set_in held.numbers side.cvd ≡ o → IsSideThere side o schema
          → (d : Dataset) × (set_named w side.cvd ≡ Some d) × (side_of w side ≡ Ok d.cvd) × (schema ≡ d.cvd.schema)
      by None none is = absurd is
      by (Some set) found is =
          let d = world_named w held t at side.cvd set found
          in let it = counts w held t at side.cvd d.0 d.1 set found
          in (
            d.0,
            d.1,
            ap (λ (o : Option Dataset). side_in side (cvd_in o)) d.1 ∙ ap (side_if side d.0.cvd) (ap (λ (n : ℕ). is_missing n side.vid) (sym it.versions) ∙ is.1),
            is.0 ∙ it.schema,
          )

  module _ (join : JoinQuery) (ls rs : Shape) (l_there : IsSideThere join.left (set_in held.numbers join.left.cvd) ls)
      (r_there : IsSideThere join.right (set_in held.numbers join.right.cvd) rs) where
    -- over the rows of both sides' versions
    pub join_tells : (s : Session) (lrows rrows : List Row) (reply : Reply)
        → ((d : Dataset) → set_named w join.left.cvd ≡ Some d → lrows ≡ rows_at d.cvd.versions join.left.vid)
        → ((d : Dataset) → set_named w join.right.cvd ≡ Some d → rrows ≡ rows_at d.cvd.versions join.right.vid)
        → reply ≡ join_reply join ls rs lrows rrows → join_deed w s join ≡ tells s reply
    join_tells s lrows rrows reply of_left of_right is =
        let l = side_at join.left ls l_there
        in let r = side_at join.right rs r_there
        in ap₂ (join_over s join) l.2 r.2
        ∙ by_rows s join l.0.cvd r.0.cvd (join_kinds join l.0.cvd.schema r.0.cvd.schema)
        ∙ (λ i. tells s (join_reply join (sym l.3 i) (sym r.3 i) (sym (of_left l.0 l.1) i) (sym (of_right r.0 r.1) i)))
        ∙ ap (tells s) (sym is)
