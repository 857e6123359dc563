-- One more version: what is written of it is what the World asks for.
use Rattle.std.proofs.Common.{◌≡◌, ◌⊎◌, ◌≤◌, ◌+◌, ◌==◌, ◌||◌, ℕ, suc, Bool, true, false, List, [], ◌∷◌, ◌++◌, length, map, refl, sym, ◌∙◌, ap, subst, inl, inr, arith}
use Rattle.std.specs.Prelude.{Some, not, if◌then◌else◌}
use Rattle.std.specs.Option.{option_map}
use Rattle.std.specs.List.{AllByRecursion, zip}
use Rattle.std.proofs.lemmas.Bool.{eq-eqb, eqb-true}
use Rattle.std.proofs.lemmas.List.{length-append}
use Rattle.ov_event.specs.declared.event.Event as raw
use Rattle.ov_event.specs.declared.event.Event.TheVariants as says
use Rattle.ov_event.specs.declared.event.Placed.{Placed}
use Rattle.ov_event.specs.Fields.{IsU32, IsText, IsExtent}
use Rattle.ov_event.specs.Spelling.{AreColumns, AreParents, IsColumn, IsEvent, IsPlaced}
use Rattle.ov_host.specs.declared.area.Extent.{Extent}
use Rattle.ov_place.specs.declared.place_facts.Place.{Place}
use Rattle.ov_place.specs.declared.place_facts.Place.TheVariants.{Own, Join}
use Rattle.ov_value.specs.Shapes.{Shape}
use Rattle.ov_value.specs.declared.column.Column.{Column}
use Rattle.ov_member.specs.Rids.{has, left_out}
use Rattle.ov_model.specs.Book.{Row, Version}
use Rattle.ov_model.specs.Lists.{IsIn, AreIn, AllAreIn}
use Rattle.ov_model.specs.Moves.{Commit, numbered as is_numbered, piece_of, placed_at, version_of, wide}
use Rattle.ov_model.specs.Records.{Rec, is_same_row, is_same_rec, is_among, lacking, recs, record_of, records_of, order_of, rid_in, fresh_in, weights}
use Rattle.ov_model.specs.World.{Part, Dataset, World, held, first_set}
use Rattle.ov_model.proofs.Growing.{same_rec-refl, recs_more, length_recs, order_of_more, rid_more}
use Rattle.ov_model.proofs.Ordering.{wide_ordered}
use Rattle.ov_model.proofs.Origins.{same_row_is, all_known, in_left}
use Rattle.ov_records.specs.declared.outcome.Assigned.{Assigned}
use Rattle.ov_segment.specs.declared.numbered.Record.{Record}
use Rattle.ov_catalog.specs.Events as events
use Rattle.ov_catalog.specs.Events.{Event, adding_event}
use Rattle.ov_catalog.specs.Raw.{adding, event_in, place_in}
use Rattle.ov_catalog.specs.Reached.{AreRows, Reached}
use Rattle.ov_catalog.specs.Shown.{Records, sorted_by, list_of, segment_of, held_by, added_to, commit_event, commit_in, in_set, wide_event}
use Rattle.ov_catalog.specs.Stands.{asked_as, asked_event}
use Rattle.ov_catalog.proofs.Good.{IsKnown, found_ordered, good, set_known}
use Rattle.ov_catalog.proofs.Showing.{PiecesAreIn}
use Rattle.ov_core.specs.Brought.{BringsRuns, content, extent_at, segments_in, with_extents}
use Rattle.ov_core.proofs.Texts.{schema_spelled}
use Rattle.law_events.specs.Fitting.{IsSoundEvent}
use Rattle.law_events.proofs.Counts.{joined_at, last_are}
use Rattle.law_image.proofs.Readers.{both_true}
use Rattle.law_image.specs.Lists.{list_in}
use Rattle.law_image.specs.Segments.{as_kept}
use Rattle.ov_version_bytes.specs.Next.{AreLast, IsNext, held_at, spelled_place}
use Rattle.ov_version_bytes.specs.Written.{AreGiven, numbered, not_held, list_written, segment_written}
use Rattle.ov_version_bytes.proofs.Edges.{weights_zip}
use Rattle.ov_version_bytes.proofs.Keeping.{numbered_rids}
use Rattle.ov_version_bytes.proofs.Reading.{HoldSame, in_segments, list_reads, segment_reads, piece_segments, kept_lacking, long_lacking}

-- ---- a record's rid is its own

same_recs : (r q : Rec) → is_same_rec r q ≡ true → r ≡ q
same_recs r q e =
    let two = both_true (r.origin == q.origin) (is_same_row r.row q.row) e
    in λ i. record { origin = eqb-true r.origin q.origin two.0 i; row = same_row_is r.row q.row two.1 i }

pub rid_some : (all : List Rec) (r : Rec) → 1 ≤ rid_in all r
rid_some [] r = omega arith
rid_some (x ∷ all) r = at (is_same_rec r x)
  where
    at : (b : Bool) → 1 ≤ (if b then 1 else rid_in all r + 1)
    at true = omega arith
    at false = omega arith

pub rest_in : (x p : Rec) (all : List Rec) → (p ≡ x) ⊎ IsIn all p → is_same_rec p x ≡ false → IsIn all p
rest_in x p all (inl e) off = absurd (clash off (ap (λ y. is_same_rec y x) e ∙ same_rec-refl x))
  where
    clash : {b : Bool} → b ≡ false → b ≡ true → ⊥
    clash f t = cc
rest_in x p all (inr there) off = there

pub rid_own : (all : List Rec) (r q : Rec) → IsIn all r → IsIn all q → rid_in all r ≡ rid_in all q → r ≡ q
rid_own [] r q is other same = absurd is
rid_own (x ∷ all) r q is other same =
    at (is_same_rec r x) (is_same_rec q x) (same_recs r x) (same_recs q x) (rest_in x r all is) (rest_in x q all other) same (rid_own all r q)
  where
    at : (b c : Bool) → (b ≡ true → r ≡ x) → (c ≡ true → q ≡ x) → (b ≡ false → IsIn all r) → (c ≡ false → IsIn all q)
        → (if b then 1 else rid_in all r + 1) ≡ (if c then 1 else rid_in all q + 1) → (IsIn all r → IsIn all q → rid_in all r ≡ rid_in all q → r ≡ q) → r ≡ q
    at true true here there more others e rest = here refl ∙ sym (there refl)
    at true false here there more others e rest = absurd (omega (arith, e, rid_some all q))
    at false true here there more others e rest = absurd (omega (arith, e, rid_some all r))
    at false false here there more others e rest = rest (more refl) (others refl) (omega (arith, e))

same_test : (b c : Bool) → (b ≡ true → c ≡ true) → (c ≡ true → b ≡ true) → b ≡ c
same_test true true forth back = refl
same_test true false forth back = sym (forth refl)
same_test false true forth back = back refl
same_test false false forth back = refl

-- so it is held exactly where the record is among those that are there
among_held : (all others : List Rec) (r : Rec) → IsIn all r → ((o : Rec) → IsIn others o → IsIn all o)
    → has (map (rid_in all) others) (rid_in all r) ≡ is_among others r
among_held all [] r is known = refl
among_held all (o ∷ others) r is known =
    let here : (rid_in all o == rid_in all r) ≡ is_same_rec r o =
    same_test (rid_in all o == rid_in all r) (is_same_rec r o)
    (λ e. ap (λ x. is_same_rec r x) (rid_own all o r (known o (inl refl)) is (eqb-true (rid_in all o) (rid_in all r) e)) ∙ same_rec-refl r)
    (λ e. eq-eqb (rid_in all o) (rid_in all r) (ap (rid_in all) (sym (same_recs r o e))))
    in λ i. here i || among_held all others r is (λ x there. known x (inr there)) i

-- ---- the records of a version, and those of its partition

rows_back : (ps : List ℕ) (done : List (List Rec)) (rows : List Row) → map (λ r. r.row) (map (record_of ps done) rows) ≡ rows
rows_back ps done [] = refl
rows_back ps done (row ∷ rows) = ap (λ rest. row ∷ rest) (rows_back ps done rows)

pub ours_known : (versions : List Version) (v : Version) → AreIn (records_of v (recs versions [])) (order_of (versions ++ v ∷ []))
ours_known versions v =
    last_are (recs versions []) (records_of v (recs versions [])) (order_of (versions ++ v ∷ []))
    (subst (λ rss. AllAreIn rss (order_of (versions ++ v ∷ []))) (recs_more versions v []) (all_known (versions ++ v ∷ [])))

part_known : (all : List Rec) (parts : List Part) (id : ℕ) (r : Rec) → PiecesAreIn all parts → IsIn (held_by parts id) r → IsIn all r
part_known all [] id r are is = absurd is
part_known all (part ∷ parts) id r are is = at (part.id == id) is (part_known all parts id r are.1)
  where
    at : (b : Bool) → IsIn (if b then held part else held_by parts id) r → (IsIn (held_by parts id) r → IsIn all r) → IsIn all r
    at true here rest = joined_at part.pieces all r are.0 here
    at false there rest = rest there

there_known : (all : List Rec) (place : Place) (parts : List Part) (r : Rec) → PiecesAreIn all parts → IsIn (held_at place parts) r → IsIn all r
there_known all Own parts r are is = absurd is
there_known all (Join id) parts r are is = part_known all parts id r are is

kept_rids : (all more others : List Rec) → ((o : Rec) → IsIn others o → IsIn all o) → map (rid_in (all ++ more)) others ≡ map (rid_in all) others
kept_rids all more [] known = refl
kept_rids all more (o ∷ others) known = λ i. rid_more all more o (known o (inl refl)) i ∷ kept_rids all more others (λ x is. known x (inr is)) i

lacking_all : (rs : List Rec) → lacking rs [] ≡ rs
lacking_all [] = refl
lacking_all (r ∷ rs) = ap (λ qs. r ∷ qs) (lacking_all rs)

added_is : (place : Place) (parts : List Part) (rs : List Rec) → added_to place parts rs ≡ lacking rs (held_at place parts)
added_is Own parts rs = sym (lacking_all rs)
added_is (Join id) parts rs = refl

all_held : (all others : List Rec) (given : List ℕ) (rs : List Rec) → ((rid : ℕ) → has given rid ≡ has (map (rid_in all) others) rid) → ((o : Rec) → IsIn others o → IsIn all o)
    → AreIn rs all → HoldSame all given others rs
all_held all others given [] same known are = tt
all_held all others given (r ∷ rs) same known are =
    (same (rid_in all r) ∙ among_held all others r are.0 known, all_held all others given rs same known are.1)

pub held_same : (d : Dataset) (v : Version) (vid : ℕ) (made : Assigned) (place : Place) (given : List ℕ) → IsKnown d → IsNext d v vid made place given
    → HoldSame (order_of (d.cvd.versions ++ v ∷ [])) given (held_at place d.parts) (records_of v (recs d.cvd.versions []))
held_same d v vid made place given is next =
    let old : List Rec = order_of d.cvd.versions
    in let more : List Rec = fresh_in (records_of v (recs d.cvd.versions [])) (1 + length (recs d.cvd.versions []))
    in let all : order_of (d.cvd.versions ++ v ∷ []) ≡ old ++ more = order_of_more d.cvd.versions v
    in let others : List Rec = held_at place d.parts
    in let known : (o : Rec) → IsIn others o → IsIn old o = λ o there. there_known old place d.parts o is.pieces there
    in let rids : map (rid_in (order_of (d.cvd.versions ++ v ∷ []))) others ≡ map (rid_in old) others =
    ap (λ l. map (rid_in l) others) all ∙ kept_rids old more others known
    in all_held (order_of (d.cvd.versions ++ v ∷ [])) others given (records_of v (recs d.cvd.versions []))
    (λ rid. next.held_is rid ∙ ap (λ ns. has ns rid) (sym rids))
    (λ o there. subst (λ l. IsIn l o) (sym all) (in_left old more o (known o there)))
    (ours_known d.cvd.versions v)

-- ---- what is written

pub left_long : (given rids : List ℕ) (rows : List Row) → length rids ≡ length rows → length (not_held given (numbered rids rows)) ≡ length (left_out rids given)
left_long given rids rows same = by_rids (numbered rids rows) ∙ ap (λ ns. length (left_out ns given)) (numbered_rids rids rows same)
  where
    by_rids : (rs : List Record) → length (not_held given rs) ≡ length (left_out (map (λ r. r.rid) rs) given)
    by_rids [] = refl
    by_rids (r ∷ rs) = at (has given r.rid) (by_rids rs)
      where
        at : (b : Bool) → length (not_held given rs) ≡ length (left_out (map (λ q. q.rid) rs) given)
            → length (if not b then r ∷ not_held given rs else not_held given rs)
            ≡ length (if not b then r.rid ∷ left_out (map (λ q. q.rid) rs) given else left_out (map (λ q. q.rid) rs) given)
        at true rest = rest
        at false rest = ap suc rest

-- the event, with what its bytes spell, where the store's numbers are the dataset's
module _ (d : Dataset) (v : Version) (vid : ℕ) (made : Assigned) (place : Place) (given : List ℕ) (schema : Shape)
    (is : IsKnown d) (next : IsNext d v vid made place given) (rows : AreRows schema v.rows) (rids : AreGiven made.rids v.rows) where
  abbrev done : List (List Rec)
  done = recs d.cvd.versions []

  abbrev ours : List Rec
  ours = records_of v done

  abbrev all : List Rec
  all = order_of (d.cvd.versions ++ v ∷ [])

  kept_is : numbered made.rids v.rows ≡ numbered (map (rid_in all) ours) (map (λ r. r.row) ours)
  kept_is = λ i. numbered (next.records.rids_are i) (sym (rows_back v.parents done v.rows) i)

  more_is : lacking ours (held_at place d.parts) ≡ added_to (placed_at d v) d.parts ours
  more_is = sym (added_is place d.parts ours) ∙ ap (λ p. added_to p d.parts ours) next.place_is

  list_is : list_in (list_written made.rids) ≡ Some (list_of all ours)
  list_is = list_reads made.rids v.rows rids ∙ ap (λ ns. Some (sorted_by (λ rid. rid) ns)) next.records.rids_are

  segments_are : segments_in (segment_written given made.rids v.rows) ≡ map Some (map (segment_of all) (piece_of (added_to (placed_at d v) d.parts ours)))
  segments_are =
      segment_reads schema given made.rids v.rows rows rids
      ∙ ap (λ rs. map Some (in_segments (sorted_by (λ k. k.0) (map as_kept (not_held given rs))))) kept_is
      ∙ ap (λ (ks : Records). map Some (in_segments (sorted_by (λ k. k.0) ks))) (kept_lacking all given (held_at place d.parts) ours (held_same d v vid made place given is next))
      ∙ ap (λ rs. map Some (in_segments (segment_of all rs))) more_is
      ∙ ap (map Some) (sym (piece_segments all (added_to (placed_at d v) d.parts ours)))

  count_is : length (left_out made.rids given) ≡ length (added_to (placed_at d v) d.parts ours)
  count_is =
      sym (left_long given made.rids v.rows rids.as_many)
      ∙ ap (λ rs. length (not_held given rs)) kept_is
      ∙ long_lacking all given (held_at place d.parts) ours (held_same d v vid made place given is next)
      ∙ ap (λ (rs : List Rec). length rs) more_is

  weights_are : zip v.parents made.weights ≡ weights v.parents ours done
  weights_are = ap (zip v.parents) next.records.weights_are ∙ weights_zip v.parents ours done

  fresh_is : made.fresh ≡ length (fresh_in ours (length done + 1))
  fresh_is =
      let number : length d.cvd.versions + 1 ≡ length done + 1 = omega (arith, length_recs d.cvd.versions [])
      in next.records.fresh_is ∙ ap (λ n. length (fresh_in ours n)) number

  pub event_asked : (cvd : ℕ) → events.Commit cvd vid v.message (zip v.parents made.weights) (length v.rows) made.fresh place (length (left_out made.rids given))
      (list_in (list_written made.rids)) (segments_in (segment_written given made.rids v.rows))
      ≡ asked_as (commit_event cvd d v)
  event_asked cvd = λ i. events.Commit cvd (next.vid_is i) v.message (weights_are i) (length v.rows) (fresh_is i) (next.place_is i) (count_is i) (list_is i) (segments_are i)

-- what the World asks of a commit, where these columns are added
pub asked_of : (cvd : ℕ) (parents message : List ℕ) (added : List Column) (rows : List Row) (w : World) (d : Dataset) → first_set (is_numbered cvd) w.sets ≡ Some d
    → asked_event (Commit cvd parents message added rows) w ≡ Some (adding_event added (asked_as (commit_event cvd (wide added d) (version_of parents message rows))))
asked_of cvd parents message [] rows w d found = ap (λ o. option_map asked_as (commit_in cvd (version_of parents message rows) o)) found
asked_of cvd parents message (column ∷ added) rows w d found =
    ap (λ o. option_map asked_as (in_set (λ x. Some (wide_event cvd (column ∷ added) (wide (column ∷ added) x) (version_of parents message rows))) o)) found

-- what an event says with columns, with what its bytes spell
pub content_adding : (added : List Column) (e : raw.Event) (list segment : List ℕ) → content (event_in (adding added e)) list segment ≡ adding_event added (content (event_in e) list segment)
content_adding [] e list segment = refl
content_adding (column ∷ added) (says.Init name schema rows l s) list segment = refl
content_adding (column ∷ added) (says.Commit cvd vid message parents rows fresh place more l s) list segment = refl
content_adding (column ∷ added) (says.Plan cvd p q targets) list segment = refl
content_adding (column ∷ added) (says.Copy cvd count s) list segment = refl
content_adding (column ∷ added) (says.Flip cvd) list segment = refl
content_adding (column ∷ added) (says.Drop cvd) list segment = refl
content_adding (column ∷ added) (says.Base next) list segment = refl
content_adding (column ∷ added) (says.Whole said) list segment = refl
content_adding (column ∷ added) (says.Wide cvd vid message columns parents rows fresh place more l s) list segment = refl

pub sound_adding : (added : List Column) (cvd vid : ℕ) (message : List ℕ) (edges : List (ℕ × ℕ)) (rows fresh : ℕ) (place : Placed) (more : ℕ) (list segment : Extent)
    → IsSoundEvent (says.Commit cvd vid message edges rows fresh place more list segment) → IsSoundEvent (adding added (says.Commit cvd vid message edges rows fresh place more list segment))
sound_adding [] cvd vid message edges rows fresh place more list segment sound = sound
sound_adding (column ∷ added) cvd vid message edges rows fresh place more list segment sound = sound

pub sound_added : (added : List Column) (cvd vid : ℕ) (message : List ℕ) (edges : List (ℕ × ℕ)) (rows fresh : ℕ) (place : Placed) (more : ℕ) (list segment : Extent)
    → IsSoundEvent (adding added (says.Commit cvd vid message edges rows fresh place more list segment)) → IsSoundEvent (says.Commit cvd vid message edges rows fresh place more list segment)
sound_added [] cvd vid message edges rows fresh place more list segment sound = sound
sound_added (column ∷ added) cvd vid message edges rows fresh place more list segment sound = sound

-- it brings the same runs
pub runs_adding : (added : List Column) (cvd vid : ℕ) (message : List ℕ) (edges : List (ℕ × ℕ)) (rows fresh : ℕ) (place : Placed) (more : ℕ) (list segment : List ℕ)
    → BringsRuns (adding added (says.Commit cvd vid message edges rows fresh place more (extent_at 0 list) (extent_at 0 segment))) list
runs_adding [] cvd vid message edges rows fresh place more list segment = tt
runs_adding (column ∷ added) cvd vid message edges rows fresh place more list segment = tt

pub sized_adding : (added : List Column) (cvd vid : ℕ) (message : List ℕ) (edges : List (ℕ × ℕ)) (rows fresh : ℕ) (place : Placed) (more : ℕ) (list segment : List ℕ)
    → with_extents (extent_at 0 list) (extent_at 0 segment) (adding added (says.Commit cvd vid message edges rows fresh place more (extent_at 0 list) (extent_at 0 segment)))
    ≡ adding added (says.Commit cvd vid message edges rows fresh place more (extent_at 0 list) (extent_at 0 segment))
sized_adding [] cvd vid message edges rows fresh place more list segment = refl
sized_adding (column ∷ added) cvd vid message edges rows fresh place more list segment = refl

-- the dataset with the columns has known records
pub known_of : (added : List Column) (cvd : ℕ) (w : World) (d : Dataset) → Reached w → first_set (is_numbered cvd) w.sets ≡ Some d → IsKnown (wide added d)
known_of added cvd w d reached found = set_known (wide added d) (wide_ordered added d (found_ordered cvd d w.sets (good w reached).sound.ordered found))

-- ---- columns that are added have a spelling

last_columns : (front added : List Column) → AllByRecursion IsColumn (front ++ added) → AllByRecursion IsColumn added
last_columns [] added all = all
last_columns (column ∷ front) added all = last_columns front added all.1

columns_spelled : (added : List Column) → AreLast added → AreColumns added
columns_spelled added is =
    let all = (schema_spelled is.schema is.sound).0
    in let both : AreColumns (is.front ++ added) = subst AreColumns is.columns_are all
    in (omega (arith, both.0, length-append is.front added), last_columns is.front added both.1)

columns_fit : (added : List Column) → (added ≡ []) ⊎ AreLast added → AreColumns added
columns_fit added (inl none) = subst AreColumns (sym none) (omega arith, tt)
columns_fit added (inr are) = columns_spelled added are

pub wide_spelled : (added : List Column) (cvd vid : ℕ) (message : List ℕ) (edges : List (ℕ × ℕ)) (rows fresh : ℕ) (place : Placed) (more : ℕ) (list segment : Extent)
    → (added ≡ []) ⊎ AreLast added → IsEvent (says.Commit cvd vid message edges rows fresh place more list segment)
    → IsEvent (says.Wide cvd vid message added edges rows fresh place more list segment)
unfolding IsEvent
wide_spelled added cvd vid message edges rows fresh place more list segment are is =
    (is.0, is.1, is.2, columns_fit added are, is.3, is.4, is.5, is.6, is.7, is.8, is.9)

pub place_back : (place : Place) → place_in (spelled_place place) ≡ place
place_back Own = refl
place_back (Join id) = refl

pub commit_spelled : (cvd vid : ℕ) (message : List ℕ) (edges : List (ℕ × ℕ)) (rows fresh : ℕ) (place : Placed) (added : ℕ) (list segment : Extent)
    → IsU32 cvd → IsU32 vid → IsText message → AreParents edges → IsU32 rows → IsU32 fresh → IsPlaced place → IsU32 added → IsExtent list → IsExtent segment
    → IsEvent (says.Commit cvd vid message edges rows fresh place added list segment)
unfolding IsEvent
commit_spelled cvd vid message edges rows fresh place added list segment a b c d e f g h i j = (a, b, c, d, e, f, g, h, i, j)
