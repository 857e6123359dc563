-- The event of a Commit applies where the move fits; and so does that of any move.
use Rattle.std.proofs.Common.{◌≡◌, ◌<◌, ◌≤◌, ◌+◌, ◌^◌, ◌==◌, ◌&&◌, ℕ, suc, Bool, true, false, not, List, [], ◌∷◌, ◌++◌, length, map, refl, sym, ◌∙◌, ap, subst, inl, inr, arith}
use Rattle.std.specs.Prelude.{◌≢◌, Option, Some, None, nat_le, IsTrue, if◌then◌else◌}
use Rattle.std.specs.List.{list_all}
use Rattle.std.specs.Option.{option_map}
use Rattle.std.proofs.lemmas.Bool.{and_from, not_from_false, false_from_ne_true, eq-eqb, eqb-true, le-leb}
use Rattle.std.proofs.lemmas.List.{length-map, length-append}
use Rattle.ov_event.specs.declared.event.Event as raw
use Rattle.ov_event.specs.declared.event.Event.TheVariants as says
use Rattle.ov_graph.specs.Versions.{heaviest}
use Rattle.ov_host.specs.declared.area.Extent.{Extent}
use Rattle.ov_place.specs.Placement.{placed}
use Rattle.ov_place.specs.declared.place_facts.Place.{Place}
use Rattle.ov_place.specs.declared.place_facts.Place.TheVariants.{Own, Join}
use Rattle.ov_model.specs.Book.{Row, Version}
use Rattle.ov_model.specs.Lists.{IsIn, AreIn, AllAreIn}
use Rattle.ov_model.specs.Moves.{Move, Init, Commit, BeginPlan, Copy, Flip, Drop, Checkpoint, numbered, placed_at, version_of}
use Rattle.ov_model.specs.Placed.{AreThere}
use Rattle.ov_model.specs.Records.{Rec, recs, record_of, records_of, of_version, fresh_in, order_of, is_among, lacking, weight, weights}
use Rattle.ov_model.specs.World.{Part, Dataset, World, first_set, held}
use Rattle.ov_model.proofs.Growing.{recs_more, order_of_more}
use Rattle.ov_model.proofs.Origins.{all_known, in_left, in_filter}
use Rattle.law_partitions.specs.Pieces.{NoTwice, PartsArePieces, HasPieces}
use Rattle.law_partitions.proofs.PieceLists.{among_in, in_either, in_filtered}
use Rattle.law_partitions.proofs.PieceTimes.{times-filter, once-lacking}
use Rattle.law_partitions.proofs.PlanNodes.{filter_most}
use Rattle.ov_catalog.specs.declared.field.Field.TheVariants as off
use Rattle.ov_catalog.specs.Applying.{rows_at, are_distinct, is_parent, are_parents, part_numbered, records_in, facts_of, is_place, is_count, is_list, is_segment, commit_off, of_live, set_numbered, first_off}
use Rattle.ov_catalog.specs.Events as events
use Rattle.ov_catalog.specs.Events.{Event}
use Rattle.ov_catalog.specs.Raw.{event_in, numbers_in}
use Rattle.ov_catalog.specs.Reached.{AreParents, CommitFits, Fits, IfThere}
use Rattle.ov_catalog.specs.Shown.{shown, shown_versions, shown_part, shown_set, held_by, added_to, commit_event, commit_in}
use Rattle.ov_catalog.specs.Stands.{Readings, StandsFor, IsMove, seen_event, asked_as, asked_event}
use Rattle.ov_catalog.specs.Extents.{covers, brought, live}
use Rattle.ov_catalog.proofs.Moving.{some_same}
use Rattle.ov_catalog.proofs.Good.{IsGood, IsKnown, found_known, found_pieces, good}
use Rattle.ov_catalog.proofs.Showing.{PiecesAreIn}
use Rattle.law_events.specs.Fitting.{IsSoundEvent}
use Rattle.law_events.proofs.Beginning.{off_none, off_last, applies_there, live_shown, init_applies, drop_applies}
use Rattle.law_events.proofs.Counts.{no_more, are_at, joined_at, last_are, order_low, ours_once, weight_own, weight_other, all_distinct}
use Rattle.law_events.proofs.Planning.{plan_applies}
use Rattle.law_events.proofs.Seeing.{versions_long, rows_shown, records_shown, place_shown}
use Rattle.law_events.proofs.Stepping.{copy_applies, flip_applies}

-- ---- parents

edges_long : (ps : List ℕ) (rs : List Rec) (done : List (List Rec)) → length (weights ps rs done) ≡ length ps
edges_long [] rs done = refl
edges_long (p ∷ ps) rs done = ap (λ n. suc n) (edges_long ps rs done)

edges_from : (ps : List ℕ) (rs : List Rec) (done : List (List Rec)) → map (λ edge. edge.0) (weights ps rs done) ≡ ps
edges_from [] rs done = refl
edges_from (p ∷ ps) rs done = ap (λ qs. p ∷ qs) (edges_from ps rs done)

some_long : (ps : List ℕ) → ps ≢ [] → 1 ≤ length ps
some_long [] some = absurd (some refl)
some_long (p ∷ ps) some = omega arith

edge_fits : (all : List Rec) (vs : List Version) (rs : List Rec) (rows p : ℕ) → NoTwice rs → length rs ≡ rows → (1 ≤ p) × (p ≤ length vs)
    → is_parent (shown_versions all [] vs) rows (p, weight rs (of_version (recs vs []) p)) ≡ true
edge_fits all vs rs rows p once long there =
    let other : List Rec = of_version (recs vs []) p
    in and_from (nat_le 1 p && nat_le p (length (shown_versions all [] vs))) (nat_le (weight rs other) rows && nat_le (weight rs other) (rows_at (shown_versions all [] vs) p))
    (and_from (nat_le 1 p) (nat_le p (length (shown_versions all [] vs))) (le-leb 1 p there.0) (le-leb p (length (shown_versions all [] vs)) (omega (arith, there.1, versions_long all [] vs))))
    (and_from (nat_le (weight rs other) rows) (nat_le (weight rs other) (rows_at (shown_versions all [] vs) p))
    (le-leb (weight rs other) rows (omega (arith, weight_own rs other, long)))
    (le-leb (weight rs other) (rows_at (shown_versions all [] vs) p) (omega (arith, weight_other rs other once, rows_shown all vs p))))

edges_fit : (all : List Rec) (vs : List Version) (rs : List Rec) (rows : ℕ) (ps : List ℕ) → NoTwice rs → length rs ≡ rows → AreThere (length vs) ps
    → list_all (is_parent (shown_versions all [] vs) rows) (weights ps rs (recs vs [])) ≡ true
edges_fit all vs rs rows [] once long there = refl
edges_fit all vs rs rows (p ∷ ps) once long there =
    and_from (is_parent (shown_versions all [] vs) rows (p, weight rs (of_version (recs vs []) p))) (list_all (is_parent (shown_versions all [] vs) rows) (weights ps rs (recs vs [])))
    (edge_fits all vs rs rows p once long there.0) (edges_fit all vs rs rows ps once long there.1)

parents_fit : (all : List Rec) (vs : List Version) (rs : List Rec) (rows : ℕ) (ps : List ℕ) → NoTwice rs → length rs ≡ rows → AreParents (length vs) ps
    → are_parents (shown_versions all [] vs) rows (weights ps rs (recs vs [])) ≡ true
parents_fit all vs rs rows ps once long are =
    let edges : List (ℕ × ℕ) = weights ps rs (recs vs [])
    in and_from (nat_le 1 (length edges)) (list_all (is_parent (shown_versions all [] vs) rows) edges && are_distinct (map (λ edge. edge.0) edges))
    (le-leb 1 (length edges) (omega (arith, edges_long ps rs (recs vs []), some_long ps are.some)))
    (and_from (list_all (is_parent (shown_versions all [] vs) rows) edges) (are_distinct (map (λ edge. edge.0) edges))
    (edges_fit all vs rs rows ps once long are.there)
    (ap are_distinct (edges_from ps rs (recs vs [])) ∙ eq-eqb _ _ (all_distinct ps are.once)))

-- ---- what the partition of a number holds

held_known : (all : List Rec) (id : ℕ) (parts : List Part) (r : Rec) → PiecesAreIn all parts → IsIn (held_by parts id) r → IsIn all r
held_known all id [] r are is = absurd is
held_known all id (part ∷ parts) r are is = by (part.id == id) (λ later. held_known all id parts r are.1 later) is
  where
    by : (b : Bool) → (IsIn (held_by parts id) r → IsIn all r) → IsIn (if b then held part else held_by parts id) r → IsIn all r
    by true rest here = joined_at part.pieces all r are.0 here
    by false rest later = rest later

held_once : (done : List (List Rec)) (id : ℕ) (parts : List Part) → PartsArePieces done parts → NoTwice (held_by parts id)
held_once done id [] are = λ r. omega arith
held_once done id (part ∷ parts) are = by (part.id == id) (held_once done id parts are.1)
  where
    by : (b : Bool) → NoTwice (held_by parts id) → NoTwice (if b then held part else held_by parts id)
    by true rest = are.0.once
    by false rest = rest

-- ---- a version that fits

module _ (w : World) (d : Dataset) (v : Version) (fits : CommitFits w d v) (known : IsKnown d) (has : HasPieces d) where
  abbrev done : List (List Rec)
  done = recs d.cvd.versions []

  abbrev rs : List Rec
  rs = records_of v (recs d.cvd.versions [])

  abbrev before : List Rec
  before = order_of d.cvd.versions

  abbrev after : List Rec
  after = order_of (d.cvd.versions ++ v ∷ [])

  abbrev fresh_count : ℕ
  fresh_count = length (fresh_in (records_of v (recs d.cvd.versions [])) (length (recs d.cvd.versions []) + 1))

  once : NoTwice rs
  once = ours_once d.cvd.schema v done fits.rows.rise

  long : length rs ≡ length v.rows
  long = length-map v.rows (record_of v.parents done)

  ours : AreIn rs after
  ours = last_are done rs after (subst (λ rss. AllAreIn rss after) (recs_more d.cvd.versions v []) (all_known (d.cvd.versions ++ v ∷ [])))

  grown : length after ≡ length before + fresh_count
  grown =
      let swap : 1 + length done ≡ length done + 1 = omega arith
      in ap (λ (xs : List Rec). length xs) (order_of_more d.cvd.versions v) ∙ length-append before (fresh_in rs (1 + length done)) ∙ ap (λ n. length before + length (fresh_in rs n)) swap

  all_before : (r : Rec) → IsIn before r → IsIn after r
  all_before r is = subst (λ xs. IsIn xs r) (sym (order_of_more d.cvd.versions v)) (in_left before (fresh_in rs (1 + length done)) r is)

  rows_fit : (nat_le (length v.rows) 1000000 && (nat_le fresh_count (length v.rows) && (nat_le (length v.rows) (length before + fresh_count) && nat_le (length before + fresh_count) (2 ^ 31)))) ≡ true
  rows_fit =
      and_from (nat_le (length v.rows) 1000000) (nat_le fresh_count (length v.rows) && (nat_le (length v.rows) (length before + fresh_count) && nat_le (length before + fresh_count) (2 ^ 31)))
      (le-leb (length v.rows) 1000000 fits.rows.few)
      (and_from (nat_le fresh_count (length v.rows)) (nat_le (length v.rows) (length before + fresh_count) && nat_le (length before + fresh_count) (2 ^ 31))
      (le-leb fresh_count (length v.rows) (omega (arith, filter_most (λ r. r.origin == length done + 1) rs, long)))
      (and_from (nat_le (length v.rows) (length before + fresh_count)) (nat_le (length before + fresh_count) (2 ^ 31))
      (le-leb (length v.rows) (length before + fresh_count) (omega (arith, no_more rs after once (λ r is. are_at rs after r ours is), grown, long)))
      (le-leb (length before + fresh_count) (2 ^ 31) (subst (λ n. n ≤ 2 ^ 31) grown fits.records))))

  -- a fresh record isn't among those that a partition held before
  fresh_lacks : (id : ℕ) (r : Rec) → IsIn (fresh_in rs (length done + 1)) r → IsIn (lacking rs (held_by d.parts id)) r
  fresh_lacks id r is =
      let own : IsIn rs r × ((r.origin == length done + 1) ≡ true) = in_filtered (λ x. x.origin == length done + 1) rs r is
      in in_filter (λ x. not (is_among (held_by d.parts id) x)) rs r
      (not_from_false (is_among (held_by d.parts id) r) (false_from_ne_true (is_among (held_by d.parts id) r)
      (λ there. omega (
        arith,
        order_low done 1 r (held_known before id d.parts r known.pieces (among_in (held_by d.parts id) r there)),
        eqb-true r.origin (length done + 1) own.1,
      ))))
      own.0

  both_known : (id : ℕ) (r : Rec) → IsIn (held_by d.parts id ++ lacking rs (held_by d.parts id)) r → IsIn after r
  both_known id r is =
      elim (in_either (held_by d.parts id) (lacking rs (held_by d.parts id)) r is) [
        | inl old ↦ all_before r (held_known before id d.parts r known.pieces old)
        | inr new ↦ are_at rs after r ours (in_filtered (λ x. not (is_among (held_by d.parts id) x)) rs r new).0
      ]

  join_fits : (id : ℕ) → is_count (shown_set d) (length v.rows) fresh_count (length (lacking rs (held_by d.parts id))) (Join id) ≡ true
  join_fits id =
      let old : List Rec = held_by d.parts id
      in let added : ℕ = length (lacking rs (held_by d.parts id))
      in let kept : ℕ = records_in (part_numbered (map (shown_part before) d.parts) id)
      in and_from (nat_le fresh_count added && nat_le added (length v.rows)) (nat_le (kept + added) (length before + fresh_count))
      (and_from (nat_le fresh_count added) (nat_le added (length v.rows))
      (le-leb fresh_count added (no_more (fresh_in rs (length done + 1)) (lacking rs old) (λ r. omega (arith, times-filter (λ x. x.origin == length done + 1) rs r, once r)) (fresh_lacks id)))
      (le-leb added (length v.rows) (omega (arith, filter_most (λ x. not (is_among old x)) rs, long))))
      (le-leb (kept + added) (length before + fresh_count) (omega (
        arith,
        records_shown before id d.parts,
        length-append old (lacking rs old),
        no_more (old ++ lacking rs old) after (once-lacking rs old once (held_once done id d.parts has.parts)) (both_known id),
        grown,
      )))

  count_fits : (place : Place) → is_count (shown_set d) (length v.rows) fresh_count (length (added_to place d.parts rs)) place ≡ true
  count_fits Own = eq-eqb (length rs) (length v.rows) long
  count_fits (Join id) = join_fits id

  pub version_fits : (list segment : Extent) → IsTrue (is_list (length v.rows) list) → IsTrue (is_segment (length (added_to (placed_at d v) d.parts rs)) segment)
      → commit_off (length d.cvd.versions + 1) v.message (weights v.parents rs done) (length v.rows) fresh_count (placed_at d v) (length (added_to (placed_at d v) d.parts rs)) list segment (shown_set d) ≡ None
  version_fits list segment at_list at_segment =
      let vid : ℕ = length d.cvd.versions + 1
      in let edges : List (ℕ × ℕ) = weights v.parents rs done
      in let place : Place = placed_at d v
      in let added : ℕ = length (added_to (placed_at d v) d.parts rs)
      in off_none (vid == length (shown_versions before [] d.cvd.versions) + 1 && nat_le vid 65535) off.Vid _
      (and_from (vid == length (shown_versions before [] d.cvd.versions) + 1) (nat_le vid 65535)
      (eq-eqb vid (length (shown_versions before [] d.cvd.versions) + 1) (omega (arith, versions_long before [] d.cvd.versions)))
      (le-leb vid 65535 (omega (arith, fits.few))))
      (off_none (nat_le (length v.message) 1024) off.Message _ (le-leb (length v.message) 1024 fits.short)
      (off_none (are_parents (shown_versions before [] d.cvd.versions) (length v.rows) edges) off.Parent _
      (parents_fit before d.cvd.versions rs (length v.rows) v.parents once long fits.parents)
      (off_none (nat_le (length v.rows) 1000000 && (nat_le fresh_count (length v.rows) && (nat_le (length v.rows) (length before + fresh_count) && nat_le (length before + fresh_count) (2 ^ 31)))) off.Rows _ rows_fit
      (off_none (is_place place (placed (facts_of (shown_set d) (heaviest edges)))) off.Placing _ (place_shown d v)
      (off_none (is_count (shown_set d) (length v.rows) fresh_count added place) off.Count _ (count_fits place)
      (off_last (is_list (length v.rows) list && is_segment added segment) off.Place
      (and_from (is_list (length v.rows) list) (is_segment added segment) at_list at_segment)))))))

-- ---- the event

abbrev number_in : {L S : Type 0} → Event L S → ℕ
number_in (events.Commit cvd vid message parents rows fresh place added list segments) = cvd
number_in _ = 0

abbrev vid_in : {L S : Type 0} → Event L S → ℕ
vid_in (events.Commit cvd vid message parents rows fresh place added list segments) = vid
vid_in _ = 0

abbrev message_in : {L S : Type 0} → Event L S → List ℕ
message_in (events.Commit cvd vid message parents rows fresh place added list segments) = message
message_in _ = []

abbrev parents_in : {L S : Type 0} → Event L S → List (ℕ × ℕ)
parents_in (events.Commit cvd vid message parents rows fresh place added list segments) = parents
parents_in _ = []

abbrev rows_in : {L S : Type 0} → Event L S → ℕ
rows_in (events.Commit cvd vid message parents rows fresh place added list segments) = rows
rows_in _ = 0

abbrev fresh_of : {L S : Type 0} → Event L S → ℕ
fresh_of (events.Commit cvd vid message parents rows fresh place added list segments) = fresh
fresh_of _ = 0

abbrev at_place : {L S : Type 0} → Event L S → Place
at_place (events.Commit cvd vid message parents rows fresh place added list segments) = place
at_place _ = Own

abbrev added_in : {L S : Type 0} → Event L S → ℕ
added_in (events.Commit cvd vid message parents rows fresh place added list segments) = added
added_in _ = 0

commit_spelled : (r : Readings) (w : World) (e : raw.Event) (cvd : ℕ) (v : Version) (d : Dataset) → first_set (numbered cvd) w.sets ≡ Some d → CommitFits w d v → IsKnown d → HasPieces d
    → IsSoundEvent e → seen_event r e ≡ asked_as (commit_event cvd d v) → first_off w.format e (shown w) ≡ None
commit_spelled r w (says.Init name schema count list segment) cvd v d found fits known has sound spells = cc
commit_spelled r w (says.Commit number vid message parents rows fresh place added list segment) cvd v d found fits known has sound spells =
    (λ i. of_live (commit_off (ap vid_in spells i) (ap message_in spells i) (ap parents_in spells i) (ap rows_in spells i) (ap fresh_of spells i) (ap at_place spells i) (ap added_in spells i) list segment)
    (set_numbered (ap number_in spells i) (shown w)))
    ∙ live_shown (commit_off (length d.cvd.versions + 1) v.message (weights v.parents (records_of v (recs d.cvd.versions [])) (recs d.cvd.versions [])) (length v.rows)
    (length (fresh_in (records_of v (recs d.cvd.versions [])) (length (recs d.cvd.versions []) + 1))) (placed_at d v) (length (added_to (placed_at d v) d.parts (records_of v (recs d.cvd.versions [])))) list segment)
    cvd w.sets d found
    (version_fits w d v fits known has list segment (subst (λ n. IsTrue (is_list n list)) (ap rows_in spells) sound.0) (subst (λ n. IsTrue (is_segment n segment)) (ap added_in spells) sound.1))
commit_spelled r w (says.Plan number p q targets) cvd v d found fits known has sound spells = cc
commit_spelled r w (says.Copy number count segment) cvd v d found fits known has sound spells = cc
commit_spelled r w (says.Flip number) cvd v d found fits known has sound spells = cc
commit_spelled r w (says.Drop number) cvd v d found fits known has sound spells = cc
commit_spelled r w (says.Base next) cvd v d found fits known has sound spells = cc
commit_spelled r w (says.Whole whole) cvd v d found fits known has sound spells = cc
commit_spelled r w (says.Wide number vid message columns parents rows fresh place added list segment) cvd v d found fits known has sound spells = cc

commit_found : (r : Readings) (w : World) (e : raw.Event) (cvd : ℕ) (v : Version) (found : Option Dataset) → first_set (numbered cvd) w.sets ≡ found → IfThere (λ d. CommitFits w d v) found
    → IsGood w → IsSoundEvent e → Some (seen_event r e) ≡ option_map asked_as (commit_in cvd v found) → first_off w.format e (shown w) ≡ None
commit_found r w e cvd v None found fits is sound spells = absurd fits
commit_found r w e cvd v (Some d) found fits is sound spells =
    commit_spelled r w e cvd v d found fits (found_known cvd d w.sets is.known found) (found_pieces cvd d w.sets is.sound.pieces found) sound
    (some_same (seen_event r e) (asked_as (commit_event cvd d v)) spells)

pub commit_applies : (events : List raw.Event) (r : Readings) (w : World) (e : raw.Event) (cvd : ℕ) (parents message : List ℕ) (rows : List Row)
    → StandsFor w.format events r w → Fits (Commit cvd parents message [] rows) w → IsSoundEvent e → Some (seen_event r e) ≡ asked_event (Commit cvd parents message [] rows) w
    → first_off w.format e (numbers_in events) ≡ None
commit_applies events r w e cvd parents message rows stands fits sound spells =
    applies_there events r w e stands
    (commit_found r w e cvd (version_of parents message rows) (first_set (numbered cvd) w.sets) refl fits (good w stands.reached) sound spells)
