use Rattle.std.proofs.Common.{rules, ◌≡◌, length, sym, ◌∙◌, ap, subst, arith, Some}
use Rattle.std.specs.List.{zip}
use Rattle.ov_event.specs.declared.event.Event as raw
use Rattle.ov_event.specs.declared.event.Event.TheVariants as says
use Rattle.ov_event.specs.Spelling.{AreParents}
use Rattle.ov_member.specs.Rids.{left_out}
use Rattle.ov_model.specs.Moves.{version_of, wide}
use Rattle.ov_catalog.specs.Events as events
use Rattle.ov_catalog.specs.Events.{adding_event}
use Rattle.ov_catalog.specs.Raw.{adding, event_in}
use Rattle.ov_core.specs.Brought.{extent_at, content, segments_in}
use Rattle.law_events.specs.Fitting.{IsSoundEvent}
use Rattle.law_image.specs.Lists.{list_in}
use Rattle.ov_version_bytes.specs.Next.{spelled_place}
use Rattle.ov_version_bytes.specs.Written.{numbered, not_held, list_written, segment_written}
use Rattle.ov_version_bytes.proofs.Edges.{parents_spelled}
use Rattle.ov_version_bytes.proofs.Fitting.{AreRuns, list_low, list_sound, segment_sound}
use Rattle.ov_version_bytes.proofs.Following.{event_asked, asked_of, content_adding, known_of, left_long, place_back, sound_adding}
use Rattle.ov_version_bytes.proofs.Keeping.{kept_few}
use Rattle.ov_version_bytes.proofs.next.next_version.Goals as goal

pub commit_of-requires-clause-parents : goal.commit_of-requires-clause-parents
commit_of-requires-clause-parents c =
    let weights = c.in_ok-edges.ensures.weights
    in subst AreParents (sym c.in_ok-edges.ensures.edges)
    (parents_spelled c.args.next.parents.now c.as_slice-2.result.now c.requires.parents c.in_ok-edges.ensures.vids weights)

pub commit_of-requires-clause-added : goal.commit_of-requires-clause-added
commit_of-requires-clause-added c =
    let count : c.len-count.result ≡ length c.args.next.rows.now = search rules
    in let added = c.in_ok-runs.ensures.added ∙ ap (λ rids. length (not_held c.args.next.held.now (numbered rids c.args.next.rows.now))) c.as_slice.ensures
    in omega (arith, count, added, kept_few c.args.next.held.now c.args.next.made.rids c.args.next.rows.now c.requires.given.as_many)

pub commit_of-requires-clause-list : goal.commit_of-requires-clause-list
commit_of-requires-clause-list c =
    let next = c.args.next
    in list_low next.held.now next.made.rids next.rows.now c.in_ok-runs.runs.list.items c.in_ok-runs.runs.segment.items c.requires.rows.1.few c.requires.given
    (record {
      list_is = c.in_ok-runs.ensures.list ∙ ap list_written c.as_slice.ensures;
      segment_is = c.in_ok-runs.ensures.segment ∙ ap (λ rids. segment_written next.held.now rids next.rows.now) c.as_slice.ensures;
      short = c.in_ok-runs.ensures.short;
    })

runs_are : (c : goal.After-drop-made-3) → AreRuns c.args.next.held.now c.args.next.made.rids c.args.next.rows.now c.in_ok-runs.runs.list.items c.in_ok-runs.runs.segment.items
runs_are c = record {
  list_is = c.in_ok-runs.ensures.list ∙ ap list_written c.as_slice.ensures;
  segment_is = c.in_ok-runs.ensures.segment ∙ ap (λ rids. segment_written c.args.next.held.now rids c.args.next.rows.now) c.as_slice.ensures;
  short = c.in_ok-runs.ensures.short;
}

-- the event, by the rows that come to the partition
event_is : (c : goal.After-drop-made-3) → c.in_ok-commit.commit
    ≡ says.Commit c.args.next.cvd c.args.next.vid c.args.next.message.now (zip c.args.next.parents.now c.args.next.made.weights) (length c.args.next.rows.now) c.args.next.made.fresh
    (spelled_place c.args.next.place) (length (not_held c.args.next.held.now (numbered c.args.next.made.rids c.args.next.rows.now)))
    (extent_at 0 c.in_ok-runs.runs.list.items) (extent_at 0 c.in_ok-runs.runs.segment.items)
event_is c =
    let count : c.len-count.result ≡ length c.args.next.rows.now = search rules
    in let edges = c.in_ok-edges.ensures.edges ∙ ap (zip c.args.next.parents.now) c.as_slice-2.ensures
    in let added = c.in_ok-runs.ensures.added ∙ ap (λ rids. length (not_held c.args.next.held.now (numbered rids c.args.next.rows.now))) c.as_slice.ensures
    in c.in_ok-commit.ensures.made
    ∙ (λ i. says.Commit c.args.next.cvd c.args.next.vid c.args.next.message.now (edges i) (count i) c.args.next.made.fresh (spelled_place c.args.next.place) (added i)
    (extent_at 0 c.in_ok-runs.runs.list.items) (extent_at 0 c.in_ok-runs.runs.segment.items))

-- and by their rids
event_told : (c : goal.After-drop-made-3) → c.in_ok-commit.commit
    ≡ says.Commit c.args.next.cvd c.args.next.vid c.args.next.message.now (zip c.args.next.parents.now c.args.next.made.weights) (length c.args.next.rows.now) c.args.next.made.fresh
    (spelled_place c.args.next.place) (length (left_out c.args.next.made.rids c.args.next.held.now))
    (extent_at 0 c.in_ok-runs.runs.list.items) (extent_at 0 c.in_ok-runs.runs.segment.items)
event_told c =
    event_is c
    ∙ ap (λ added. says.Commit c.args.next.cvd c.args.next.vid c.args.next.message.now (zip c.args.next.parents.now c.args.next.made.weights) (length c.args.next.rows.now)
    c.args.next.made.fresh (spelled_place c.args.next.place) added (extent_at 0 c.in_ok-runs.runs.list.items) (extent_at 0 c.in_ok-runs.runs.segment.items))
    (left_long c.args.next.held.now c.args.next.made.rids c.args.next.rows.now c.requires.given.as_many)

-- and with the columns
event_wide : (c : goal.After-drop-made-3) → (e : raw.Event) → e ≡ adding c.args.next.added.now c.in_ok-commit.commit → e
    ≡ adding c.args.next.added.now (says.Commit c.args.next.cvd c.args.next.vid c.args.next.message.now (zip c.args.next.parents.now c.args.next.made.weights) (length c.args.next.rows.now)
    c.args.next.made.fresh (spelled_place c.args.next.place) (length (left_out c.args.next.made.rids c.args.next.held.now))
    (extent_at 0 c.in_ok-runs.runs.list.items) (extent_at 0 c.in_ok-runs.runs.segment.items))
event_wide c e is = is ∙ ap (adding c.args.next.added.now) (event_told c)

pub returns-clause-event_is : goal.returns-clause-event_is
returns-clause-event_is c = event_wide c c.in_ok-with_columns.field-0 c.in_ok-with_columns.ensures.made

pub returns-clause-sound : goal.returns-clause-sound
returns-clause-sound c =
    let next = c.args.next
    in let list = c.in_ok-runs.runs.list.items
    in let segment = c.in_ok-runs.runs.segment.items
    in subst IsSoundEvent (sym (c.in_ok-with_columns.ensures.made ∙ ap (adding next.added.now) (event_is c)))
    (sound_adding next.added.now next.cvd next.vid next.message.now (zip next.parents.now next.made.weights) (length next.rows.now) next.made.fresh (spelled_place next.place)
    (length (not_held next.held.now (numbered next.made.rids next.rows.now))) (extent_at 0 list) (extent_at 0 segment) (
      list_sound next.held.now next.made.rids next.rows.now list segment c.requires.rows.1.few c.requires.given (runs_are c),
      segment_sound c.requires.rows.0 next.held.now next.made.rids next.rows.now list segment c.requires.rows.1 c.requires.given (runs_are c),
    ))

pub returns-clause-says : goal.returns-clause-says
returns-clause-says c = λ w d reached found is.
    let next = c.args.next
    in let runs = runs_are c
    in let list = c.in_ok-runs.runs.list.items
    in let segment = c.in_ok-runs.runs.segment.items
    in let commit : raw.Event =
    says.Commit next.cvd next.vid next.message.now (zip next.parents.now next.made.weights) (length next.rows.now) next.made.fresh (spelled_place next.place)
    (length (left_out next.made.rids next.held.now)) (extent_at 0 list) (extent_at 0 segment)
    in ap Some (
    ap (λ e. content (event_in e) list segment) (event_wide c c.in_ok-with_columns.field-0 c.in_ok-with_columns.ensures.made)
    ∙ content_adding next.added.now commit list segment
    ∙ ap (adding_event next.added.now) (
    (λ i. events.Commit next.cvd next.vid next.message.now (zip next.parents.now next.made.weights) (length next.rows.now) next.made.fresh (place_back next.place i)
    (length (left_out next.made.rids next.held.now)) (list_in (runs.list_is i)) (segments_in (runs.segment_is i)))
    ∙ event_asked (wide next.added.now d) (version_of next.parents.now next.message.now next.rows.now) next.vid next.made next.place next.held.now c.requires.rows.0
    (known_of next.added.now next.cvd w d reached found) is c.requires.rows.1 c.requires.given next.cvd))
    ∙ sym (asked_of next.cvd next.parents.now next.message.now next.added.now next.rows.now w d found)
