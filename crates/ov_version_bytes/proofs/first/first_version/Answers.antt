use Rattle.std.proofs.Common.{[], rules, ◌≡◌, ◌<◌, ◌^◌, ℕ, List, length, sym, ◌∙◌, ap, subst, arith, Some}
use Rattle.ov_event.specs.declared.event.Event.TheVariants as says
use Rattle.ov_event.specs.Spelling.{IsEvent}
use Rattle.ov_model.specs.Records.{counted}
use Rattle.ov_catalog.specs.Applying.{first_off}
use Rattle.ov_catalog.specs.Events as events
use Rattle.ov_catalog.specs.Raw.{shape_in}
use Rattle.ov_core.specs.Brought.{extent_at, segments_in}
use Rattle.law_image.specs.Lists.{list_in}
use Rattle.ov_version_bytes.specs.Written.{AreGiven, first_event, list_written, segment_written}
use Rattle.ov_version_bytes.proofs.Beginning.{first_spelled, first_applies, first_list, first_segments}
use Rattle.ov_version_bytes.proofs.Fitting.{AreRuns, list_low}
use Rattle.ov_version_bytes.proofs.Counting.{counted_given}
use Rattle.ov_version_bytes.proofs.first.first_version.Goals as goal

pub runs_of-requires-clause-given : goal.runs_of-requires-clause-given
runs_of-requires-clause-given c =
    let count : c.len-count.result ≡ length c.args.rows.now = search rules
    in subst (λ rids. AreGiven rids c.args.rows.now) (sym (c.as_slice.ensures.value ∙ c.in_ok-rids.ensures ∙ ap (counted 1) count)) (counted_given c.args.rows.now c.requires.rows.few)

pub unplaced-requires : goal.unplaced-requires
unplaced-requires c =
    let count : c.len-count.result ≡ length c.args.rows.now = search rules
    in let rids = c.as_slice.ensures.value ∙ c.in_ok-rids.ensures ∙ ap (counted 1) count
    in let is : AreRuns [] (counted 1 (length c.args.rows.now)) c.args.rows.now c.in_ok-runs.runs.list.items c.in_ok-runs.runs.segment.items = record {
      list_is = c.in_ok-runs.ensures.list ∙ ap list_written rids;
      segment_is = c.in_ok-runs.ensures.segment ∙ (λ i. segment_written (c.empty-none.ensures i) (rids i) c.args.rows.now);
      short = c.in_ok-runs.ensures.short;
    }
    in subst (λ (bs : List ℕ). length bs < 2 ^ 32) (sym c.as_slice-2.ensures.value) (list_low [] (counted 1 (length c.args.rows.now)) c.args.rows.now c.in_ok-runs.runs.list.items c.in_ok-runs.runs.segment.items c.requires.rows.few (counted_given c.args.rows.now c.requires.rows.few) is)

written : (c : goal.After-drop-rids-2) → AreRuns [] (counted 1 (length c.args.rows.now)) c.args.rows.now c.in_ok-runs.runs.list.items c.in_ok-runs.runs.segment.items
written c =
    let count : c.len-count.result ≡ length c.args.rows.now = search rules
    in let rids = c.as_slice.ensures.value ∙ c.in_ok-rids.ensures ∙ ap (counted 1) count
    in record {
      list_is = c.in_ok-runs.ensures.list ∙ ap list_written rids;
      segment_is = c.in_ok-runs.ensures.segment ∙ (λ i. segment_written (c.empty-none.ensures i) (rids i) c.args.rows.now);
      short = c.in_ok-runs.ensures.short;
    }

event_is : (c : goal.After-drop-rids-2) → says.Init c.in_ok-copy.field-0 c.in_ok-schema_of.field-0 c.len-count.result c.unplaced.result c.unplaced-2.result
    ≡ first_event c.args.name.now c.args.schema.now c.args.rows.now c.in_ok-runs.runs.list.items c.in_ok-runs.runs.segment.items
event_is c =
    let count : c.len-count.result ≡ length c.args.rows.now = search rules
    in let list : c.unplaced.result ≡ extent_at 0 c.in_ok-runs.runs.list.items = c.unplaced.ensures ∙ ap (extent_at 0) c.as_slice-2.ensures.value
    in let segment : c.unplaced-2.result ≡ extent_at 0 c.in_ok-runs.runs.segment.items = c.unplaced-2.ensures ∙ ap (extent_at 0) c.as_slice-3.ensures.value
    in λ i. says.Init (c.in_ok-copy.ensures.ok i) (c.in_ok-schema_of.ensures.made i) (count i) (list i) (segment i)

pub returns-clause-event : goal.returns-clause-event
returns-clause-event c =
    let is = written c
    in subst IsEvent (sym (event_is c))
    (first_spelled c.args.name.now c.args.schema.now c.args.rows.now c.in_ok-runs.runs.list.items c.in_ok-runs.runs.segment.items c.requires.name c.in_ok-schema_of.ensures.sound c.requires.rows.few
    (list_low [] (counted 1 (length c.args.rows.now)) c.args.rows.now c.in_ok-runs.runs.list.items c.in_ok-runs.runs.segment.items c.requires.rows.few (counted_given c.args.rows.now c.requires.rows.few) is) (omega (arith, is.short)))

pub returns-clause-says : goal.returns-clause-says
returns-clause-says c = λ w.
    let is = written c
    in let count : c.len-count.result ≡ length c.args.rows.now = search rules
    in let list = ap list_in is.list_is ∙ first_list c.args.schema.now c.args.rows.now c.requires.rows
    in let segments = ap segments_in is.segment_is ∙ first_segments c.args.schema.now c.args.rows.now c.requires.rows
    in λ i. Some (events.Init (c.in_ok-copy.ensures.ok i) (shape_in (c.in_ok-schema_of.ensures.made i)) (count i) (list i) (segments i))

pub returns-clause-applies : goal.returns-clause-applies
returns-clause-applies c = λ n next new room format.
    ap (λ e. first_off format e n) (event_is c)
    ∙ first_applies c.args.name.now c.args.schema.now c.args.rows.now c.in_ok-runs.runs.list.items c.in_ok-runs.runs.segment.items c.requires.name c.in_ok-schema_of.ensures.sound c.requires.rows (written c)
    n next new room format
