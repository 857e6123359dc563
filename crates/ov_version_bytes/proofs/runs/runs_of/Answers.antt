use Rattle.std.proofs.Common.{rules, ◌≡◌, ◌<◌, ◌^◌, length, map, ℕ, List, sym, ◌∙◌, ap, subst, arith}
use Rattle.std.specs.List.{All}
use Rattle.ov_member.specs.Rids.{AreRids}
use Rattle.ov_core.specs.Rooms.{pages_for}
use Rattle.ov_version_bytes.specs.declared.order.Listed.{Listed}
use Rattle.ov_version_bytes.proofs.Listing.{list_sized, sorted_set}
use Rattle.ov_version_bytes.proofs.Keeping.{kept_few, segment_sized}
use Rattle.ov_version_bytes.proofs.Ordering.{left_is, left_long, left_there, list_is, listed_rids, segment_is}
use Rattle.ov_version_bytes.proofs.runs.runs_of.Goals as goal

-- by their rids they are a set
pub list_of-requires : goal.list_of-requires
list_of-requires c =
    let rids = c.args.rids.now in
    let given = c.requires.given in
    let is = ap (map (λ r. r.rid)) c.as_slice.ensures.value ∙ listed_rids rids c.args.rows.now c.in_ok-records.records.items given (record { moved = c.in_ok-records.ensures.moved; up = c.in_ok-records.ensures.rise }) in
    subst AreRids (sym is) (sorted_set rids given.once given.some given.low)

pub overflow_cast-added : goal.overflow_cast-added
overflow_cast-added c =
    let rids = c.args.rids.now in
    let held = c.args.held.now in
    let ls = c.in_ok-records.records.items in
    let few = kept_few held rids c.args.rows.now c.requires.given.as_many in
    let size : c.len-added.result ≡ length c.in_ok-left.left.items = search rules in
    let left = ap (λ (xs : List Listed). length xs) (left_is held ls _ _ c.as_slice-2.ensures.value c.in_ok-left.ensures) in
    let long = left_long held rids c.args.rows.now ls c.requires.given (record { moved = c.in_ok-records.ensures.moved; up = c.in_ok-records.ensures.rise }) in
    omega (arith, few, size, left, long, c.requires.rows.1.few)

pub segment_of-requires-clause-there : goal.segment_of-requires-clause-there
segment_of-requires-clause-there c =
    let held = c.args.held.now in
    let ls = c.in_ok-records.records.items in
    let left = c.as_slice-3.ensures.value ∙ (left_is held ls _ _ c.as_slice-2.ensures.value c.in_ok-left.ensures) in
    subst (All (λ l. l.row < length c.args.rows.now)) (sym left) (left_there held c.args.rids.now c.args.rows.now ls c.requires.given (record { moved = c.in_ok-records.ensures.moved; up = c.in_ok-records.ensures.rise }))

-- the two runs
pub pages_of-segment_pages-requires : goal.pages_of-segment_pages-requires
pages_of-segment_pages-requires c =
    let rids = c.args.rids.now in
    let held = c.args.held.now in
    let ls = c.in_ok-records.records.items in
    let bytes = c.as_slice-4.ensures.value
    ∙ segment_is held rids c.args.rows.now ls _ _ c.requires.given (record { moved = c.in_ok-records.ensures.moved; up = c.in_ok-records.ensures.rise }) (c.as_slice-3.ensures.value ∙ (left_is held ls _ _ c.as_slice-2.ensures.value c.in_ok-left.ensures)) c.in_ok-segment.ensures in
    let size = segment_sized c.requires.rows.0 held rids c.args.rows.now c.requires.rows.1 c.requires.given in
    subst (λ (bs : List ℕ). length bs < 2 ^ 43) (sym bytes) (omega (arith, size.1))

pub pages_of-requires : goal.pages_of-requires
pages_of-requires c =
    let rids = c.args.rids.now in
    let bytes = c.as_slice-then-segment_pages-ge-TOO_MANY_PAGES.ensures.value
    ∙ list_is rids c.args.rows.now c.in_ok-records.records.items _ _ c.requires.given (record { moved = c.in_ok-records.ensures.moved; up = c.in_ok-records.ensures.rise }) c.as_slice.ensures.value c.in_ok-list.ensures in
    let size = list_sized rids in
    subst (λ (bs : List ℕ). length bs < 2 ^ 43) (sym bytes) (omega (arith, size.size, size.few, c.requires.given.as_many, c.requires.rows.1.few))

pub returns-then-segment_pages-ge-TOO_MANY_PAGES-clause-cause : goal.returns-then-segment_pages-ge-TOO_MANY_PAGES-clause-cause
returns-then-segment_pages-ge-TOO_MANY_PAGES-clause-cause c =
    let rids = c.args.rids.now in
    let held = c.args.held.now in
    let ls = c.in_ok-records.records.items in (
      c.pages_of.ensures ∙ ap pages_for (c.as_slice-then-segment_pages-ge-TOO_MANY_PAGES.ensures.value
          ∙ list_is rids c.args.rows.now ls _ _ c.requires.given (record { moved = c.in_ok-records.ensures.moved; up = c.in_ok-records.ensures.rise }) c.as_slice.ensures.value c.in_ok-list.ensures),
      c.pages_of-segment_pages.ensures ∙ ap pages_for (c.as_slice-4.ensures.value
          ∙ segment_is held rids c.args.rows.now ls _ _ c.requires.given (record { moved = c.in_ok-records.ensures.moved; up = c.in_ok-records.ensures.rise }) (c.as_slice-3.ensures.value ∙ (left_is held ls _ _ c.as_slice-2.ensures.value c.in_ok-left.ensures)) c.in_ok-segment.ensures),
      c.if-segment_pages-ge-TOO_MANY_PAGES.true,
    )

pub returns-clause-list : goal.returns-clause-list
returns-clause-list c =
    list_is c.args.rids.now c.args.rows.now c.in_ok-records.records.items _ _ c.requires.given (record { moved = c.in_ok-records.ensures.moved; up = c.in_ok-records.ensures.rise }) c.as_slice.ensures.value c.in_ok-list.ensures

pub returns-clause-segment : goal.returns-clause-segment
returns-clause-segment c =
    let held = c.args.held.now in
    let ls = c.in_ok-records.records.items in
    segment_is held c.args.rids.now c.args.rows.now ls _ _ c.requires.given (record { moved = c.in_ok-records.ensures.moved; up = c.in_ok-records.ensures.rise }) (c.as_slice-3.ensures.value ∙ (left_is held ls _ _ c.as_slice-2.ensures.value c.in_ok-left.ensures)) c.in_ok-segment.ensures

pub returns-clause-added : goal.returns-clause-added
returns-clause-added c =
    let held = c.args.held.now in
    let ls = c.in_ok-records.records.items in
    let size : c.len-added.result ≡ length c.in_ok-left.left.items = search rules in
    size
    ∙ ap (λ (xs : List Listed). length xs) (left_is held ls _ _ c.as_slice-2.ensures.value c.in_ok-left.ensures)
    ∙ left_long held c.args.rids.now c.args.rows.now ls c.requires.given (record { moved = c.in_ok-records.ensures.moved; up = c.in_ok-records.ensures.rise })
