use Rattle.std.proofs.Common.{◌≡◌, ◌+◌, ◌<◌, ℕ, List, length, get_or, take, drop, set, cond, refl, sym, ◌∙◌, ap, subst, arith}
use Rattle.std.specs.Prelude.{Option, None, []}
use Rattle.ov_value.specs.Rows.{Fits}
use Rattle.ov_model.specs.Assigned.{rid_of_row}
use Rattle.ov_model.specs.Records.{first_of}
use Rattle.ov_records.specs.Records.{pairs_of}
use Rattle.ov_records.specs.Passing.{AreBelow, AreNotAbove}
use Rattle.ov_records.specs.Found.{has_found, or_found, shared_found}
use Rattle.ov_records.proofs.Finds.{passed_none, rises_on, below_here, passed_on, found_set, weight_more}
use Rattle.ov_records.proofs.sharing.share.Goals.{then-met, else-met}
use Rattle.ov_records.proofs.sharing.share.Goals as goal

pub loop-i-init : goal.loop-i-init
loop-i-init c = record {
  rises = c.requires.rows;
  within = omega arith;
  passed = passed_none c.args.schema.now c.args.parent.now c.args.rows.now;
  small = omega arith;
  found = refl;
  weight = omega arith;
}

pub meet-met-requires-clause-row : goal.meet-met-requires-clause-row
meet-met-requires-clause-row c = subst (Fits c.args.schema.now) (sym c.row.ensures) (c.requires.rows_fit c.loop-i.i [] (omega (arith, c.loop-i-test.true, c.len-i-end.ensures.count)))

pub meet-met-requires-clause-below : goal.meet-met-requires-clause-below
meet-met-requires-clause-below c =
    subst (AreBelow c.args.schema.now (take c.loop-i.passed c.args.parent.now)) (sym c.row.ensures)
    (below_here c.args.schema.now c.args.rows.now c.loop-i.i (omega (arith, c.loop-i-test.true, c.len-i-end.ensures.count)) (take c.loop-i.passed c.args.parent.now) c.loop-i.invariant.passed)

pub loop-i-preserved : goal.loop-i-preserved
loop-i-preserved c =
    let schema = c.args.schema.now in
    let parent = pairs_of c.args.parent.now in
    let rows = c.args.rows.now in
    let found : List (Option ℕ) = c.loop-i.found in
    let i = c.loop-i.i in
    let row = get_or rows i [] in
    let new = c.meet-met.result.rid in
    let front = take c.meet-met.result.passed c.args.parent.now in
    let within : i < length rows = omega (arith, c.loop-i-test.true, c.len-i-end.ensures.count) in
    let long : length found ≡ length rows = c.loop-i.auto.found ∙ c.requires.found in
    let rid : new ≡ first_of (get_or found i None) (rid_of_row parent row) = c.meet-met.ensures.rid ∙ ap (λ r. first_of (get_or found i None) (rid_of_row parent r)) c.row.ensures in
    let shared : c.meet-met.result.shared ≡ has_found parent new row = c.meet-met.ensures.shared ∙ ap (λ r. has_found parent new r) c.row.ensures in
    let all = or_found c.args.found.now rows parent in
    let grown : c.if-met.weight ≡ c.loop-i.weight + cond (has_found parent new row) 1 0 =
    elim c.if-met.branch [
      | then-met w ↦ w.weight-is ∙ ap (λ b. c.loop-i.weight + cond b 1 0) (sym w.if-met.true ∙ shared)
      | else-met w ↦ w.weight-is ∙ (omega arith) ∙ ap (λ b. c.loop-i.weight + cond b 1 0) (sym w.if-met.false ∙ shared)
    ] in
    record {
      rises = rises_on schema rows i within c.loop-i.invariant.rises;
      within = c.meet-met.ensures.within;
      passed = passed_on schema rows i within front c.loop-i.invariant.rises (subst (AreNotAbove schema front) c.row.ensures c.meet-met.ensures.passed);
      small = elim c.if-met.branch [ then-met w ↦ omega (arith, w.weight-is, c.loop-i.invariant.small) | else-met w ↦ omega (arith, w.weight-is, c.loop-i.invariant.small) ];
      found = found_set parent found rows i new within long rid all c.loop-i.invariant.found;
      weight =
          ap (λ n. n + shared_found parent (or_found (drop (i + 1) (set found i new)) (drop (i + 1) rows) parent) (drop (i + 1) rows)) grown
          ∙ weight_more parent found rows i new within long rid c.loop-i.weight (shared_found parent all rows) c.loop-i.invariant.weight;
    }
