-- One segment more, kept or not.
use Rattle.std.proofs.Common.{◌≡◌, ◌++◌, ◌∙◌, true, false, sym, ap, arith}
use Rattle.std.proofs.Math.Seq.{append_snoc}
use Rattle.ov_match.specs.Matching.{lies_within}
use Rattle.ov_match.proofs.Counts.{kept_on, places_on}
use Rattle.ov_match.proofs.keeping.keep.Goals.{then-is_within+in_ok-push, else-is_within}
use Rattle.ov_match.proofs.keeping.keep.Goals as goal

pub loop-place-preserved : goal.loop-place-preserved
loop-place-preserved c =
    let wanted = c.args.target.now in
    let segments = c.args.segments.now in
    let i = c.loop-place.place in
    let s = c.index-segments-place.result in
    let lt = c.loop-place-test.true in
    let is = c.index-segments-place.is in
    let before = c.loop-place.invariant in
    elim c.if-is_within.branch [
      | then-is_within+in_ok-push w ↦
          let t : true ≡ lies_within wanted s = sym w.if-is_within.true ∙ c.is_within.ensures in
          record {
            places = rw (w.places-is, w.in_ok-push.ensures.items)
                (append_snoc c.loop-place.places.items i _ ∙ ap (λ l. c.loop-place.places.items ++ l) (sym (places_on wanted segments i s true lt is t)) ∙ before.places);
            records = omega (arith, w.records-is, w.len-records.ensures, kept_on wanted segments i s true lt is t, before.records);
          }
      | else-is_within w ↦
          let t : false ≡ lies_within wanted s = sym w.if-is_within.false ∙ c.is_within.ensures in
          record {
            places = rw w.places-is (ap (λ l. c.loop-place.places.items ++ l) (sym (places_on wanted segments i s false lt is t)) ∙ before.places);
            records = omega (arith, w.records-is, kept_on wanted segments i s false lt is t, before.records);
          }
    ]
