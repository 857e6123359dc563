use Rattle.std.proofs.Common.{sym, ◌∙◌, ◌++◌, ◌+◌, ◌∷◌, [], ◌≤◌, ap, arith, ℕ, drop, slice_index_or}
use Rattle.std.proofs.lemmas.List.{drop_more, take_more}
use Rattle.ov_store.specs.Refusals.{vids_off}
use Rattle.ov_store.proofs.listing.listed.Goals as goal

pub overflow_cast-vid : goal.overflow_cast-vid
overflow_cast-vid c =
    let most : slice_index_or c.args.vids.now c.loop-vid.vid-index 0 ≤ c.args.count = (c.in_ok-see.ensures c.loop-vid.invariant.before c.loop-vid.invariant.sees).1
    in omega (arith, most, c.requires.few)

pub loop-vid-preserved : goal.loop-vid-preserved
loop-vid-preserved c =
    let at : ℕ = c.loop-vid.vid-index
    in let passed : _ = c.in_ok-see.ensures c.loop-vid.invariant.before c.loop-vid.invariant.sees
    in record {
      before = slice_index_or c.args.vids.now at 0 ∷ c.loop-vid.invariant.before;
      sees = passed.2;
      rest = c.loop-vid.invariant.rest ∙ ap (vids_off c.args.count c.loop-vid.invariant.before) (drop_more c.args.vids.now at 0 c.loop-vid-test.true) ∙ passed.3 (drop (at + 1) c.args.vids.now);
      made_are = c.in_ok-push.ensures.items ∙ ap (λ xs. xs ++ slice_index_or c.args.vids.now at 0 ∷ []) c.loop-vid.invariant.made_are ∙ sym (take_more c.args.vids.now at 0 c.loop-vid-test.true);
    }
