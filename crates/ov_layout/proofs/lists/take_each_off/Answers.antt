use Rattle.std.proofs.Common.{ℕ, List, filter, get_or, sym, ◌∙◌, ap, subst}
use Rattle.ov_layout.specs.Parts.{Ascend}
use Rattle.ov_layout.proofs.LeaveLemmas.{Ascend-filter}
use Rattle.ov_layout.proofs.TakenLemmas.{other_than, off-more, all-stay}
use Rattle.ov_layout.proofs.lists.take_each_off.Goals as goal

pub loop-vid-init : goal.loop-vid-init
loop-vid-init c = record { left = sym (all-stay c.args.list.now.items); ascend = c.requires }

pub loop-vid-preserved : goal.loop-vid-preserved
loop-vid-preserved c =
    let leaving = c.args.leaving.now in
    let k = c.loop-vid.vid-index in
    let vid = get_or leaving k 0 in
    record {
      left = c.take_off.ensures ∙ ap (filter (other_than vid)) c.loop-vid.invariant.left ∙ off-more leaving c.args.list.now.items k c.loop-vid-test.true;
      ascend = subst (λ (vs : List ℕ). Ascend 0 vs) (sym c.take_off.ensures) (Ascend-filter 0 (other_than vid) c.loop-vid.list.items c.loop-vid.invariant.ascend);
    }
