-- Those that are equal stand together.
use Rattle.std.proofs.Common.{◌≡◌, ◌-◌, ◌∙◌, [], Bool, List, ap, ap₂, arith, drop, false, filter, is_eq, length, subst, sym, take}
use Rattle.std.specs.Prelude.{if◌then◌else◌}
use Rattle.std.specs.List.{prefix_len}
use Rattle.std.proofs.lemmas.Cmp.{on_total}
use Rattle.std.proofs.lemmas.List.{length-drop, take_all}
use Rattle.ov_model.specs.declared.answer.Cell.{Cell}
use Rattle.ov_terms.specs.declared.spot.Spot.{Spot}
use Rattle.ov_qrun.specs.Keys.{spot_order}
use Rattle.ov_qrun.specs.Ranking.{ranked_lists}
use Rattle.ov_qrun.proofs.CellKinds.{lists-total}
use Rattle.ov_qrun.proofs.Sorting.{Rises, sorted-rises}
use Rattle.ov_join.specs.Partnering.{has_null, row_key, row_order, row_spot}
use Rattle.ov_join.proofs.Searching.{found}
use Rattle.ov_join.proofs.matching.partners_of.Goals as goal

pub returns : goal.returns
returns c =
    let left = c.args.left.now in
    let right = c.args.right.now in
    let xs = c.args.sorted.now in
    let i = c.lower.result in
    let key : Spot → List Cell = row_key right in
    let order = spot_order right.table right.cols.items in
    let p : Spot → Bool = λ spot. is_eq (row_order left right c.args.place spot) in
    let whole : take (length xs - i) (drop i xs) ≡ drop i xs = take_all (length xs - i) (drop i xs) (rw (length-drop i xs) (omega arith)) in
    let none : has_null left (row_spot c.args.place) ≡ false = sym c.has_null.ensures ∙ c.if-has_null.false in
    ap₂ take (c.equal_len.ensures.is ∙ ap (prefix_len p) whole) whole
    ∙ sym (found ranked_lists lists-total (row_key left (row_spot c.args.place)) key i xs
    (subst (Rises order) (sym c.requires.sorted.is) (sorted-rises order (on_total key lists-total) c.requires.sorted.all)) c.lower.ensures.bound c.lower.ensures.point)
    ∙ sym (ap (λ b. if b then [] else filter p xs) none)
