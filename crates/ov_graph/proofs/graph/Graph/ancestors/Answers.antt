use Rattle.std.proofs.Common.{◌≡◌, ◌↔◌, ℕ, List, length, sym, ◌∙◌, ap, subst, arith}
use Rattle.std.specs.List.{Contains}
use Rattle.std.proofs.lemmas.Result.{IfOk-weaker}
use Rattle.std.proofs.lemmas.List.{length-map}
use Rattle.ov_graph.specs.Versions.{Version, IsAncestor, IsGraph}
use Rattle.ov_graph.specs.Entries.{version_of, versions_of, marked_vids, AreMarks}
use Rattle.ov_graph.proofs.LineageLemmas.{ancestor-before}
use Rattle.ov_graph.proofs.VidLemmas.{marked-increasing, marked-contains}
use Rattle.ov_graph.proofs.graph.Graph.ancestors.Goals as goal

pub returns-clause-ascending : goal.returns-clause-ascending
returns-clause-ascending c = IfOk-weaker c.marked_vids.result _ _ (λ vids is. rw is (marked-increasing c.deref-2.result.now)) c.marked_vids.ensures

pub returns-clause-ancestors : goal.returns-clause-ancestors
returns-clause-ancestors c =
    let versions = c.args.self.now in
    let marks = c.in_ok-marks.marks.items in
    let is : versions_of c.deref.result.now ≡ versions = ap versions_of c.deref.ensures.value ∙ c.self.view_is in
    let long : length c.deref.result.now ≡ length versions = sym (length-map c.deref.result.now version_of) ∙ ap (λ (vs : List Version). length vs) is in
    let graph : IsGraph versions = subst IsGraph c.self.view_is c.self.invariant in
    let are : AreMarks marks (length versions) (λ other. IsAncestor versions other c.args.vid) =
    (let P : List Version → Type 0 = λ vs. AreMarks marks (length versions) (λ other. IsAncestor vs other c.args.vid) in subst P is (rw long at c.in_ok-marks.ensures)) in
    IfOk-weaker c.marked_vids.result _ _ (λ vids found other.
    (let Q : List ℕ → Type 0 = λ vs. Contains vs other ↔ IsAncestor versions other c.args.vid in subst Q (sym (found ∙ ap marked_vids c.deref-2.ensures.value))) (marked-contains marks (length versions) (λ o. IsAncestor versions o c.args.vid) are
    (λ o above. let b = ancestor-before versions graph above in let one = b.from_one in let low = b.below in let high = b.is_there in (b.from_one, omega arith)) other)) c.marked_vids.ensures
