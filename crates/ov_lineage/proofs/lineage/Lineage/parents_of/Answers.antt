use Rattle.std.proofs.Common.{◌≡◌, ◌+◌, ◌-◌, ◌||◌, ◌==◌, ℕ, List, Bool, false, length, get_or, refl, sym, ◌∙◌, ap, subst, arith}
use Rattle.std.specs.List.{list_any}
use Rattle.std.proofs.lemmas.Result.{IfOk-weaker}
use Rattle.std.proofs.lemmas.List.{length-replicate}
use Rattle.ov_graph.specs.Entries.{marked_vids}
use Rattle.ov_graph.proofs.LineageLemmas.{written}
use Rattle.ov_model.specs.Lineages.{parents_at}
use Rattle.ov_lineage.specs.Bare.{AreWithin}
use Rattle.ov_lineage.specs.Related.{AreParents, versions_with}
use Rattle.ov_lineage.proofs.Ranges.{own-within, own-parents}
use Rattle.ov_lineage.proofs.Rising.{none-marked, parents-marked}
use Rattle.ov_lineage.proofs.lineage.Lineage.parents_of.Goals as goal

pub mark-requires : goal.mark-requires
mark-requires c =
    let parents = c.args.self.now in
    let are : AreParents parents = subst AreParents c.self.view_is c.self.invariant.0 in
    let all : c.as_slice-all.result.now ≡ parents = c.as_slice-all.ensures ∙ c.self.view_is in
    let own : c.index-all-vid.result ≡ get_or parents (c.args.vid - 1) c.index-all-vid.result =
    subst (λ (ps : List (List ℕ)). c.index-all-vid.result ≡ get_or ps (c.args.vid - 1) c.index-all-vid.result) all c.index-all-vid.is in
    let within : AreWithin (length parents) c.index-all-vid.result = own-within parents c.args.vid c.index-all-vid.result are.earlier c.requires.from_one c.requires.is_there own in
    let count : length c.deref_mut.result.now ≡ length parents =
    ap (λ (ms : List Bool). length ms) (c.deref_mut.ensures.value ∙ c.in_ok-marks.ensures.items_if_clones_equal (λ y e. e)) ∙ length-replicate (length c.as_slice-all.result.now) false
    ∙ ap (λ (ps : List (List ℕ)). length ps) all in
    subst (λ (n : ℕ). AreWithin n c.as_slice.result.now) (sym count) (subst (AreWithin (length parents)) (sym c.as_slice.ensures) within)

pub returns : goal.returns
returns c =
    let parents = c.args.self.now in
    let are : AreParents parents = subst AreParents c.self.view_is c.self.invariant.0 in
    let all : c.as_slice-all.result.now ≡ parents = c.as_slice-all.ensures ∙ c.self.view_is in
    let whole : length c.mark.new.marks ≡ length c.in_ok-marks.marks.items = c.mark.auto.marks ∙ rw c.deref_mut.ensures.value refl in
    let is : c.deref.result.now ≡ c.mark.new.marks = c.deref.ensures.value ∙ written c.in_ok-marks.marks.len c.in_ok-marks.marks.items c.mark.new.marks whole (omega (arith, c.in_ok-marks.marks.ok)) in
    let empty = c.in_ok-marks.ensures.items_if_clones_equal (λ y e. e) in
    let long : length c.mark.new.marks ≡ length parents =
    whole ∙ ap (λ (ms : List Bool). length ms) empty ∙ length-replicate (length c.as_slice-all.result.now) false ∙ ap (λ (ps : List (List ℕ)). length ps) all in
    let old : (k : ℕ) → get_or c.deref_mut.result.now k false ≡ false =
    λ k. ap (λ (ms : List Bool). get_or ms k false) (c.deref_mut.ensures.value ∙ empty) ∙ none-marked (length c.as_slice-all.result.now) k in
    let at : c.index-all-vid.result ≡ get_or parents (c.args.vid - 1) c.index-all-vid.result =
    subst (λ (ps : List (List ℕ)). c.index-all-vid.result ≡ get_or ps (c.args.vid - 1) c.index-all-vid.result) all c.index-all-vid.is in
    let own : c.as_slice.result.now ≡ parents_at (versions_with parents) c.args.vid =
    c.as_slice.ensures ∙ own-parents parents c.args.vid c.index-all-vid.result c.requires.from_one c.requires.is_there at in
    let same : (k : ℕ) → get_or c.mark.new.marks k false ≡ list_any (λ p. p == k + 1) (parents_at (versions_with parents) c.args.vid) =
    λ k. c.mark.ensures k ∙ (λ i. old k i || list_any (λ p. p == k + 1) (own i)) in
    IfOk-weaker c.marked.result _ _ (λ vids found. found ∙ ap marked_vids is ∙ parents-marked parents c.args.vid c.mark.new.marks long same) c.marked.ensures
