use Rattle.std.proofs.Common.{◌≡◌, ◌+◌, ◌-◌, ◌<◌, length, true, false, sym, ◌∙◌, refl, arith}
use Rattle.std.proofs.lemmas.List.{length-map, get_or_read}
use Rattle.ov_graph.specs.Entries.{version_of, versions_of}
use Rattle.ov_graph.proofs.LineageLemmas.{GoesUp, is_marked, parents-at, parents-below-at, up-pass, up-all, written}
use Rattle.ov_graph.proofs.lineage.ancestor_marks.Goals as goal

pub mark_parents-requires : goal.mark_parents-requires
mark_parents-requires c =
    let entries = c.args.entries.now in
    let up = c.loop-at.invariant.0.long in
    let long = length-map entries version_of in
    let same = c.deref_mut.ensures.len in
    let kept : length c.deref_mut.result.now ≡ length entries = rw c.deref_mut.ensures.value (omega arith) in
    let parents = parents-at entries (c.loop-at.at - 1) c.index-entries-at.result c.deref.result.now (omega arith) c.deref.ensures.value in
    parents-below-at entries (c.loop-at.at - 1) (length c.deref_mut.result.now) c.deref.result.now c.requires.graph (omega arith) (omega arith) parents

pub loop-at-preserved-then-index : goal.loop-at-preserved-then-index
loop-at-preserved-then-index c =
    let entries = c.args.entries.now in
    let marks = c.loop-at.marks.items in
    let at = c.loop-at.at - 1 in
    let back : at + 1 ≡ c.loop-at.at = omega arith in
    let whole : length c.mark_parents.new.marks ≡ length marks = c.mark_parents.auto.marks ∙ rw c.deref_mut.ensures.value refl in
    let is = written c.loop-at.marks.len marks c.mark_parents.new.marks whole (omega (arith, c.loop-at.marks.ok)) in
    let parents = parents-at entries at c.index-entries-at.result c.deref.result.now (omega arith) c.deref.ensures.value in
    let up : GoesUp (versions_of entries) (c.args.vid - 1 + 1) (at + 1) marks = rw back c.loop-at.invariant.0 in
    let marked : is_marked marks (at + 1) ≡ true = let lt : at < length marks = (let up = c.loop-at.invariant.0.long in let long = length-map entries version_of in omega arith) in let s : at + 1 - 1 ≡ at = omega arith in rw s (sym (get_or_read marks at c.index.result.now lt c.index.ensures false) ∙ c.if-index.true) in
    (rw is (up-pass (versions_of entries) c.requires.graph (c.args.vid - 1 + 1) at marks c.mark_parents.new.marks c.deref.result.now parents up whole marked (rw c.deref_mut.ensures.value at c.mark_parents.ensures) (omega arith)), omega arith)

pub returns : goal.returns
returns c =
    let entries = c.args.entries.now in
    let vid : c.args.vid - 1 + 1 ≡ c.args.vid = omega arith in
    let zero : c.loop-at.at ≡ 0 = omega arith in
    let long = length-map entries version_of in
    let all = up-all (versions_of entries) (c.args.vid - 1) c.loop-at.marks.items c.requires.graph (omega arith) (rw zero at c.loop-at.invariant.0) in
    rw (vid, long) at all
