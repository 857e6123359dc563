use Rattle.std.proofs.Common.{◌≡◌, List, Bool, ◌+◌, ◌-◌, length, get_or, false, ◌∙◌, ap, arith}
use Rattle.std.specs.List.{list_any}
use Rattle.std.proofs.lemmas.List.{length-map}
use Rattle.ov_graph.specs.Entries.{version_of, versions_of}
use Rattle.ov_graph.proofs.LineageLemmas.{parents-at, parents-below-at, down-more, down-all}
use Rattle.ov_graph.proofs.lineage.descendant_marks.Goals as goal

pub has_marked-requires : goal.has_marked-requires
has_marked-requires c =
    let entries = c.args.entries.now in
    let down = c.loop-at.invariant.long in
    let long = length-map entries version_of in
    let kept : length c.deref.result.now ≡ length entries = rw c.deref.ensures.value (omega arith) in
    let parents = parents-at entries c.loop-at.at c.index-entries-at.result c.deref-in-loop-at.result.now (omega arith) c.deref-in-loop-at.ensures.value in
    parents-below-at entries c.loop-at.at (length c.deref.result.now) c.deref-in-loop-at.result.now c.requires.graph (omega arith) (omega arith) parents

pub loop-at-preserved : goal.loop-at-preserved
loop-at-preserved c =
    let entries = c.args.entries.now in
    let marks = c.loop-at.marks.items in
    let at = c.loop-at.at in
    let long = length-map entries version_of in
    let parents = parents-at entries at c.index-entries-at.result c.deref-in-loop-at.result.now (omega arith) c.deref-in-loop-at.ensures.value in
    let found : c.has_marked.result ≡ list_any (λ edge. get_or marks (edge.0 - 1) false) c.deref-in-loop-at.result.now = c.has_marked.ensures ∙ ap (λ (ms : List Bool). list_any (λ edge. get_or ms (edge.0 - 1) false) c.deref-in-loop-at.result.now) c.deref.ensures.value in
    down-more (versions_of entries) c.requires.graph (c.args.vid - 1) at marks c.loop-at.invariant (omega arith) c.has_marked.result (rw parents found) (omega arith)

pub returns : goal.returns
returns c =
    let entries = c.args.entries.now in
    let vid : c.args.vid - 1 + 1 ≡ c.args.vid = omega arith in
    let long = length-map entries version_of in
    let all = down-all (versions_of entries) (c.args.vid - 1) c.loop-at.at c.loop-at.marks.items c.requires.graph (omega arith) (omega arith) c.loop-at.invariant in
    rw (vid, long) at all
