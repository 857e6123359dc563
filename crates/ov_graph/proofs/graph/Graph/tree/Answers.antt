use Rattle.std.proofs.Common.{◌≡◌, List, take, ap, ◌∙◌, arith}
use Rattle.std.proofs.lemmas.List.{take_all}
use Rattle.ov_graph.specs.Versions.{reduced}
use Rattle.ov_graph.specs.Entries.{versions_of}
use Rattle.ov_graph.specs.declared.graph.Entry.{Entry}
use Rattle.ov_graph.proofs.ReducedLemmas.{reduced-IsSound}
use Rattle.ov_graph.proofs.graph.Graph.tree.Goals as goal

pub returns-clause-sound : goal.returns-clause-sound
returns-clause-sound c =
    let items = c.deref-entry-items.result.now in
    let all : take c.loop-entry.entry-index items ≡ c.self.inside.entries.items = take_all c.loop-entry.entry-index items (omega arith) ∙ c.deref-entry-items.ensures.value in
    let is = c.loop-entry.invariant ∙ ap (λ (es : List Entry). reduced (versions_of es)) all in
    rw is (reduced-IsSound (versions_of c.self.inside.entries.items) c.self.invariant)
