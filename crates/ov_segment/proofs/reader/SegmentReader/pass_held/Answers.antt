use Rattle.std.proofs.Common.{◌≡◌, ◌-◌, List, ℕ, length, take, drop, sym, ◌∙◌, ap, subst, arith}
use Rattle.std.proofs.lemmas.List.{take_rest}
use Rattle.ov_segment.specs.Held.{Reader}
use Rattle.ov_segment.specs.Keeping.{Walk}
use Rattle.ov_segment.specs.Segments.{segment_spelling}
use Rattle.ov_segment.specs.Keeping.{Passes, Stops}
use Rattle.ov_segment.proofs.PassLemmas.{rest_is}
use Rattle.ov_segment.proofs.reader.SegmentReader.pass_held.Goals as goal

pub returns-clause-passes : goal.returns-clause-passes
returns-clause-passes c =
    let rest : List ℕ = c.in_ok-stop.field-0.rest.now in
    let items : List ℕ = c.self.inside.buffer.items in
    let start : Walk = record { inside = c.args.ahead.now.inside; edges = c.args.ahead.now.edges } in
    let end : Walk = record { inside = c.in_ok-stop.field-0.ahead.inside; edges = c.in_ok-stop.field-0.ahead.edges } in
    let p = c.in_ok-stop.ensures.passes in
    let bytes_is : take (length c.deref.result.now - c.self.inside.start) (drop c.self.inside.start c.deref.result.now) ≡ drop c.self.inside.start items =
    take_rest c.deref.result.now c.self.inside.start ∙ ap (drop c.self.inside.start) c.deref.ensures.value in
    let held : drop (c.len.result - length rest) items ≡ rest =
    rest_is items (segment_spelling p.passed) rest c.self.inside.start c.len.result (omega arith) (omega arith) (sym bytes_is ∙ p.bytes_are) in
    subst (λ (r : Reader). Passes c.args.schema.now r.last r.held start c.args.rids.now c.args.table.now c.in_ok-stop.field-0.last (drop (c.len.result - length rest) items) end c.pass_all.new.rids c.pass_all.new.table) c.self.view_is
    (subst (λ (l : List ℕ). Passes c.args.schema.now c.self.inside.last l start c.args.rids.now c.args.table.now c.in_ok-stop.field-0.last (drop (c.len.result - length rest) items) end c.pass_all.new.rids c.pass_all.new.table) bytes_is
    (subst (λ (l : List ℕ). Passes c.args.schema.now c.self.inside.last (take (length c.deref.result.now - c.self.inside.start) (drop c.self.inside.start c.deref.result.now)) start c.args.rids.now c.args.table.now c.in_ok-stop.field-0.last l end c.pass_all.new.rids c.pass_all.new.table) (sym held) p))

pub returns-clause-stops : goal.returns-clause-stops
returns-clause-stops c =
    let rest : List ℕ = c.in_ok-stop.field-0.rest.now in
    let items : List ℕ = c.self.inside.buffer.items in
    let p = c.in_ok-stop.ensures.passes in
    let held : drop (c.len.result - length rest) items ≡ rest =
    rest_is items (segment_spelling p.passed) rest c.self.inside.start c.len.result (omega arith) (omega arith)
    (ap (drop c.self.inside.start) (sym c.deref.ensures.value) ∙ sym (take_rest c.deref.result.now c.self.inside.start) ∙ p.bytes_are) in
    subst (λ (l : List ℕ). Stops c.args.schema.now c.in_ok-stop.field-0.last l c.in_ok-stop.field-0.stop) (sym held) c.in_ok-stop.ensures.stops
