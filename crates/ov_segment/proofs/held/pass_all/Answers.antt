use Rattle.std.proofs.Common.{◌≡◌, ◌+◌, ℕ, List, Bool, length, drop, sym, ◌∙◌, ap, subst, arith}
use Rattle.ov_value.specs.Decoding.{row_of}
use Rattle.ov_segment.specs.Keeping.{Walk, wants, put, Passes}
use Rattle.ov_segment.proofs.PassLemmas.{passes_more, takes_next}
use Rattle.ov_segment.proofs.SegmentLemmas.{tail_slice}
use Rattle.ov_segment.proofs.held.pass_all.Goals as goal

pub loop-rid-preserved : goal.loop-rid-preserved
loop-rid-preserved c =
    let schema = c.args.schema.now in
    let rest : List ℕ = c.loop-rid.rest.now in
    let row : List ℕ = c.in-Record.row.now in
    let rid : ℕ = c.in-Record.rid in
    let marked : Bool = c.in-Record.marked in
    let start : Walk = record { inside = c.args.ahead.now.inside; edges = c.args.ahead.now.edges } in
    let walk : Walk = record { inside = c.loop-rid.walk.inside; edges = c.loop-rid.walk.edges } in
    let after : Walk = record { inside = c.go_to.new.self.inside; edges = c.go_to.new.self.edges } in
    let inside : c.is_inside.result ≡ wants walk rid = c.is_inside.ensures ∙ c.go_to.ensures.inside in
    let columns : c.loop-rid.table.columns ≡ schema.columns = ap (λ t. t.columns) c.loop-rid.invariant.table_is ∙ c.requires.columns in
    let put_is : c.put.new.table ≡ put (wants walk rid) c.loop-rid.table (record { rid = rid; row = row_of schema.columns marked row }) =
    c.in_ok-put-in-Record.ensures.ok ∙ (λ i. put (inside i) c.loop-rid.table (record { rid = rid; row = row_of (columns i) marked row })) in
    let passed = passes_more schema c.args.before c.args.bytes.now start c.args.rids.now c.args.table.now
    c.loop-rid.last rest walk c.loop-rid.rids c.loop-rid.table rid marked row after c.put.new.table
    c.loop-rid.invariant c.in-Record.ensures (c.go_to.ensures.ahead rid (omega arith)) (λ n at. c.go_to.ensures.ahead n at) put_is in
    subst (λ (l : List ℕ). Passes schema c.args.before c.args.bytes.now start c.args.rids.now c.args.table.now rid l after c.push.new.self c.put.new.table) (sym (tail_slice rest (8 + length row)))
    (subst (λ (l : List ℕ). Passes schema c.args.before c.args.bytes.now start c.args.rids.now c.args.table.now rid (drop (8 + length row) rest) after l c.put.new.table) (sym c.in_ok-push-in-Record.ensures.put) passed)

pub push-requires : goal.push-requires
push-requires c =
    takes_next c.args.schema.now c.args.before c.args.bytes.now (record { inside = c.args.ahead.now.inside; edges = c.args.ahead.now.edges }) c.args.rids.now c.args.table.now
    c.loop-rid.last c.loop-rid.rest.now (record { inside = c.loop-rid.walk.inside; edges = c.loop-rid.walk.edges }) c.loop-rid.rids c.loop-rid.table c.in-Record.rid c.in-Record.marked c.in-Record.row.now
    c.requires.rids c.loop-rid.invariant c.in-Record.ensures
