use Rattle.std.proofs.Common.{ℕ, ◌<◌, ◌^◌, List, ◌∙◌, sym, subst, length, arith}
use Rattle.ov_journal.proofs.Frames.{payload_small, framed_payloads, framed_whole}
use Rattle.ov_journal.proofs.framed.snapshot.Goals as goal

pub push_record-requires : goal.push_record-requires
push_record-requires c =
    let Small : List ℕ → Type 0 = λ p. length p < 2 ^ 32
    in subst Small (sym c.as_slice.ensures)
    (payload_small c.args.payloads.now c.loop-payload.payload-index c.payload-item.result c.loop-payload-test.true c.payload-item.is c.requires)

pub of-requires : goal.of-requires
of-requires c =
    framed_whole c.args.payloads.now c.loop-payload.payload-index c.loop-payload.frames.items c.push.new.self.items (omega arith) c.loop-payload.invariant c.in_ok-push.ensures.items c.requires

pub returns : goal.returns
returns c =
    c.of.ensures ∙ framed_payloads c.args.payloads.now c.loop-payload.payload-index c.loop-payload.frames.items c.push.new.self.items (omega arith) c.loop-payload.invariant c.in_ok-push.ensures.items c.requires
