use Rattle.std.proofs.Common.{get_or, take, refl, ◌∙◌, arith}
use Rattle.std.proofs.lemmas.List.{take_more}
use Rattle.ov_member.proofs.RidLemmas.{rises_at, rises_more, after-append}
use Rattle.ov_member.proofs.edges.edges_of.Goals.{then-rid-least-via-then-rid-least, then-rid-least-via-else-rid-least+then-rid-gt-LAST_RID}
use Rattle.ov_member.proofs.edges.edges_of.Goals as goal

pub returns-then-rid-least : goal.returns-then-rid-least
returns-then-rid-least c = λ are_rids.
    let next = rises_at c.args.rids.now c.loop-rid.rid-index c.loop-rid-test.true are_rids in
    let least = c.loop-rid.invariant.3 in
    elim c.then-rid-least.branch [
      | then-rid-least-via-then-rid-least w ↦ omega arith
      | then-rid-least-via-else-rid-least+then-rid-gt-LAST_RID w ↦ omega arith
    ]

pub push_rid-requires-clause-above : goal.push_rid-requires-clause-above
push_rid-requires-clause-above c =
    let least = c.loop-rid.invariant.3 in
    rw c.loop-rid.invariant.2 (rises_more c.args.rids.now c.loop-rid.rid-index c.loop-rid.invariant.1 (omega arith) c.if-rid-gt-LAST_RID.false)

pub loop-rid-preserved : goal.loop-rid-preserved
loop-rid-preserved c =
    let rids = c.args.rids.now in
    let i = c.loop-rid.rid-index in
    let least = c.loop-rid.invariant.3 in
    let more = take_more rids i 0 c.loop-rid-test.true in
    let next = after-append 1 (take i rids) (get_or rids i 0) in (
      c.in_ok-push_rid.ensures.sound,
      rw more (rises_more rids i c.loop-rid.invariant.1 (omega arith) c.if-rid-gt-LAST_RID.false),
      c.in_ok-push_rid.ensures.put ∙ rw (c.loop-rid.invariant.2, more) refl,
      rw (more, next) (omega arith),
    )
