use Rattle.std.proofs.Common.{◌≤◌, ℕ, arith}
use Rattle.ov_fetch.specs.Extents.{page_bytes}
use Rattle.ov_fetch.proofs.Pieces.{piece_of}
use Rattle.ov_fetch.proofs.Filling.{filled, all_taken}
use Rattle.ov_fetch.proofs.cursor.Cursor.fill.Goals as goal

pub returns-clause-answer : goal.returns-clause-answer
returns-clause-answer g c told =
    let n : ℕ = c.in_ok-got.got in
    let p = piece_of (g.H.Host.state c.args.host.now) c.args.self.now.extent c.args.self.now.at n _ _ (c.in_ok-got.ensures.bytes told) (omega (arith, c.if-got-eq0.false)) in
    let few : n ≤ 61440 = omega (arith, c.in_ok-got.ensures.at_most, c.requires.room) in (
      filled (page_bytes (g.H.Host.state c.args.host.now)) c.args.self.now n _ c.feed-taken.new.self.held p
          (all_taken c.args.self.now.reader _ c.feed-taken.result n c.get.new.buf few c.requires.still c.requires.space c.feed-taken.ensures.taken c.feed-taken.ensures.held),
      p.reach,
    )

pub overflow_add-self : goal.overflow_add-self
overflow_add-self g c = omega (arith, c.in_ok-got.ensures.at_most)
