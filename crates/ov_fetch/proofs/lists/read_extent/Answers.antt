use Rattle.std.proofs.Common.{◌≡◌, ◌<◌, ◌≤◌, ◌+◌, ◌++◌, ℕ, true, List, length, vec_len, take, drop, arith, ap, sym, subst, ◌∙◌, rules}
use Rattle.std.proofs.lemmas.List.{take_at}
use Rattle.ov_pages.specs.Area.{Fetches}
use Rattle.ov_fetch.proofs.Looks.{looked_by}
use Rattle.ov_fetch.proofs.Pieces.{IsReading, goes_on}
use Rattle.ov_fetch.proofs.lists.read_extent.Goals as goal

pub loop-extent-preserved : goal.loop-extent-preserved
loop-extent-preserved g c =
    let s0 = g.H.Host.state c.args.host.now in
    let s1 = g.H.Host.state c.loop-extent.host in
    let s2 = g.H.Host.state c.get.new.host in
    let read : ℕ = vec_len c.loop-extent.bytes in
    let n : ℕ = c.in_ok-got.got in
    let below : read + n ≤ c.args.extent.bytes = omega (arith, c.in_ok-got.ensures.at_most, c.len-in-loop-extent.ensures) in
    let some : 0 < n = omega (arith, c.if-got-eq0.false) in
    let room : length c.get.new.buf ≡ vec_len c.loop-extent.piece = search rules in
    let bytes : c.extend_from_slice.new.self.items ≡ c.loop-extent.bytes.items ++ take n c.get.new.buf = c.in_ok-extend_from_slice.ensures.items ∙ ap (λ (l : List ℕ). c.loop-extent.bytes.items ++ l) (ap (take n) (c.deref.ensures.value ∙ take_at c.get.new.buf (drop (length c.get.new.buf) c.loop-extent.piece.items) (vec_len c.loop-extent.piece) room)) in
    let long : vec_len c.extend_from_slice.new.self ≡ read + n = search rules in
    let at = goes_on s0 s1 s2 c.args.extent read n c.loop-extent.bytes.items c.deref_mut.result.now c.get.new.buf c.loop-extent.invariant.reading (looked_by true n s1 s2 c.in_ok-got.ensures.call c.in_ok-got.ensures.fetched) (omega (arith, c.in_ok-got.ensures.fetched)) below some (λ told. subst (λ k. Fetches c.args.extent k n s1 c.deref_mut.result.now c.get.new.buf) c.len-in-loop-extent.ensures (c.in_ok-got.ensures.bytes told)) in
    record {
      reading = (λ (a : ℕ) (b : List ℕ) (p : a ≡ read + n) (q : b ≡ c.loop-extent.bytes.items ++ take n c.get.new.buf). subst (λ k. IsReading s0 s2 c.args.extent k b) (sym p) (subst (λ (l : List ℕ). IsReading s0 s2 c.args.extent (read + n) l) (sym q) at)) _ _ long bytes;
      room = c.loop-extent.invariant.room;
    }
