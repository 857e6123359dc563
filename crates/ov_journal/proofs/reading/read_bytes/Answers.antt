use Rattle.std.proofs.Common.{rules, ℕ, ◌≡◌, ◌<◌, ◌≤◌, ◌+◌, ◌++◌, length, vec_len, List, subst, ◌∙◌, ap, sym, arith, drop}
use Rattle.std.proofs.lemmas.List.{take_at}
use Rattle.ov_journal.proofs.Pieces.{IsReading, goes_on}
use Rattle.ov_journal.proofs.reading.read_bytes.Goals as goal

pub loop-piece-preserved : goal.loop-piece-preserved
loop-piece-preserved g c =
    let piece : ℕ = vec_len c.truncate.new.self
    in let read : ℕ = vec_len c.loop-piece.bytes
    in let long : vec_len c.extend_from_slice.new.self ≡ read + piece = search rules
    in let here : c.args.at + c.len-in-loop-piece-2.result ≡ c.args.at + read = search rules
    in let old : length c.deref_mut.result.now ≡ piece = search rules
    in let new : length c.read.new.buf ≡ piece = search rules
    in let full : piece ≤ c.in_ok-given.given = search rules
    in let below : read + piece ≤ c.args.count = omega (arith, c.truncate.ensures.len)
    in let small : piece ≤ 65536 = omega (arith, c.truncate.ensures.len)
    in let some : 0 < c.args.count → 0 < piece = λ more. omega (arith, c.truncate.ensures.len, c.loop-piece.invariant.some more)
    in let all : c.extend_from_slice.new.self.items ≡ c.loop-piece.bytes.items ++ c.read.new.buf = c.in_ok-extend_from_slice.ensures.items ∙ ap (λ (b : List ℕ). c.loop-piece.bytes.items ++ b) (c.deref.ensures.value ∙ take_at c.read.new.buf (drop (length c.read.new.buf) c.truncate.new.self.items) piece new)
    in let there : IsReading (g.H.Host.state c.args.host.now) (g.H.Host.state c.read.new.self) c.args.at c.args.count (read + piece) piece c.extend_from_slice.new.self.items =
    goes_on (g.H.Host.state c.args.host.now) (g.H.Host.state c.loop-piece.host) (g.H.Host.state c.read.new.self) c.args.at c.args.count read (vec_len c.loop-piece.piece) piece c.in_ok-given.given (c.args.at + c.len-in-loop-piece-2.result) c.loop-piece.bytes.items c.extend_from_slice.new.self.items c.deref_mut.result.now c.read.new.buf
    c.loop-piece.invariant c.in_ok-given.ensures.call c.in_ok-given.ensures.fetched here c.in_ok-given.ensures.bytes old new full below small some all
    in let P : ℕ → Type 0 = λ n. IsReading (g.H.Host.state c.args.host.now) (g.H.Host.state c.read.new.self) c.args.at c.args.count n piece c.extend_from_slice.new.self.items
    in subst P (sym long) there
