use Rattle.std.proofs.Common.{ℕ, ◌≡◌, ◌<◌, ◌+◌, length, List, Option, Ok, true, drop, ap, subst, sym, ◌∙◌}
use Rattle.std.specs.Prelude.{IfSome}
use Rattle.ov_host.specs.declared.area.Area.TheVariants.{Journal}
use Rattle.ov_host.specs.Host.{bytes_of}
use Rattle.ov_host.specs.Tape.{Tape}
use Rattle.ov_journal.specs.Ahead.{IsOf}
use Rattle.ov_journal.specs.Reading.{RecordIs}
use Rattle.ov_journal.proofs.ReadingRecords.{next}
use Rattle.ov_journal.proofs.reading.read_records.Goals as goal

pub loop-ahead-preserved : goal.loop-ahead-preserved
loop-ahead-preserved g c =
    let at : ℕ = c.loop-ahead.at
    in let long : at + (5 + length c.as_slice.result.now) ≡ at + (5 + length c.in-Some.payload) = ap (λ (b : List ℕ). at + (5 + length b)) c.as_slice.ensures
    in let Stands : Option (List ℕ) → Type 0 = λ o. RecordIs at c.args.end (drop at (bytes_of Journal (g.H.Host.state c.loop-ahead.host))) (Ok o)
    in let Within : Option (List ℕ) → Type 0 = λ o. IfSome o (λ p. at + 5 + length p < c.args.end)
    in let Known : List ℕ → Type 0 = λ b. IsOf b c.read_record.new.ahead
    in let known : (g.H.Host.state c.read_record.new.host).tells ≡ true → Known (bytes_of Journal (g.H.Host.state c.read_record.new.host)) =
    λ told. let before : (g.H.Host.state c.loop-ahead.host).tells ≡ true = sym c.in_ok-payload.ensures.looked.told ∙ told
    in let same : bytes_of Journal (g.H.Host.state c.loop-ahead.host) ≡ bytes_of Journal (g.H.Host.state c.read_record.new.host) = ap (λ (t : Tape). t.disk.journal.bytes) (sym (c.in_ok-payload.ensures.looked.tape before))
    in subst Known same (c.in_ok-payload.ensures.known before)
    in (
      next (g.H.Host.state c.args.host.now) (g.H.Host.state c.loop-ahead.host) (g.H.Host.state c.read_record.new.host) c.args.start at _ c.args.end c.loop-ahead.payloads.items c.push.new.self.items c.in-Some.payload c.loop-ahead.invariant.0 c.in_ok-payload.ensures.looked long
          (subst Within c.in-Some.is c.in_ok-payload.ensures.within)
          (λ told within. subst Stands c.in-Some.is (c.in_ok-payload.ensures.bytes told within))
          c.in_ok-push.ensures.items,
      known,
    )
