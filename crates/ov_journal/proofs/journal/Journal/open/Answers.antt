use Rattle.std.proofs.Common.{◌≡◌, true, take, sym, ap, subst, ◌∙◌}
use Rattle.ov_host.specs.declared.area.Area.TheVariants.{Journal}
use Rattle.ov_host.specs.Host.{State, bytes_of}
use Rattle.ov_host.specs.Tape.{Tape}
use Rattle.ov_journal.specs.Journal.{IsUnmade}
use Rattle.ov_journal.specs.Opened.{IsLeftByOpen}
use Rattle.ov_journal.proofs.Loading.{looked_stops}
use Rattle.ov_journal.proofs.Opened.{settling_stops, making_stops, loaded, begun, settled_rest, seen_unmade, header_there}
use Rattle.ov_journal.proofs.journal.Journal.open.Goals as goal

pub returns-in_err-settle-clause-stops : goal.returns-in_err-settle-clause-stops
returns-in_err-settle-clause-stops g c told =
    settling_stops (g.H.Host.state c.args.host.now).tape (g.H.Host.state c.settle.new.host).tape (c.in_err-settle.ensures.stops told)

pub returns-in_err-size-clause-stops : goal.returns-in_err-size-clause-stops
returns-in_err-size-clause-stops g c told =
    looked_stops (g.H.Host.state c.args.host.now).tape (g.H.Host.state c.settle.new.host).tape (g.H.Host.state c.look.new.host).tape (IsLeftByOpen (g.H.Host.state c.args.host.now).tape.disk)
    (c.in_err-size.ensures.looked.tape (c.in_ok-settle.ensures.passes.told ∙ told))
    (settling_stops (g.H.Host.state c.args.host.now).tape (g.H.Host.state c.settle.new.host).tape (c.in_ok-settle.ensures.stops told))

pub returns-then-is_unmade-clause-stops : goal.returns-then-is_unmade-clause-stops
returns-then-is_unmade-clause-stops g c told =
    let s0 : State = g.H.Host.state c.args.host.now
    in let s1 : State = g.H.Host.state c.settle.new.host
    in let s2 : State = g.H.Host.state c.look.new.host
    in let told1 : s1.tells ≡ true = c.in_ok-settle.ensures.passes.told ∙ told
    in let told2 : s2.tells ≡ true = c.in_ok-size.ensures.looked.told ∙ told1
    in let looked : s2.tape ≡ s1.tape = c.in_ok-size.ensures.looked.tape told1
    in let unmade : IsUnmade (bytes_of Journal s2) =
    subst IsUnmade (sym (ap (λ (t : Tape). t.disk.journal.bytes) looked))
    (seen_unmade c.in_ok-size.size (bytes_of Journal s1) c.in_ok-size.head (c.in_ok-size.ensures.size told1) (c.in_ok-size.ensures.head told1) (c.is_unmade.ensures.unmade c.if-is_unmade.true))
    in making_stops s0 s1 (c.in_ok-settle.ensures.settled told) s2 looked unmade (g.H.Host.state c.begin.new.host) (c.in_ok-settle.ensures.stops told)
    (c.begin.ensures.stops (settled_rest s0 s1 s2 told2 (c.in_ok-settle.ensures.settled told) looked))

pub returns-then-is_unmade-clause-answer : goal.returns-then-is_unmade-clause-answer
returns-then-is_unmade-clause-answer g c told =
    let s0 : State = g.H.Host.state c.args.host.now
    in let s1 : State = g.H.Host.state c.settle.new.host
    in let s2 : State = g.H.Host.state c.look.new.host
    in let told1 : s1.tells ≡ true = c.in_ok-settle.ensures.passes.told ∙ told
    in let told2 : s2.tells ≡ true = c.in_ok-size.ensures.looked.told ∙ told1
    in let looked : s2.tape ≡ s1.tape = c.in_ok-size.ensures.looked.tape told1
    in let unmade : IsUnmade (bytes_of Journal s2) =
    subst IsUnmade (sym (ap (λ (t : Tape). t.disk.journal.bytes) looked))
    (seen_unmade c.in_ok-size.size (bytes_of Journal s1) c.in_ok-size.head (c.in_ok-size.ensures.size told1) (c.in_ok-size.ensures.head told1) (c.is_unmade.ensures.unmade c.if-is_unmade.true))
    in begun s0 s1 (c.in_ok-settle.ensures.settled told) s2 looked unmade c.begin.result (g.H.Host.state c.begin.new.host)
    (c.begin.ensures.answer (settled_rest s0 s1 s2 told2 (c.in_ok-settle.ensures.settled told) looked))

pub load-requires-clause-there : goal.load-requires-clause-there
load-requires-clause-there g c told2 =
    let s1 : State = g.H.Host.state c.settle.new.host
    in let s2 : State = g.H.Host.state c.look.new.host
    in let told1 : s1.tells ≡ true = sym c.in_ok-size.ensures.looked.told ∙ told2
    in header_there c.in_ok-size.size (bytes_of Journal s1) c.in_ok-size.head c.split_at.result.0.now (c.in_ok-size.ensures.size told1) (c.in_ok-size.ensures.head told1) (c.is_unmade.ensures.made c.if-is_unmade.false) c.split_at.ensures.front
    ∙ ap (λ (t : Tape). take 38 t.disk.journal.bytes) (sym (c.in_ok-size.ensures.looked.tape told1))

pub returns-clause-stops : goal.returns-clause-stops
returns-clause-stops g c told =
    let s0 : State = g.H.Host.state c.args.host.now
    in let s1 : State = g.H.Host.state c.settle.new.host
    in let s2 : State = g.H.Host.state c.look.new.host
    in let s3 : State = g.H.Host.state c.load.new.host
    in let told1 : s1.tells ≡ true = c.in_ok-settle.ensures.passes.told ∙ told
    in let told2 : s2.tells ≡ true = c.in_ok-size.ensures.looked.told ∙ told1
    in looked_stops s0.tape s1.tape s3.tape (IsLeftByOpen s0.tape.disk)
    (c.load.ensures.looked.tape told2 ∙ c.in_ok-size.ensures.looked.tape told1)
    (settling_stops s0.tape s1.tape (c.in_ok-settle.ensures.stops told))

pub returns-clause-answer : goal.returns-clause-answer
returns-clause-answer g c told =
    let s0 : State = g.H.Host.state c.args.host.now
    in let s1 : State = g.H.Host.state c.settle.new.host
    in let s2 : State = g.H.Host.state c.look.new.host
    in let s3 : State = g.H.Host.state c.load.new.host
    in let told1 : s1.tells ≡ true = c.in_ok-settle.ensures.passes.told ∙ told
    in let told2 : s2.tells ≡ true = c.in_ok-size.ensures.looked.told ∙ told1
    in let looked : s2.tape ≡ s1.tape = c.in_ok-size.ensures.looked.tape told1
    in loaded s0 s1 (c.in_ok-settle.ensures.settled told) c.load.result s3 (bytes_of Journal s2) (ap (λ (t : Tape). t.disk.journal.bytes) looked) (c.load.ensures.looked.tape told2 ∙ looked) (c.load.ensures.answer told2)
