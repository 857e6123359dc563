use Rattle.std.proofs.Common.{take, ℕ, ◌≡◌, List, Err, sym, subst, arith}
use Rattle.std.proofs.lemmas.Result.{err_from_is_err_and}
use Rattle.ov_host.specs.declared.area.Area.TheVariants.{Journal}
use Rattle.ov_host.specs.Host.{bytes_of}
use Rattle.ov_journal.specs.declared.errors.JournalErr.{JournalErr}
use Rattle.ov_journal.specs.Bytes.{Slot, IsHeader, IsLive, place_of}
use Rattle.ov_journal.specs.Journal.{journal_end, IsJournal, end_of}
use Rattle.ov_journal.specs.Held.{Numbers, kept_by}
use Rattle.ov_journal.specs.Reading.{RefusesHeader, RecordsAre, AreRecords}
use Rattle.ov_journal.proofs.Loading.{refuses_header, refuses_records, stands}
use Rattle.ov_journal.proofs.opening.load.Goals as goal

pub returns-in_err-live-clause-answer : goal.returns-in_err-live-clause-answer
returns-in_err-live-clause-answer g c told =
    let p = err_from_is_err_and c.from_residual.result c.from_residual.ensures.1
    in let Header : List ℕ → Type 0 = λ head. RefusesHeader c.in_err-live.field-0.0 head
    in rw (p.1, p.2) (refuses_header c.in_err-live.field-0.0 (bytes_of Journal (g.H.Host.state c.args.host.now)) (c.requires.made told) (subst Header (c.requires.there told) c.in_err-live.ensures))

pub returns-in_err-gate-clause-answer : goal.returns-in_err-gate-clause-answer
returns-in_err-gate-clause-answer g c told =
    let p = err_from_is_err_and c.from_residual-in_err-gate.result c.from_residual-in_err-gate.ensures.1
    in let all : List ℕ = bytes_of Journal (g.H.Host.state c.args.host.now)
    in let slot : Slot = record { epoch = c.in_ok-live.live.epoch; start = c.in_ok-live.live.start; format = c.in_ok-live.live.format }
    in let Header : List ℕ → Type 0 = λ head. IsHeader (place_of c.in_ok-live.live.side) slot head
    in let start : c.from-start.result ≡ slot.start = c.from-start.ensures
    in let is_end : c.min-end.result ≡ journal_end all = omega (arith, c.min-end.ensures, c.requires.sized told)
    in let e : JournalErr = c.in_err-gate.field-0.0
    in let Records : ℕ → Type 0 = λ n. RecordsAre n c.min-end.result all (Err e)
    in rw (p.1, p.2)
    (refuses_records all (place_of c.in_ok-live.live.side) c.min-end.result slot (subst Header (c.requires.there told) c.in_ok-live.ensures.0) c.in_ok-live.ensures.1 is_end (omega arith) (omega (arith, start)) e
    (subst Records start (c.in_err-gate.ensures.bytes told (omega (arith, is_end)))))

pub returns-clause-answer : goal.returns-clause-answer
returns-clause-answer g c told =
    let all : List ℕ = bytes_of Journal (g.H.Host.state c.args.host.now)
    in let slot : Slot = record { epoch = c.in_ok-live.live.epoch; start = c.in_ok-live.live.start; format = c.in_ok-live.live.format }
    in let Header : List ℕ → Type 0 = λ head. IsHeader (place_of c.in_ok-live.live.side) slot head
    in let start : c.from-start.result ≡ slot.start = c.from-start.ensures
    in let is_end : c.min-end.result ≡ journal_end all = omega (arith, c.min-end.ensures, c.requires.sized told)
    in let Records : ℕ → Type 0 = λ n. AreRecords n c.in_ok-gate.gate all c.in_ok-gate.payloads
    in let are : Records slot.start = subst Records start (c.in_ok-gate.ensures.bytes told (omega (arith, is_end)))
    in let is : IsJournal (kept_by (record { end = c.in_ok-gate.gate; epoch = slot.epoch; start = slot.start; format = slot.format; side = c.in_ok-live.live.side; spare_open = c.in_ok-live.live.spare_open }) c.in_ok-gate.payloads) all =
    stands all (place_of c.in_ok-live.live.side) c.min-end.result slot (subst Header (c.requires.there told) c.in_ok-live.ensures.0) c.in_ok-live.ensures.1 is_end (omega arith) (omega (arith, start)) c.in_ok-gate.gate c.in_ok-gate.payloads are c.in_ok-gate.ensures.within
    in let Answer : Numbers → Type 0 = λ n. IsJournal (kept_by n c.in_ok-gate.payloads) all × (n.end ≡ end_of (kept_by n c.in_ok-gate.payloads)) × IsLive n.side n.spare_open (take 38 all)
    in let Slots : List ℕ → Type 0 = λ head. IsLive c.in_ok-live.live.side c.in_ok-live.live.spare_open head
    in subst Answer (sym c.at.ensures) (is, are.there, subst Slots (c.requires.there told) c.in_ok-live.ensures.2)
