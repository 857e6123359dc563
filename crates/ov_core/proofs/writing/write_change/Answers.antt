use Rattle.std.proofs.Common.{ℕ, List, subst}
use Rattle.ov_event.specs.Spelling.{spelling}
use Rattle.ov_host.specs.Stops.{Only}
use Rattle.ov_journal.specs.Held.{kept_by}
use Rattle.ov_journal.specs.Journal.{and_one}
use Rattle.ov_publish.specs.Steps.{IsStored, with_runs}
use Rattle.ov_publish.proofs.Adding.{none_stops}
use Rattle.ov_core.proofs.writing.write_change.Goals as goal

pub apply_reserved-requires-clause-applies : goal.apply_reserved-requires-clause-applies
apply_reserved-requires-clause-applies g c = (c.args.journal.now.format, rw c.in_ok-framed.ensures.numbers c.requires.applies)

pub returns-in_err-framed-clause-stops : goal.returns-in_err-framed-clause-stops
returns-in_err-framed-clause-stops g c payloads live at free =
    none_stops c.args.list c.args.segment payloads (spelling c.args.event) c.args.journal.now (g.H.Host.state c.args.host.now) at live free

pub returns-clause-stops : goal.returns-clause-stops
returns-clause-stops g c payloads live at free =
    let old = g.H.Host.state c.args.host.now in
    let new = g.H.Host.state c.add.new.host in
    let kept = kept_by c.args.journal.now payloads in
    let pages : List ℕ = old.tape.disk.pages.bytes in
    let P : List ℕ → Type 0 = λ p. Only old.tape new.tape (IsStored kept (and_one kept p) live pages (with_runs c.args.list c.args.segment pages) old.tape.disk.printed) in
    subst P c.in_ok-framed.ensures.«record» (c.in_ok-add.ensures.stops payloads live at free)
