use Rattle.std.proofs.Common.{sym, ◌∙◌, ap}
use Rattle.ov_journal.specs.Bytes.{other_of, place_of}
use Rattle.ov_journal.specs.Held.{Numbers}
use Rattle.ov_journal.proofs.Checkpoint.{still, closing_stops, closed}
use Rattle.ov_journal.proofs.journal.Journal.close_spare.Goals as goal

pub returns-in_err-write_synced-clause-stops : goal.returns-in_err-write_synced-clause-stops
returns-in_err-write_synced-clause-stops g c ps at =
    closing_stops ps c.args.self.now (g.H.Host.state c.args.host.now) (g.H.Host.state c.write_synced.new.host) c.place.result at
    (c.place.ensures.place ∙ ap place_of (c.other.ensures ∙ ap (λ (n : Numbers). other_of n.side) c.self.view_is))
    (sym (ap (λ (n : Numbers). n.spare_open) c.self.view_is) ∙ c.if-self.true)
    c.in_err-write_synced.ensures.stops

pub returns-in_ok-write_synced-clause-stops : goal.returns-in_ok-write_synced-clause-stops
returns-in_ok-write_synced-clause-stops g c ps at =
    closing_stops ps c.args.self.now (g.H.Host.state c.args.host.now) (g.H.Host.state c.write_synced.new.host) c.place.result at
    (c.place.ensures.place ∙ ap place_of (c.other.ensures ∙ ap (λ (n : Numbers). other_of n.side) c.self.view_is))
    (sym (ap (λ (n : Numbers). n.spare_open) c.self.view_is) ∙ c.if-self.true)
    c.in_ok-write_synced.ensures.stops

pub returns-in_ok-write_synced-clause-done : goal.returns-in_ok-write_synced-clause-done
returns-in_ok-write_synced-clause-done g c ps at =
    closed ps c.args.self.now (g.H.Host.state c.args.host.now) (g.H.Host.state c.write_synced.new.host) c.place.result at
    (c.place.ensures.place ∙ ap place_of (c.other.ensures ∙ ap (λ (n : Numbers). other_of n.side) c.self.view_is))
    c.in_ok-write_synced.ensures.passes.told (c.in_ok-write_synced.ensures.done at.told)

pub returns-else-self-clause-stops : goal.returns-else-self-clause-stops
returns-else-self-clause-stops g c ps at = still ps c.args.self.now (g.H.Host.state c.args.host.now) at
