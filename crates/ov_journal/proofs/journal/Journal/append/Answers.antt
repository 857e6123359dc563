use Rattle.std.proofs.Common.{rules, ◌+◌, ◌≤◌, ◌^◌, ◌≡◌, length, ◌∙◌, ap}
use Rattle.ov_journal.specs.Held.{Numbers}
use Rattle.ov_journal.proofs.Appending.{none_stops, first_stops, both_stops, both_done}
use Rattle.ov_journal.proofs.journal.Journal.append.Goals as goal

pub returns-then-not-fits-clause-stops : goal.returns-then-not-fits-clause-stops
returns-then-not-fits-clause-stops g c ps at = none_stops ps c.args.framed.now c.args.self.now (g.H.Host.state c.args.host.now) at

pub returns-in_err-write_synced-clause-stops : goal.returns-in_err-write_synced-clause-stops
returns-in_err-write_synced-clause-stops g c ps at =
    let here : c.self.inside.end ≡ c.args.self.now.end = ap (λ (n : Numbers). n.end) c.self.view_is
    in first_stops ps c.args.framed.now c.as_bytes-bytes.result.now c.args.self.now c.self.inside.end (g.H.Host.state c.args.host.now) (g.H.Host.state c.write_synced.new.host) at here c.as_bytes-bytes.ensures.bytes c.in_err-write_synced.ensures.stops

pub returns-in_err-write_synced-2-clause-stops : goal.returns-in_err-write_synced-2-clause-stops
returns-in_err-write_synced-2-clause-stops g c ps at =
    let here : c.self.inside.end ≡ c.args.self.now.end = ap (λ (n : Numbers). n.end) c.self.view_is
    in let fits : c.self.inside.end + 6 + length c.args.framed.now ≤ 2 ^ 28 = search rules
    in both_stops ps c.args.framed.now c.as_bytes-bytes.result.now c.args.self.now c.self.inside.end (g.H.Host.state c.args.host.now) (g.H.Host.state c.write_synced.new.host) at here c.as_bytes-bytes.ensures.bytes c.in_ok-write_synced.ensures.passes.told (c.in_ok-write_synced.ensures.done at.told) fits (g.H.Host.state c.write_synced-2.new.host) c.in_ok-write_synced.ensures.stops c.in_err-write_synced-2.ensures.stops

pub returns-clause-stops : goal.returns-clause-stops
returns-clause-stops g c ps at =
    let here : c.self.inside.end ≡ c.args.self.now.end = ap (λ (n : Numbers). n.end) c.self.view_is
    in let fits : c.self.inside.end + 6 + length c.args.framed.now ≤ 2 ^ 28 = search rules
    in both_stops ps c.args.framed.now c.as_bytes-bytes.result.now c.args.self.now c.self.inside.end (g.H.Host.state c.args.host.now) (g.H.Host.state c.write_synced.new.host) at here c.as_bytes-bytes.ensures.bytes c.in_ok-write_synced.ensures.passes.told (c.in_ok-write_synced.ensures.done at.told) fits (g.H.Host.state c.write_synced-2.new.host) c.in_ok-write_synced.ensures.stops c.in_ok-write_synced-2.ensures.stops

pub returns-clause-done : goal.returns-clause-done
returns-clause-done g c ps at =
    let here : c.self.inside.end ≡ c.args.self.now.end = ap (λ (n : Numbers). n.end) c.self.view_is
    in let fits : c.self.inside.end + 6 + length c.args.framed.now ≤ 2 ^ 28 = search rules
    in both_done ps c.args.framed.now c.as_bytes-bytes.result.now c.args.self.now c.self.inside.end (g.H.Host.state c.args.host.now) (g.H.Host.state c.write_synced.new.host) at here c.as_bytes-bytes.ensures.bytes c.in_ok-write_synced.ensures.passes.told (c.in_ok-write_synced.ensures.done at.told) fits (g.H.Host.state c.write_synced-2.new.host) _ c.in_ok-write_synced-2.ensures.passes.told (c.in_ok-write_synced-2.ensures.done (c.in_ok-write_synced.ensures.passes.told ∙ at.told)) (ap (λ (n : Numbers). record { end = n.end + length c.as_bytes-bytes.result.now; epoch = n.epoch; start = n.start; format = n.format; side = n.side; spare_open = n.spare_open }) c.self.view_is)
