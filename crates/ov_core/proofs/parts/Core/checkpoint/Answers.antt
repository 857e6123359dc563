use Rattle.std.proofs.Common.{◌≡◌, ◌<◌, ◌^◌, ℕ, List, sym, ap, subst, arith}
use Rattle.ov_host.specs.Disk.{Stored}
use Rattle.ov_host.proofs.Stops.{only_start, only_wider}
use Rattle.ov_journal.specs.Checkpoints.{snapshot_kept}
use Rattle.ov_journal.specs.Held.{IsAt, IsOldOrNew, Numbers, SameButJournal, kept_by}
use Rattle.law_image.specs.Pages.{pages_in}
use Rattle.ov_model.specs.Moves.{Checkpoint}
use Rattle.ov_core.specs.Held.{Held, IsReplay}
use Rattle.ov_core.specs.Rooms.{HasNoPlace, KeepsPages, snapshot_payloads}
use Rattle.ov_core.proofs.Storing.{still}
use Rattle.ov_core.proofs.Taking.{at_rest, call_stops, ended, epoch_left, replayed_whole, replays, taken}
use Rattle.ov_core.proofs.parts.Core.checkpoint.Goals as goal

pub snapshot_of-requires : goal.snapshot_of-requires
snapshot_of-requires g c = replayed_whole c.self.inside.catalog.numbers c.self.invariant.1

pub returns-in_err-snapshot-clause-stops : goal.returns-in_err-snapshot-clause-stops
returns-in_err-snapshot-clause-stops g c w is = still w c.args.self.now (g.H.Host.state c.args.host.now) is Checkpoint

pub returns-in_err-checkpoint-clause-stops : goal.returns-in_err-checkpoint-clause-stops
returns-in_err-checkpoint-clause-stops g c =
    let n = c.self.inside.catalog.numbers in
    let held : Held = record { journal = c.self.inside.journal; numbers = n } in
    let s0 = g.H.Host.state c.args.host.now in
    let s1 = g.H.Host.state c.checkpoint.new.host in
    let small : held.journal.epoch < 2 ^ 32 = let range = c.epoch.type_inv in omega (arith, range, c.epoch.ensures) in
    let said : c.in_ok-snapshot.snapshot ≡ snapshot_payloads n = c.in_ok-snapshot.ensures.payloads in
    rw (← c.self.view_is) (λ w is.
    call_stops w held s0 s1 is (replayed_whole n c.self.invariant.1) c.in_ok-snapshot.ensures.events small c.checkpoint.result
    (rw said at c.checkpoint.ensures.full) c.checkpoint.ensures.full_untouched (rw said at c.checkpoint.ensures.stops))

pub returns-clause-stops : goal.returns-clause-stops
returns-clause-stops g c =
    let n = c.self.inside.catalog.numbers in
    let held : Held = record { journal = c.self.inside.journal; numbers = n } in
    let s0 = g.H.Host.state c.args.host.now in
    let s1 = g.H.Host.state c.checkpoint.new.host in
    let small : held.journal.epoch < 2 ^ 32 = let range = c.epoch.type_inv in omega (arith, range, c.epoch.ensures) in
    let said : c.in_ok-snapshot.snapshot ≡ snapshot_payloads n = c.in_ok-snapshot.ensures.payloads in
    rw (← c.self.view_is) (λ w is.
    call_stops w held s0 s1 is (replayed_whole n c.self.invariant.1) c.in_ok-snapshot.ensures.events small c.checkpoint.result
    (rw said at c.checkpoint.ensures.full) c.checkpoint.ensures.full_untouched (rw said at c.checkpoint.ensures.stops))

pub returns-clause-beside : goal.returns-clause-beside
returns-clause-beside g c =
    let s0 = g.H.Host.state c.args.host.now in
    let s1 = g.H.Host.state c.checkpoint.new.host in
    rw (← c.self.view_is) (λ payloads is beside. record {
      journal = c.in_ok-checkpoint.ensures.room is.told;
      pages = λ page some.
          let same : SameButJournal s0.tape.disk s1.tape.disk = c.in_ok-checkpoint.ensures.same (at_rest payloads c.self.inside.journal s0 is) in
          subst (λ (ps : List ℕ). page < pages_in ps) (sym (ap (λ (a : Stored). a.bytes) same.pages_same)) (beside.pages page some);
    })

pub returns-clause-by_journal : goal.returns-clause-by_journal
returns-clause-by_journal g c =
    let n = c.self.inside.catalog.numbers in
    let s1 = g.H.Host.state c.checkpoint.new.host in
    let said : c.in_ok-snapshot.snapshot ≡ snapshot_payloads n = c.in_ok-snapshot.ensures.payloads in
    rw (← c.self.view_is) (λ by. record {
      payloads = snapshot_payloads n;
      at = subst (λ ps. IsAt ps c.checkpoint.new.self s1) said (c.in_ok-checkpoint.ensures.done by.payloads by.at);
      replays = subst (λ (format : ℕ). IsReplay format (snapshot_payloads n) n) (sym (ap (λ (j : Numbers). j.format) c.in_ok-checkpoint.ensures.numbers))
          (replays n (replayed_whole n c.self.invariant.1) c.in_ok-snapshot.ensures.events);
    })

pub returns-clause-done : goal.returns-clause-done
returns-clause-done g c =
    let n = c.self.inside.catalog.numbers in
    let held : Held = record { journal = c.self.inside.journal; numbers = n } in
    let s0 = g.H.Host.state c.args.host.now in
    let s1 = g.H.Host.state c.checkpoint.new.host in
    let small : held.journal.epoch < 2 ^ 32 = let range = c.epoch.type_inv in omega (arith, range, c.epoch.ensures) in
    let said : c.in_ok-snapshot.snapshot ≡ snapshot_payloads n = c.in_ok-snapshot.ensures.payloads in
    let fits : HasNoPlace held → ⊥ = λ none. ended c.in_ok-checkpoint.field-0 ((rw said at c.in_ok-checkpoint.ensures.full).1 none) in
    rw (← c.self.view_is) (λ w is.
    taken w held s0 is (replayed_whole n c.self.invariant.1) c.in_ok-snapshot.ensures.events (epoch_left held.journal (snapshot_payloads n) small fits)
    s1 c.checkpoint.new.self (subst (λ ps. IsAt ps c.checkpoint.new.self s1) said (c.in_ok-checkpoint.ensures.done is.payloads is.at))
    (rw said at c.in_ok-checkpoint.ensures.numbers) (c.in_ok-checkpoint.ensures.same (at_rest is.payloads held.journal s0 is.at)))

pub returns-in_err-snapshot-clause-pages : goal.returns-in_err-snapshot-clause-pages
returns-in_err-snapshot-clause-pages g c payloads is =
    let s0 = g.H.Host.state c.args.host.now in
    only_start s0.tape (KeepsPages s0.tape.disk) (λ image left. left.pages)

pub returns-in_err-checkpoint-clause-pages : goal.returns-in_err-checkpoint-clause-pages
returns-in_err-checkpoint-clause-pages g c =
    let s0 = g.H.Host.state c.args.host.now in
    let s1 = g.H.Host.state c.checkpoint.new.host in
    rw (← c.self.view_is) (λ payloads is.
    only_wider s0.tape s1.tape (IsOldOrNew (kept_by c.self.inside.journal payloads) (snapshot_kept c.self.inside.journal c.in_ok-snapshot.snapshot) s0.tape.disk) (KeepsPages s0.tape.disk)
    (λ image stopped. stopped.pages) (c.checkpoint.ensures.stops payloads is))

pub returns-clause-pages : goal.returns-clause-pages
returns-clause-pages g c =
    let s0 = g.H.Host.state c.args.host.now in
    let s1 = g.H.Host.state c.checkpoint.new.host in
    rw (← c.self.view_is) (λ payloads is.
    only_wider s0.tape s1.tape (IsOldOrNew (kept_by c.self.inside.journal payloads) (snapshot_kept c.self.inside.journal c.in_ok-snapshot.snapshot) s0.tape.disk) (KeepsPages s0.tape.disk)
    (λ image stopped. stopped.pages) (c.checkpoint.ensures.stops payloads is))
