use Rattle.std.proofs.Common.{◌≡◌, ◌≤◌, ◌+◌, ◌-◌, ℕ, true, List, [], ◌∷◌, length, sym, ◌∙◌, ap, subst, arith}
use Rattle.std.specs.List.{flat_map}
use Rattle.std.proofs.lemmas.List.{length-append}
use Rattle.ov_host.specs.declared.area.Area.TheVariants.{Journal}
use Rattle.ov_host.specs.Host.{bytes_of}
use Rattle.ov_journal.specs.Bytes.{fields_of, other_of, place_of, record_of}
use Rattle.ov_journal.specs.Snapshots.{size_of}
use Rattle.ov_journal.specs.Held.{Numbers}
use Rattle.ov_journal.specs.Checkpoints.{IsRoom}
use Rattle.ov_journal.proofs.Checkpoint.{none_stops, first_stops, second_stops, third_stops, turned, turned_is, longer_twice, longer_thrice}
use Rattle.ov_journal.proofs.journal.Journal.checkpoint.Goals as goal

pub returns-in_err-start-clause-stops : goal.returns-in_err-start-clause-stops
returns-in_err-start-clause-stops g c ps at =
    none_stops ps c.args.snapshot.now c.args.self.now (g.H.Host.state c.args.host.now) (g.H.Host.state c.args.host.now) at

pub returns-in_err-close_spare-clause-stops : goal.returns-in_err-close_spare-clause-stops
returns-in_err-close_spare-clause-stops g c ps at =
    first_stops ps c.args.snapshot.now c.args.self.now (g.H.Host.state c.args.host.now) (g.H.Host.state c.close_spare.new.host)
    (c.in_err-close_spare.ensures.stops ps at)

pub returns-in_err-write_both_synced-clause-stops : goal.returns-in_err-write_both_synced-clause-stops
returns-in_err-write_both_synced-clause-stops g c ps at =
    let numbers : Numbers = c.args.self.now
    in let qs : List (List ℕ) = c.args.snapshot.now
    in let Room : ℕ → Type 0 = λ n. IsRoom numbers n (size_of qs)
    in let fields =
    c.fields.ensures
    ∙ ap (λ (n : Numbers). fields_of (record { epoch = n.epoch + 1; start = c.in_ok-start.start; format = 2 })) c.self.view_is
    ∙ ap (λ (n : ℕ). fields_of (record { epoch = numbers.epoch + 1; start = n; format = 2 })) (sym c.from.ensures)
    in let here : c.place-gate.result ≡ place_of (other_of numbers.side) =
    c.place-gate.ensures.place ∙ ap place_of (c.other.ensures ∙ ap (λ (n : Numbers). other_of n.side) c.self.view_is)
    in second_stops ps qs numbers (g.H.Host.state c.args.host.now) (g.H.Host.state c.close_spare.new.host) c.from.result c.place-gate.result c.as_bytes-frames.result.now c.fields.result
    (c.from.ensures ∙ c.in_ok-start.ensures.place)
    (subst Room (sym c.from.ensures) c.in_ok-start.ensures.room)
    c.as_bytes-frames.ensures.bytes
    here
    fields
    c.in_ok-start.ensures.epoch
    (c.in_ok-close_spare.ensures.stops ps at)
    (c.in_ok-close_spare.ensures.same (record { told = at.told; rest = at.rest }))
    (c.in_ok-close_spare.ensures.done ps at)
    (g.H.Host.state c.write_both_synced.new.host)
    c.in_err-write_both_synced.ensures.stops

pub write_synced-requires : goal.write_synced-requires
write_synced-requires g c told =
    let low : 38 ≤ c.args.self.now.end = omega (arith, c.self.invariant.0, c.self.invariant.1, ap (λ (n : Numbers). n.end) c.self.view_is)
    in let told0 : (g.H.Host.state c.args.host.now).tells ≡ true = sym c.in_ok-close_spare.ensures.passes.told ∙ (sym c.in_ok-write_both_synced.ensures.passes.told ∙ told)
    in let told1 : (g.H.Host.state c.close_spare.new.host).tells ≡ true = c.in_ok-close_spare.ensures.passes.told ∙ told0
    in let room = c.in_ok-close_spare.ensures.room told0
    in let reached =
    longer_twice (bytes_of Journal (g.H.Host.state c.close_spare.new.host)) c.as_bytes-frames.result.now c.fields.result (bytes_of Journal (g.H.Host.state c.write_both_synced.new.host)) c.from.result (c.place-gate.result + 1)
    (omega (arith, room, c.from.ensures, c.in_ok-start.ensures.room.there))
    (omega (arith, room, low, c.place-gate.ensures.low))
    (c.in_ok-write_both_synced.ensures.bytes told1)
    in omega (arith, reached.0, room, low, c.place-gate.ensures.low)

pub returns-in_err-write_synced-clause-stops : goal.returns-in_err-write_synced-clause-stops
returns-in_err-write_synced-clause-stops g c ps at =
    let numbers : Numbers = c.args.self.now
    in let qs : List (List ℕ) = c.args.snapshot.now
    in let Room : ℕ → Type 0 = λ n. IsRoom numbers n (size_of qs)
    in let fields =
    c.fields.ensures
    ∙ ap (λ (n : Numbers). fields_of (record { epoch = n.epoch + 1; start = c.in_ok-start.start; format = 2 })) c.self.view_is
    ∙ ap (λ (n : ℕ). fields_of (record { epoch = numbers.epoch + 1; start = n; format = 2 })) (sym c.from.ensures)
    in let here : c.place-gate.result ≡ place_of (other_of numbers.side) =
    c.place-gate.ensures.place ∙ ap place_of (c.other.ensures ∙ ap (λ (n : Numbers). other_of n.side) c.self.view_is)
    in third_stops ps qs numbers (g.H.Host.state c.args.host.now) (g.H.Host.state c.close_spare.new.host) c.from.result c.place-gate.result c.as_bytes-frames.result.now c.fields.result
    (c.from.ensures ∙ c.in_ok-start.ensures.place)
    (subst Room (sym c.from.ensures) c.in_ok-start.ensures.room)
    c.as_bytes-frames.ensures.bytes
    here
    fields
    c.in_ok-start.ensures.epoch
    (c.in_ok-close_spare.ensures.stops ps at)
    (c.in_ok-close_spare.ensures.same (record { told = at.told; rest = at.rest }))
    (c.in_ok-close_spare.ensures.done ps at)
    (g.H.Host.state c.write_both_synced.new.host)
    c.in_ok-write_both_synced.ensures.stops
    c.in_ok-write_both_synced.ensures.passes.told
    (c.in_ok-write_both_synced.ensures.done (c.in_ok-close_spare.ensures.passes.told ∙ at.told))
    (g.H.Host.state c.write_synced.new.host)
    c.in_err-write_synced.ensures.stops

pub returns-clause-stops : goal.returns-clause-stops
returns-clause-stops g c ps at =
    let numbers : Numbers = c.args.self.now
    in let qs : List (List ℕ) = c.args.snapshot.now
    in let Room : ℕ → Type 0 = λ n. IsRoom numbers n (size_of qs)
    in let fields =
    c.fields.ensures
    ∙ ap (λ (n : Numbers). fields_of (record { epoch = n.epoch + 1; start = c.in_ok-start.start; format = 2 })) c.self.view_is
    ∙ ap (λ (n : ℕ). fields_of (record { epoch = numbers.epoch + 1; start = n; format = 2 })) (sym c.from.ensures)
    in let here : c.place-gate.result ≡ place_of (other_of numbers.side) =
    c.place-gate.ensures.place ∙ ap place_of (c.other.ensures ∙ ap (λ (n : Numbers). other_of n.side) c.self.view_is)
    in third_stops ps qs numbers (g.H.Host.state c.args.host.now) (g.H.Host.state c.close_spare.new.host) c.from.result c.place-gate.result c.as_bytes-frames.result.now c.fields.result
    (c.from.ensures ∙ c.in_ok-start.ensures.place)
    (subst Room (sym c.from.ensures) c.in_ok-start.ensures.room)
    c.as_bytes-frames.ensures.bytes
    here
    fields
    c.in_ok-start.ensures.epoch
    (c.in_ok-close_spare.ensures.stops ps at)
    (c.in_ok-close_spare.ensures.same (record { told = at.told; rest = at.rest }))
    (c.in_ok-close_spare.ensures.done ps at)
    (g.H.Host.state c.write_both_synced.new.host)
    c.in_ok-write_both_synced.ensures.stops
    c.in_ok-write_both_synced.ensures.passes.told
    (c.in_ok-write_both_synced.ensures.done (c.in_ok-close_spare.ensures.passes.told ∙ at.told))
    (g.H.Host.state c.write_synced.new.host)
    c.in_ok-write_synced.ensures.stops

pub returns-clause-done : goal.returns-clause-done
returns-clause-done g c ps at =
    let numbers : Numbers = c.args.self.now
    in let qs : List (List ℕ) = c.args.snapshot.now
    in let Room : ℕ → Type 0 = λ n. IsRoom numbers n (size_of qs)
    in let fields =
    c.fields.ensures
    ∙ ap (λ (n : Numbers). fields_of (record { epoch = n.epoch + 1; start = c.in_ok-start.start; format = 2 })) c.self.view_is
    ∙ ap (λ (n : ℕ). fields_of (record { epoch = numbers.epoch + 1; start = n; format = 2 })) (sym c.from.ensures)
    in let here : c.place-gate.result ≡ place_of (other_of numbers.side) =
    c.place-gate.ensures.place ∙ ap place_of (c.other.ensures ∙ ap (λ (n : Numbers). other_of n.side) c.self.view_is)
    in turned ps qs numbers (g.H.Host.state c.args.host.now) (g.H.Host.state c.close_spare.new.host) c.from.result c.place-gate.result c.as_bytes-frames.result.now c.fields.result
    (c.from.ensures ∙ c.in_ok-start.ensures.place)
    (subst Room (sym c.from.ensures) c.in_ok-start.ensures.room)
    c.as_bytes-frames.ensures.bytes
    here
    fields
    c.in_ok-start.ensures.epoch
    (c.in_ok-close_spare.ensures.stops ps at)
    (c.in_ok-close_spare.ensures.same (record { told = at.told; rest = at.rest }))
    (c.in_ok-close_spare.ensures.done ps at)
    (g.H.Host.state c.write_both_synced.new.host)
    c.in_ok-write_both_synced.ensures.stops
    c.in_ok-write_both_synced.ensures.passes.told
    (c.in_ok-write_both_synced.ensures.done (c.in_ok-close_spare.ensures.passes.told ∙ at.told))
    (g.H.Host.state c.write_synced.new.host)
    _
    c.in_ok-write_synced.ensures.passes.told
    (c.in_ok-write_synced.ensures.done (c.in_ok-write_both_synced.ensures.passes.told ∙ c.in_ok-close_spare.ensures.passes.told ∙ at.told))
    (turned_is numbers qs (c.from-2.result + length c.as_bytes-frames.result.now - 1) (c.self.inside.live.epoch + 1) c.in_ok-start.start c.other.result
    (omega (arith, c.from-2.ensures, c.in_ok-start.ensures.place, ap length c.as_bytes-frames.ensures.bytes, length-append (flat_map record_of qs) (0 ∷ [])))
    (ap (λ (n : Numbers). n.epoch + 1) c.self.view_is)
    c.in_ok-start.ensures.place
    (c.other.ensures ∙ ap (λ (n : Numbers). other_of n.side) c.self.view_is))

pub returns-clause-room : goal.returns-clause-room
returns-clause-room g c told =
    let low : 38 ≤ c.args.self.now.end = omega (arith, c.self.invariant.0, c.self.invariant.1, ap (λ (n : Numbers). n.end) c.self.view_is)
    in let told0 : (g.H.Host.state c.args.host.now).tells ≡ true = told
    in let told1 : (g.H.Host.state c.close_spare.new.host).tells ≡ true = c.in_ok-close_spare.ensures.passes.told ∙ told0
    in let room = c.in_ok-close_spare.ensures.room told0
    in let reached =
    longer_twice (bytes_of Journal (g.H.Host.state c.close_spare.new.host)) c.as_bytes-frames.result.now c.fields.result (bytes_of Journal (g.H.Host.state c.write_both_synced.new.host)) c.from.result (c.place-gate.result + 1)
    (omega (arith, room, c.from.ensures, c.in_ok-start.ensures.room.there))
    (omega (arith, room, low, c.place-gate.ensures.low))
    (c.in_ok-write_both_synced.ensures.bytes told1)
    in let size : length c.as_bytes-frames.result.now ≡ size_of c.args.snapshot.now =
    ap length c.as_bytes-frames.ensures.bytes ∙ length-append (flat_map record_of c.args.snapshot.now) (0 ∷ [])
    in let high : c.from.result + length c.as_bytes-frames.result.now ≤ length (bytes_of Journal (g.H.Host.state c.write_synced.new.host)) =
    longer_thrice (bytes_of Journal (g.H.Host.state c.write_both_synced.new.host)) (bytes_of Journal (g.H.Host.state c.write_synced.new.host)) c.place-gate.result 165 (c.from.result + length c.as_bytes-frames.result.now)
    (omega (arith, reached.0, room, low, c.place-gate.ensures.low))
    (c.in_ok-write_synced.ensures.bytes (c.in_ok-write_both_synced.ensures.passes.told ∙ told1))
    reached.1
    in omega (arith, high, size, c.from.ensures, c.from-2.ensures)
