use Rattle.std.proofs.Common.{◌≡◌, ℕ, List, [], None, rules, ◌∙◌, ap, refl}
use Rattle.std.specs.Prelude.{IfErr}
use Rattle.ov_host.specs.Disk.{Stored}
use Rattle.ov_event.specs.Spelling.{IsEvent, spelling}
use Rattle.ov_publish.specs.declared.run.Run.{Run}
use Rattle.ov_publish.specs.Steps.{ranges_of, with_runs}
use Rattle.ov_catalog.specs.Applying.{first_off}
use Rattle.ov_catalog.specs.Extents.{live}
use Rattle.ov_core.specs.Brought.{extent_at}
use Rattle.ov_core.specs.Held.{Held}
use Rattle.ov_core.specs.Rooms.{ArePlaced, IsWhyNoRuns}
use Rattle.ov_core.proofs.Changing.{change_stops, change_done, runs_are, Carries}
use Rattle.ov_core.proofs.Growing.{grown, grown_placed, none_stays}
use Rattle.ov_core.proofs.Keeping.{applies_now, event_fits, event_spelled, had_room, kept_add, no_runs_why, not_written_why, pages_there, placed_by}
use Rattle.ov_core.proofs.Replaying.{by_journal_more}
use Rattle.ov_core.proofs.Storing.{still}
use Rattle.ov_core.proofs.parts.Core.add.Goals as goal

pub returns-in_err-at-clause-why : goal.returns-in_err-at-clause-why
returns-in_err-at-clause-why g c =
    let held : Held = record { journal = c.self.inside.journal; numbers = c.self.inside.catalog.numbers } in
    let s0 = g.H.Host.state c.args.host.now in
    let h : IfErr c.from_residual.result (IsWhyNoRuns (live held.numbers) c.deref.result.now c.deref-2.result.now) = search rules in
    rw (← c.self.view_is) (no_runs_why c.from_residual.result held c.args.brought s0 s0 c.deref.result.now c.deref-2.result.now c.deref.ensures.value c.deref-2.ensures.value h)

pub returns-in_err-at-clause-stops : goal.returns-in_err-at-clause-stops
returns-in_err-at-clause-stops g c w m is brings = still w c.args.self.now (g.H.Host.state c.args.host.now) is m

pub write_change-requires-clause-applies : goal.write_change-requires-clause-applies
write_change-requires-clause-applies g c =
    let n = c.self.inside.catalog.numbers in
    let b = c.args.brought in
    let at = c.in_ok-at.at in
    let applies : first_off c.self.inside.journal.format b.event n ≡ None = rw (← c.self.view_is) at c.requires.applies in
    let placed : ArePlaced (live n) b.list.items b.segment.items at.list at.segment =
    placed_by (live n) c.deref.result.now c.deref-2.result.now b at.list at.segment c.deref.ensures.value c.deref-2.ensures.value (c.in_ok-at.ensures.placed (live n) c.self.invariant.0) in
    let segment_is : at.segment ≡ extent_at at.segment.page b.segment.items = c.in_ok-at.ensures.segment_is ∙ ap (extent_at at.segment.page) c.deref-2.ensures.value in
    rw c.placed-event.ensures (applies_now n c.self.invariant.1 b c.requires.unplaced c.self.inside.journal.format applies at.list at.segment placed segment_is)

pub write_change-requires-clause-spelled : goal.write_change-requires-clause-spelled
write_change-requires-clause-spelled g c =
    let n = c.self.inside.catalog.numbers in
    let b = c.args.brought in
    let at = c.in_ok-at.at in
    let placed : ArePlaced (live n) b.list.items b.segment.items at.list at.segment =
    placed_by (live n) c.deref.result.now c.deref-2.result.now b at.list at.segment c.deref.ensures.value c.deref-2.ensures.value (c.in_ok-at.ensures.placed (live n) c.self.invariant.0) in
    event_fits b (live n) at.list at.segment c.requires.unplaced c.requires.event placed c.placed-event.result c.placed-event.ensures

pub invariant_of-self-in-Ok : goal.invariant_of-self-in-Ok
invariant_of-self-in-Ok g c =
    let n = c.self.inside.catalog.numbers in
    let b = c.args.brought in
    let at = c.in_ok-at.at in
    let applies : first_off c.self.inside.journal.format b.event n ≡ None = rw (← c.self.view_is) at c.requires.applies in
    let placed : ArePlaced (live n) b.list.items b.segment.items at.list at.segment =
    placed_by (live n) c.deref.result.now c.deref-2.result.now b at.list at.segment c.deref.ensures.value c.deref-2.ensures.value (c.in_ok-at.ensures.placed (live n) c.self.invariant.0) in
    let segment_is : at.segment ≡ extent_at at.segment.page b.segment.items = c.in_ok-at.ensures.segment_is ∙ ap (extent_at at.segment.page) c.deref-2.ensures.value in
    kept_add n c.self.invariant.1 b c.requires.unplaced c.self.inside.journal.format applies at.list at.segment placed segment_is c.placed-event.result c.write_change.new.catalog.numbers c.reserve_runs.new.pages
    c.placed-event.ensures c.in-Ok.ensures.applied (c.in_ok-at.ensures.reserved (live n) c.self.invariant.0)

pub returns-in-Ok-clause-made : goal.returns-in-Ok-clause-made
returns-in-Ok-clause-made g c =
    let held : Held = record { journal = c.self.inside.journal; numbers = c.self.inside.catalog.numbers } in
    let n = c.self.inside.catalog.numbers in
    let b = c.args.brought in
    let at = c.in_ok-at.at in
    let placed : ArePlaced (live n) b.list.items b.segment.items at.list at.segment =
    placed_by (live n) c.deref.result.now c.deref-2.result.now b at.list at.segment c.deref.ensures.value c.deref-2.ensures.value (c.in_ok-at.ensures.placed (live n) c.self.invariant.0) in
    rw (← c.self.view_is) (record {
      l = at.list;
      s = at.segment;
      placed = placed;
      fits = had_room held b at.list at.segment c.placed-event.result c.placed-event.ensures c.in-Ok.ensures.fits;
      applied_is = rw (← c.placed-event.ensures) c.in-Ok.ensures.applied;
    })

pub returns-in-Ok-clause-beside : goal.returns-in-Ok-clause-beside
returns-in-Ok-clause-beside g c =
    let held : Held = record { journal = c.self.inside.journal; numbers = c.self.inside.catalog.numbers } in
    let n = c.self.inside.catalog.numbers in
    let b = c.args.brought in
    let at = c.in_ok-at.at in
    let s0 = g.H.Host.state c.args.host.now in
    let s1 = g.H.Host.state c.write_change.new.host in
    let applies : first_off c.self.inside.journal.format b.event n ≡ None = rw (← c.self.view_is) at c.requires.applies in
    let placed : ArePlaced (live n) b.list.items b.segment.items at.list at.segment =
    placed_by (live n) c.deref.result.now c.deref-2.result.now b at.list at.segment c.deref.ensures.value c.deref-2.ensures.value (c.in_ok-at.ensures.placed (live n) c.self.invariant.0) in
    let one : Run = record { page = at.list.page; bytes = c.deref-3.result } in
    let two : Run = record { page = at.segment.page; bytes = c.deref-4.result } in
    let carry : Carries b.list.items b.segment.items at.list at.segment one two =
    record { list_page = refl; list_bytes = c.deref-3.ensures.value; segment_page = refl; segment_bytes = c.deref-4.ensures.value } in
    let segment_is : at.segment ≡ extent_at at.segment.page b.segment.items = c.in_ok-at.ensures.segment_is ∙ ap (extent_at at.segment.page) c.deref-2.ensures.value in
    rw (← c.self.view_is) (λ payloads is beside. record {
      journal = c.in-Ok.ensures.room is.told;
      pages = pages_there n c.self.invariant.1 b c.requires.unplaced c.self.inside.journal.format applies at.list at.segment placed segment_is c.placed-event.result c.write_change.new.catalog.numbers
          s0.tape.disk.pages.bytes s1.tape.disk.pages.bytes c.placed-event.ensures c.in-Ok.ensures.applied
          (ap (λ (a : Stored). a.bytes) (c.in-Ok.ensures.done payloads is).rest ∙ runs_are b.list.items b.segment.items at.list at.segment one two carry s0.tape.disk.pages.bytes)
          beside.pages;
    })

pub returns-in-Ok-clause-grows : goal.returns-in-Ok-clause-grows
returns-in-Ok-clause-grows g c =
    let held : Held = record { journal = c.self.inside.journal; numbers = c.self.inside.catalog.numbers } in
    let b = c.args.brought in
    let at = c.in_ok-at.at in
    let s0 = g.H.Host.state c.args.host.now in
    let s1 = g.H.Host.state c.write_change.new.host in
    let one : Run = record { page = at.list.page; bytes = c.deref-3.result } in
    let two : Run = record { page = at.segment.page; bytes = c.deref-4.result } in
    let pages : List ℕ = s0.tape.disk.pages.bytes in
    rw (← c.self.view_is) (λ payloads is rest.
    grown_placed at.list at.segment b.event c.placed-event.result held.journal.end c.write_change.new.journal.end c.placed-event.ensures
    (grown held.journal c.write_change.new.journal payloads (spelling c.placed-event.result) (with_runs one two pages) s0.tape.disk.printed s1 (c.in-Ok.ensures.done payloads is)
    s0 [] pages s0.tape.disk.printed (c.in-Ok.ensures.stops payloads [] is (none_stays (ranges_of one two) s0 rest)) is.place))

pub returns-in-Ok-clause-stops : goal.returns-in-Ok-clause-stops
returns-in-Ok-clause-stops g c =
    let held : Held = record { journal = c.self.inside.journal; numbers = c.self.inside.catalog.numbers } in
    let n = c.self.inside.catalog.numbers in
    let b = c.args.brought in
    let at = c.in_ok-at.at in
    let s0 = g.H.Host.state c.args.host.now in
    let s1 = g.H.Host.state c.write_change.new.host in
    let applies : first_off c.self.inside.journal.format b.event n ≡ None = rw (← c.self.view_is) at c.requires.applies in
    let placed : ArePlaced (live n) b.list.items b.segment.items at.list at.segment =
    placed_by (live n) c.deref.result.now c.deref-2.result.now b at.list at.segment c.deref.ensures.value c.deref-2.ensures.value (c.in_ok-at.ensures.placed (live n) c.self.invariant.0) in
    let one : Run = record { page = at.list.page; bytes = c.deref-3.result } in
    let two : Run = record { page = at.segment.page; bytes = c.deref-4.result } in
    let carry : Carries b.list.items b.segment.items at.list at.segment one two =
    record { list_page = refl; list_bytes = c.deref-3.ensures.value; segment_page = refl; segment_bytes = c.deref-4.ensures.value } in
    rw (← c.self.view_is) (λ w m is brings.
    change_stops w held s0 is m b at.list at.segment c.requires.unplaced c.requires.event applies placed brings one two carry c.placed-event.result c.placed-event.ensures s1 c.in-Ok.ensures.stops)

pub returns-in-Ok-clause-done : goal.returns-in-Ok-clause-done
returns-in-Ok-clause-done g c =
    let held : Held = record { journal = c.self.inside.journal; numbers = c.self.inside.catalog.numbers } in
    let n = c.self.inside.catalog.numbers in
    let b = c.args.brought in
    let at = c.in_ok-at.at in
    let s0 = g.H.Host.state c.args.host.now in
    let s1 = g.H.Host.state c.write_change.new.host in
    let applies : first_off c.self.inside.journal.format b.event n ≡ None = rw (← c.self.view_is) at c.requires.applies in
    let placed : ArePlaced (live n) b.list.items b.segment.items at.list at.segment =
    placed_by (live n) c.deref.result.now c.deref-2.result.now b at.list at.segment c.deref.ensures.value c.deref-2.ensures.value (c.in_ok-at.ensures.placed (live n) c.self.invariant.0) in
    let one : Run = record { page = at.list.page; bytes = c.deref-3.result } in
    let two : Run = record { page = at.segment.page; bytes = c.deref-4.result } in
    let carry : Carries b.list.items b.segment.items at.list at.segment one two =
    record { list_page = refl; list_bytes = c.deref-3.ensures.value; segment_page = refl; segment_bytes = c.deref-4.ensures.value } in
    let later : Held = record { journal = c.write_change.new.journal; numbers = c.write_change.new.catalog.numbers } in
    rw (← c.self.view_is) (λ w m is brings.
    change_done w held s0 is m b at.list at.segment c.requires.unplaced c.requires.event applies placed brings one two carry c.placed-event.result c.placed-event.ensures s1 c.in-Ok.ensures.stops
    later (c.in-Ok.ensures.done is.payloads is.at) c.in-Ok.ensures.applied)

pub returns-in-Ok-clause-by_journal : goal.returns-in-Ok-clause-by_journal
returns-in-Ok-clause-by_journal g c =
    let held : Held = record { journal = c.self.inside.journal; numbers = c.self.inside.catalog.numbers } in
    let n = c.self.inside.catalog.numbers in
    let b = c.args.brought in
    let at = c.in_ok-at.at in
    let s0 = g.H.Host.state c.args.host.now in
    let s1 = g.H.Host.state c.write_change.new.host in
    let applies : first_off c.self.inside.journal.format b.event n ≡ None = rw (← c.self.view_is) at c.requires.applies in
    let placed : ArePlaced (live n) b.list.items b.segment.items at.list at.segment =
    placed_by (live n) c.deref.result.now c.deref-2.result.now b at.list at.segment c.deref.ensures.value c.deref-2.ensures.value (c.in_ok-at.ensures.placed (live n) c.self.invariant.0) in
    let segment_is : at.segment ≡ extent_at at.segment.page b.segment.items = c.in_ok-at.ensures.segment_is ∙ ap (extent_at at.segment.page) c.deref-2.ensures.value in
    let spelled : IsEvent c.placed-event.result = event_spelled b (live n) at.list at.segment c.requires.unplaced c.requires.event placed c.placed-event.result c.placed-event.ensures in
    let follows : first_off c.self.inside.journal.format c.placed-event.result n ≡ None = rw c.placed-event.ensures (applies_now n c.self.invariant.1 b c.requires.unplaced c.self.inside.journal.format applies at.list at.segment placed segment_is) in
    let later : Held = record { journal = c.write_change.new.journal; numbers = c.write_change.new.catalog.numbers } in
    rw (← c.self.view_is) (by_journal_more held later c.placed-event.result (spelling c.placed-event.result) s0 s1 spelled follows refl c.in-Ok.ensures.format c.in-Ok.ensures.applied
    (λ payloads is. (c.in-Ok.ensures.done payloads is).at))

pub returns-clause-why : goal.returns-clause-why
returns-clause-why g c =
    let held : Held = record { journal = c.self.inside.journal; numbers = c.self.inside.catalog.numbers } in
    let n = c.self.inside.catalog.numbers in
    let b = c.args.brought in
    let at = c.in_ok-at.at in
    let placed : ArePlaced (live n) b.list.items b.segment.items at.list at.segment =
    placed_by (live n) c.deref.result.now c.deref-2.result.now b at.list at.segment c.deref.ensures.value c.deref-2.ensures.value (c.in_ok-at.ensures.placed (live n) c.self.invariant.0) in
    rw (← c.self.view_is) (not_written_why held b at.list at.segment placed c.placed-event.result (g.H.Host.state c.args.host.now) (g.H.Host.state c.write_change.new.host) c.in-Err.why c.placed-event.ensures c.in-Err.ensures.why)

pub returns-clause-stops : goal.returns-clause-stops
returns-clause-stops g c =
    let held : Held = record { journal = c.self.inside.journal; numbers = c.self.inside.catalog.numbers } in
    let n = c.self.inside.catalog.numbers in
    let b = c.args.brought in
    let at = c.in_ok-at.at in
    let s0 = g.H.Host.state c.args.host.now in
    let s1 = g.H.Host.state c.write_change.new.host in
    let applies : first_off c.self.inside.journal.format b.event n ≡ None = rw (← c.self.view_is) at c.requires.applies in
    let placed : ArePlaced (live n) b.list.items b.segment.items at.list at.segment =
    placed_by (live n) c.deref.result.now c.deref-2.result.now b at.list at.segment c.deref.ensures.value c.deref-2.ensures.value (c.in_ok-at.ensures.placed (live n) c.self.invariant.0) in
    let one : Run = record { page = at.list.page; bytes = c.deref-3.result } in
    let two : Run = record { page = at.segment.page; bytes = c.deref-4.result } in
    let carry : Carries b.list.items b.segment.items at.list at.segment one two =
    record { list_page = refl; list_bytes = c.deref-3.ensures.value; segment_page = refl; segment_bytes = c.deref-4.ensures.value } in
    rw (← c.self.view_is) (λ w m is brings.
    change_stops w held s0 is m b at.list at.segment c.requires.unplaced c.requires.event applies placed brings one two carry c.placed-event.result c.placed-event.ensures s1 c.in-Err.ensures.stops)
