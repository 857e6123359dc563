use Rattle.std.proofs.Common.{◌≡◌, ◌≤◌, ◌+◌, ℕ, List, [], length, None, ◌∙◌, ap, subst, arith}
use Rattle.ov_host.specs.Disk.{Stored}
use Rattle.ov_host.specs.declared.area.Extent.{Extent}
use Rattle.ov_event.specs.Spelling.{spelling}
use Rattle.ov_event.proofs.Events.{fits_of}
use Rattle.ov_catalog.specs.Applying.{first_off}
use Rattle.ov_catalog.specs.Events.{applied}
use Rattle.ov_catalog.specs.Extents.{live}
use Rattle.ov_catalog.specs.Numbers.{Numbers}
use Rattle.ov_catalog.specs.Raw.{event_in}
use Rattle.ov_catalog.specs.Sources.{IsApart}
use Rattle.ov_core.specs.Held.{Held}
use Rattle.ov_core.proofs.Bare.{bare_done, bare_kept, bare_stops, bare_there}
use Rattle.ov_core.proofs.Growing.{grown, none_stays}
use Rattle.ov_core.proofs.Replaying.{by_journal_more}
use Rattle.ov_core.proofs.Storing.{still}
use Rattle.ov_core.proofs.parts.Core.add_bare.Goals as goal

pub ready-requires-clause-spelled : goal.ready-requires-clause-spelled
ready-requires-clause-spelled g c = fits_of c.args.event c.requires.event

pub returns-in_err-framed-clause-stops : goal.returns-in_err-framed-clause-stops
returns-in_err-framed-clause-stops g c w m is asks = still w c.args.self.now (g.H.Host.state c.args.host.now) is m

pub returns-in_err-add_bare-clause-stops : goal.returns-in_err-add_bare-clause-stops
returns-in_err-add_bare-clause-stops g c =
    let held : Held = record { journal = c.self.inside.journal; numbers = c.self.inside.catalog.numbers } in
    let s0 = g.H.Host.state c.args.host.now in
    let s1 = g.H.Host.state c.add_bare.new.host in
    let applies : first_off c.self.inside.journal.format c.args.event held.numbers ≡ None = rw (← c.self.view_is) at c.requires.applies in
    rw (← c.self.view_is) (λ w m is asks.
    bare_stops w held s0 is m c.args.event c.requires.event applies c.requires.bare asks c.in_ok-framed.framed c.in_ok-framed.ensures.«record» s1 c.in_err-add_bare.ensures.stops)

pub free_all-requires : goal.free_all-requires
free_all-requires g c =
    let n = c.self.inside.catalog.numbers in
    let applies : first_off c.self.inside.journal.format c.args.event n ≡ None = rw (← c.self.view_is) at c.requires.applies in
    let apart : IsApart c.args.event n = subst (λ (x : Numbers Extent Extent). IsApart c.args.event x) c.in_ok-framed.ensures.numbers c.is_apart.ensures in
    let both = bare_kept c.args.event n c.self.invariant.1 c.self.inside.journal.format applies apart c.requires.bare c.ready.new.catalog.numbers c.apply_reserved.new.self.numbers c.new-freed.result.items c.ready.new.freed.items
    c.apply_reserved.new.freed.items c.deref.result.now c.self.inside.pages
    c.in_ok-framed.ensures.numbers c.apply_reserved.ensures.applied c.new-freed.ensures.items c.in_ok-framed.ensures.freed c.apply_reserved.ensures.freed c.deref.ensures.value
    c.self.invariant.0 in
    (live c.apply_reserved.new.self.numbers, both.0)

pub invariant_of-self-2 : goal.invariant_of-self-2
invariant_of-self-2 g c =
    let n = c.self.inside.catalog.numbers in
    let applies : first_off c.self.inside.journal.format c.args.event n ≡ None = rw (← c.self.view_is) at c.requires.applies in
    let apart : IsApart c.args.event n = subst (λ (x : Numbers Extent Extent). IsApart c.args.event x) c.in_ok-framed.ensures.numbers c.is_apart.ensures in
    let both = bare_kept c.args.event n c.self.invariant.1 c.self.inside.journal.format applies apart c.requires.bare c.ready.new.catalog.numbers c.apply_reserved.new.self.numbers c.new-freed.result.items c.ready.new.freed.items
    c.apply_reserved.new.freed.items c.deref.result.now c.self.inside.pages
    c.in_ok-framed.ensures.numbers c.apply_reserved.ensures.applied c.new-freed.ensures.items c.in_ok-framed.ensures.freed c.apply_reserved.ensures.freed c.deref.ensures.value
    c.self.invariant.0 in
    (c.free_all.ensures (live c.apply_reserved.new.self.numbers) both.0, both.1)

pub returns-clause-made : goal.returns-clause-made
returns-clause-made g c =
    let n = c.self.inside.catalog.numbers in
    let apart : IsApart c.args.event n = subst (λ (x : Numbers Extent Extent). IsApart c.args.event x) c.in_ok-framed.ensures.numbers c.is_apart.ensures in
    rw (← c.self.view_is) (record {
      fits = c.in_ok-framed.ensures.fits;
      apart = apart;
      applied_is = c.apply_reserved.ensures.applied ∙ ap (applied (event_in c.args.event)) c.in_ok-framed.ensures.numbers;
    })

pub returns-clause-grows : goal.returns-clause-grows
returns-clause-grows g c =
    let held : Held = record { journal = c.self.inside.journal; numbers = c.self.inside.catalog.numbers } in
    let s0 = g.H.Host.state c.args.host.now in
    let s1 = g.H.Host.state c.add_bare.new.host in
    let pages : List ℕ = s0.tape.disk.pages.bytes in
    let spelled : c.in_ok-framed.framed ≡ spelling c.args.event = c.in_ok-framed.ensures.«record» in
    rw (← c.self.view_is) (λ payloads is rest.
    let within : c.add_bare.new.journal.end ≤ held.journal.end + 6 + length c.in_ok-framed.framed =
    grown held.journal c.add_bare.new.journal payloads c.in_ok-framed.framed pages s0.tape.disk.printed s1 (c.in_ok-add_bare.ensures.done payloads is rest)
    s0 [] pages s0.tape.disk.printed (c.in_ok-add_bare.ensures.stops payloads [] is (none_stays [] s0 rest)) is.place in
    omega (arith, within, ap length spelled))

pub returns-clause-stops : goal.returns-clause-stops
returns-clause-stops g c =
    let held : Held = record { journal = c.self.inside.journal; numbers = c.self.inside.catalog.numbers } in
    let s0 = g.H.Host.state c.args.host.now in
    let s1 = g.H.Host.state c.add_bare.new.host in
    let applies : first_off c.self.inside.journal.format c.args.event held.numbers ≡ None = rw (← c.self.view_is) at c.requires.applies in
    rw (← c.self.view_is) (λ w m is asks.
    bare_stops w held s0 is m c.args.event c.requires.event applies c.requires.bare asks c.in_ok-framed.framed c.in_ok-framed.ensures.«record» s1 c.in_ok-add_bare.ensures.stops)

pub returns-clause-beside : goal.returns-clause-beside
returns-clause-beside g c =
    let n = c.self.inside.catalog.numbers in
    let s0 = g.H.Host.state c.args.host.now in
    let s1 = g.H.Host.state c.add_bare.new.host in
    let applies : first_off c.self.inside.journal.format c.args.event n ≡ None = rw (← c.self.view_is) at c.requires.applies in
    let apart : IsApart c.args.event n = subst (λ (x : Numbers Extent Extent). IsApart c.args.event x) c.in_ok-framed.ensures.numbers c.is_apart.ensures in
    rw (← c.self.view_is) (λ payloads is rest beside. record {
      journal = c.in_ok-add_bare.ensures.room is.told;
      pages = bare_there c.args.event n c.self.invariant.1 c.self.inside.journal.format applies apart c.requires.bare c.ready.new.catalog.numbers c.apply_reserved.new.self.numbers s0.tape.disk.pages.bytes s1.tape.disk.pages.bytes
          c.in_ok-framed.ensures.numbers c.apply_reserved.ensures.applied
          (ap (λ (a : Stored). a.bytes) (c.in_ok-add_bare.ensures.done payloads is rest).rest)
          beside.pages;
    })

pub returns-clause-done : goal.returns-clause-done
returns-clause-done g c =
    let held : Held = record { journal = c.self.inside.journal; numbers = c.self.inside.catalog.numbers } in
    let s0 = g.H.Host.state c.args.host.now in
    let s1 = g.H.Host.state c.add_bare.new.host in
    let applies : first_off c.self.inside.journal.format c.args.event held.numbers ≡ None = rw (← c.self.view_is) at c.requires.applies in
    let later : Held = record { journal = c.add_bare.new.journal; numbers = c.apply_reserved.new.self.numbers } in
    let numbers : later.numbers ≡ applied (event_in c.args.event) held.numbers = c.apply_reserved.ensures.applied ∙ ap (applied (event_in c.args.event)) c.in_ok-framed.ensures.numbers in
    rw (← c.self.view_is) (λ w m is asks.
    bare_done w held s0 is m c.args.event c.requires.event applies c.requires.bare asks c.in_ok-framed.framed c.in_ok-framed.ensures.«record» s1 c.in_ok-add_bare.ensures.stops
    later (c.in_ok-add_bare.ensures.done is.payloads is.at is.rest) numbers)

pub returns-clause-by_journal : goal.returns-clause-by_journal
returns-clause-by_journal g c =
    let held : Held = record { journal = c.self.inside.journal; numbers = c.self.inside.catalog.numbers } in
    let n = c.self.inside.catalog.numbers in
    let s0 = g.H.Host.state c.args.host.now in
    let s1 = g.H.Host.state c.add_bare.new.host in
    let applies : first_off c.self.inside.journal.format c.args.event n ≡ None = rw (← c.self.view_is) at c.requires.applies in
    let later : Held = record { journal = c.add_bare.new.journal; numbers = c.apply_reserved.new.self.numbers } in
    let numbers : later.numbers ≡ applied (event_in c.args.event) held.numbers = c.apply_reserved.ensures.applied ∙ ap (applied (event_in c.args.event)) c.in_ok-framed.ensures.numbers in
    rw (← c.self.view_is) (by_journal_more held later c.args.event c.in_ok-framed.framed s0 s1 c.requires.event applies c.in_ok-framed.ensures.«record» c.in_ok-add_bare.ensures.format numbers
    c.in_ok-add_bare.ensures.«record»)
