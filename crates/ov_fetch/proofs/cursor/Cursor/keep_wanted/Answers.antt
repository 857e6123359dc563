use Rattle.std.proofs.Common.{◌<◌, refl, subst, sym, ◌∙◌, ap, arith, length, rules}
use Rattle.std.proofs.lemmas.List.{nil_from_length}
use Rattle.ov_host.specs.declared.area.Extent.{Extent}
use Rattle.ov_segment.specs.Keeping.{Walk, Stops, is_bad}
use Rattle.ov_fetch.specs.declared.cursor.Cursor.{Cursor}
use Rattle.ov_fetch.specs.declared.errors.FetchErr.{FetchErr}
use Rattle.ov_fetch.specs.Extents.{page_bytes, RefusesSegment}
use Rattle.ov_fetch.proofs.Running.{keeping_begins, takes_more, keeps_passed, keeps_filled, keeping_ends, cut_off, stops}
use Rattle.ov_fetch.proofs.cursor.Cursor.keep_wanted.Goals as goal

pub loop-rids-init : goal.loop-rids-init
loop-rids-init g c = record {
  keeps = keeping_begins c.args.schema.now (g.H.Host.state c.args.host.now) c.args.self.now c.args.wanted.now _ c.args.kept.now _ c.requires.front c.ahead-ahead.ensures (search rules);
  room = c.requires.room;
}

pub pass_held-requires-clause-rids : goal.pass_held-requires-clause-rids
pass_held-requires-clause-rids g c =
    let h = c.loop-rids.invariant.keeps in
    takes_more c.args.schema.now h.read c.loop-rids.self.reader.last c.loop-rids.rids h.gone.are h.gone.last_is h.rids_are

pub loop-rids-preserved : goal.loop-rids-preserved
loop-rids-preserved g c =
    let d : Cursor = record { extent = c.loop-rids.self.extent; at = c.loop-rids.self.at; reader = c.pass_held.new.self } in
    let ahead : Walk = record { inside = c.pass_held.new.ahead.inside; edges = c.pass_held.new.ahead.edges } in
    let h = keeps_passed c.args.schema.now (g.H.Host.state c.args.host.now) (g.H.Host.state c.loop-rids.host) c.args.self.now.extent c.loop-rids.self d c.args.wanted.now
    _ c.args.kept.now _ _ ahead c.pass_held.new.table c.pass_held.new.rids c.loop-rids.invariant.keeps refl refl (c.in_ok-pass_held.ensures.over ∙ ap is_bad c.in-More.is) c.in_ok-pass_held.ensures.passes in
    record {
      keeps = keeps_filled c.args.schema.now (g.H.Host.state c.args.host.now) (g.H.Host.state c.loop-rids.host) (g.H.Host.state c.fill.new.host) c.args.self.now.extent
          d c.fill.new.self c.args.wanted.now ahead c.args.kept.now c.pass_held.new.table c.pass_held.new.rids
          h c.in_ok-fill-in-More.ensures.looked c.in_ok-fill-in-More.ensures.fetched c.in_ok-fill-in-More.ensures.same c.in_ok-fill-in-More.ensures.answer;
      room = c.in_ok-fill-in-More.ensures.piece;
    }

pub returns-then-held-eq0-clause-kept : goal.returns-then-held-eq0-clause-kept
returns-then-held-eq0-clause-kept g c =
    let d : Cursor = record { extent = c.loop-rids.self.extent; at = c.loop-rids.self.at; reader = c.pass_held.new.self } in
    let ahead : Walk = record { inside = c.pass_held.new.ahead.inside; edges = c.pass_held.new.ahead.edges } in
    let h = keeps_passed c.args.schema.now (g.H.Host.state c.args.host.now) (g.H.Host.state c.loop-rids.host) c.args.self.now.extent c.loop-rids.self d c.args.wanted.now
    _ c.args.kept.now _ _ ahead c.pass_held.new.table c.pass_held.new.rids c.loop-rids.invariant.keeps refl refl (c.in_ok-pass_held.ensures.over ∙ ap is_bad c.in-More.is) c.in_ok-pass_held.ensures.passes in
    keeping_ends c.args.schema.now (g.H.Host.state c.args.host.now) (g.H.Host.state c.loop-rids.host) c.args.self.now.extent d c.args.wanted.now ahead c.args.kept.now c.pass_held.new.table c.pass_held.new.rids c.done.result
    h (omega (arith, c.if-self.false, h.gone.still.within)) (nil_from_length _ (sym c.held.ensures.count ∙ c.if-held-eq0.true)) c.done.ensures.same

pub returns-else-held-eq0-clause-err : goal.returns-else-held-eq0-clause-err
returns-else-held-eq0-clause-err g c told =
    let d : Cursor = record { extent = c.loop-rids.self.extent; at = c.loop-rids.self.at; reader = c.pass_held.new.self } in
    let ahead : Walk = record { inside = c.pass_held.new.ahead.inside; edges = c.pass_held.new.ahead.edges } in
    let h = keeps_passed c.args.schema.now (g.H.Host.state c.args.host.now) (g.H.Host.state c.loop-rids.host) c.args.self.now.extent c.loop-rids.self d c.args.wanted.now
    _ c.args.kept.now _ _ ahead c.pass_held.new.table c.pass_held.new.rids c.loop-rids.invariant.keeps refl refl (c.in_ok-pass_held.ensures.over ∙ ap is_bad c.in-More.is) c.in_ok-pass_held.ensures.passes in
    let more = subst (Stops c.args.schema.now c.pass_held.new.self.last c.pass_held.new.self.held) c.in-More.is c.in_ok-pass_held.ensures.stops in
    let some : 0 < length c.pass_held.new.self.held = omega (arith, c.held.ensures.count, c.if-held-eq0.false) in
    subst (λ (e : FetchErr). RefusesSegment e c.args.schema.now (page_bytes (g.H.Host.state c.args.host.now)) c.args.self.now.extent) (sym c.damaged-else-held-eq0.ensures) (
      ap (λ (e : Extent). e.page) h.gone.place,
      cut_off c.args.schema.now (g.H.Host.state c.args.host.now) (g.H.Host.state c.loop-rids.host) c.args.self.now.extent d h.read h.gone (omega (arith, c.if-self.false, h.gone.still.within)) more some told,
    )

pub returns-in-Bad-clause-err : goal.returns-in-Bad-clause-err
returns-in-Bad-clause-err g c told =
    let h = c.loop-rids.invariant.keeps in
    let p = c.in_ok-pass_held.ensures.passes in
    let off = subst (Stops c.args.schema.now c.pass_held.new.self.last c.pass_held.new.self.held) c.in-Bad.is c.in_ok-pass_held.ensures.stops in
    subst (λ (e : FetchErr). RefusesSegment e c.args.schema.now (page_bytes (g.H.Host.state c.args.host.now)) c.args.self.now.extent) (sym c.damaged.ensures) (
      ap (λ (e : Extent). e.page) h.gone.place,
      stops c.args.schema.now (g.H.Host.state c.args.host.now) (g.H.Host.state c.loop-rids.host) c.args.self.now.extent c.loop-rids.self h.read p.passed c.pass_held.new.self.last c.pass_held.new.self.held h.gone p.are p.bytes_are p.last_is off told,
    )
