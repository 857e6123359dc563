use Rattle.std.proofs.Common.{◌≡◌, ◌<◌, ◌≤◌, ◌+◌, true, ap, ℕ, List, length, get_or, subst, ◌∙◌, rules, arith}
use Rattle.std.proofs.lemmas.List.Sums.{sum_by_more_le, sum_by-take-le}
use Rattle.ov_host.specs.declared.area.Extent.{Extent}
use Rattle.ov_fetch.specs.Extents.{page_bytes, RefusesSegment}
use Rattle.ov_fetch.specs.Gathering.{HasKept}
use Rattle.ov_fetch.specs.Firsts.{AreFirstWanted, RefusesFirstWanted}
use Rattle.ov_fetch.proofs.Gathered.{passed_on}
use Rattle.ov_fetch.proofs.Needed.{begins, ends_off, ends_with_all, fetched_next, fetched_no_more, one_more}
use Rattle.ov_fetch.proofs.firsts.gather_firsts.Goals as goal

abbrev nowhere : Extent
nowhere = record { page = 0; bytes = 0 }

pub loop-segment-init : goal.loop-segment-init
loop-segment-init g c = record {
  first = begins c.args.schema.now (g.H.Host.state c.args.host.now) c.args.segments.now c.args.wanted.now c.in_ok-kept.kept.records c.in_ok-left.left c.in_ok-kept.ensures.records c.in_ok-left.ensures.same;
  room = search rules;
  columns = c.in_ok-kept.ensures.columns;
}

pub loop-segment-preserved : goal.loop-segment-preserved
loop-segment-preserved g c =
    let s0 = g.H.Host.state c.args.host.now in
    let s1 = g.H.Host.state c.loop-segment.host in
    let s2 = g.H.Host.state c.keep_wanted.new.host in
    let all : List Extent = c.args.segments.now in
    let k : ℕ = c.loop-segment.segment-index in
    let place : c.begin.new.self.extent ≡ get_or all k nowhere = c.begin.ensures.place in
    let some : 0 < length c.loop-segment.left = omega (arith, c.len.ensures.count, c.if-len-eq0.false) in
    record {
      first = one_more c.args.schema.now s0 s1 s2 all k nowhere c.args.wanted.now c.loop-segment.kept.records c.keep_wanted.new.kept.records c.loop-segment.left c.in_ok-left-2.left c.in_ok-rids.rids
          c.loop-segment.invariant.first c.loop-segment-test.true some c.in_ok-rids.ensures.looked (subst (λ (e : Extent). s2.fetched ≤ s1.fetched + e.bytes) place c.in_ok-rids.ensures.fetched)
          (subst (λ (e : Extent). HasKept c.args.schema.now s1 e c.args.wanted.now c.loop-segment.kept.records c.keep_wanted.new.kept.records c.in_ok-rids.rids) place c.in_ok-rids.ensures.kept)
          c.in_ok-left-2.ensures.members;
      room = c.loop-segment.invariant.room;
      columns = c.in_ok-rids.ensures.columns ∙ c.loop-segment.invariant.columns;
    }

-- ---- nothing is left

pub returns-then-len-eq0-clause-fetched : goal.returns-then-len-eq0-clause-fetched
returns-then-len-eq0-clause-fetched g c =
    omega (arith, c.loop-segment.invariant.first.gathered.fetched, sum_by-take-le (λ (e : Extent). e.bytes) c.args.segments.now c.loop-segment.segment-index)

pub returns-then-len-eq0-clause-no_more : goal.returns-then-len-eq0-clause-no_more
returns-then-len-eq0-clause-no_more g c =
    fetched_no_more c.args.schema.now (g.H.Host.state c.args.host.now) (g.H.Host.state c.loop-segment.host) c.args.segments.now c.loop-segment.segment-index c.args.wanted.now c.loop-segment.kept.records c.loop-segment.left
    c.loop-segment.invariant.first

pub returns-then-len-eq0-clause-answer : goal.returns-then-len-eq0-clause-answer
returns-then-len-eq0-clause-answer g c told =
    let low : c.loop-segment.segment-index < length c.args.segments.now = c.loop-segment-test.true in
    let none : length c.loop-segment.left ≡ 0 = omega (arith, c.len.ensures.count, c.if-len-eq0.true) in
    ends_with_all c.args.schema.now (g.H.Host.state c.args.host.now) (g.H.Host.state c.loop-segment.host) c.args.segments.now c.loop-segment.segment-index c.args.wanted.now c.loop-segment.kept.records c.loop-segment.left
    c.loop-segment.invariant.first (omega (arith, low)) (λ some. absurd (omega (arith, some, none))) told

-- ---- the end

pub returns-clause-fetched : goal.returns-clause-fetched
returns-clause-fetched g c =
    omega (arith, c.loop-segment.invariant.first.gathered.fetched, sum_by-take-le (λ (e : Extent). e.bytes) c.args.segments.now c.loop-segment.segment-index)

pub returns-clause-no_more : goal.returns-clause-no_more
returns-clause-no_more g c =
    fetched_no_more c.args.schema.now (g.H.Host.state c.args.host.now) (g.H.Host.state c.loop-segment.host) c.args.segments.now c.loop-segment.segment-index c.args.wanted.now c.loop-segment.kept.records c.loop-segment.left
    c.loop-segment.invariant.first

pub returns-clause-answer : goal.returns-clause-answer
returns-clause-answer g c told =
    let last : c.loop-segment.segment-index ≡ length c.args.segments.now = omega arith in
    ends_with_all c.args.schema.now (g.H.Host.state c.args.host.now) (g.H.Host.state c.loop-segment.host) c.args.segments.now c.loop-segment.segment-index c.args.wanted.now c.loop-segment.kept.records c.loop-segment.left
    c.loop-segment.invariant.first (omega (arith, last)) (λ some. last) told

-- ---- errors

pub returns-in_err-rids-clause-fetched : goal.returns-in_err-rids-clause-fetched
returns-in_err-rids-clause-fetched g c =
    let place : c.begin.new.self.extent ≡ get_or c.args.segments.now c.loop-segment.segment-index nowhere = c.begin.ensures.place in
    omega (
      arith,
      c.loop-segment.invariant.first.gathered.fetched,
      c.in_err-rids.ensures.fetched,
      ap (λ (e : Extent). e.bytes) place,
      sum_by_more_le (λ (e : Extent). e.bytes) c.args.segments.now c.loop-segment.segment-index nowhere c.loop-segment-test.true,
    )

pub returns-in_err-rids-clause-no_more : goal.returns-in_err-rids-clause-no_more
returns-in_err-rids-clause-no_more g c =
    let s1 = g.H.Host.state c.loop-segment.host in
    let s2 = g.H.Host.state c.keep_wanted.new.host in
    let place : c.begin.new.self.extent ≡ get_or c.args.segments.now c.loop-segment.segment-index nowhere = c.begin.ensures.place in
    let some : 0 < length c.loop-segment.left = omega (arith, c.len.ensures.count, c.if-len-eq0.false) in
    fetched_next c.args.schema.now (g.H.Host.state c.args.host.now) s1 s2 c.args.segments.now c.loop-segment.segment-index nowhere c.args.wanted.now c.loop-segment.kept.records c.loop-segment.left
    c.loop-segment.invariant.first c.loop-segment-test.true some (subst (λ (e : Extent). s2.fetched ≤ s1.fetched + e.bytes) place c.in_err-rids.ensures.fetched)

pub returns-in_err-rids-clause-answer : goal.returns-in_err-rids-clause-answer
returns-in_err-rids-clause-answer g c told =
    let s0 = g.H.Host.state c.args.host.now in
    let s1 = g.H.Host.state c.loop-segment.host in
    let all : List Extent = c.args.segments.now in
    let place : c.begin.new.self.extent ≡ get_or all c.loop-segment.segment-index nowhere = c.begin.ensures.place in
    let some : 0 < length c.loop-segment.left = omega (arith, c.len.ensures.count, c.if-len-eq0.false) in
    passed_on (λ found. AreFirstWanted c.args.schema.now (page_bytes s0) all c.args.wanted.now found.kept.records found.left)
    (λ e. RefusesFirstWanted e c.args.schema.now (page_bytes s0) all c.args.wanted.now) c.from_residual-in_err-rids.result c.in_err-rids.field-0.0 c.from_residual-in_err-rids.ensures
    (ends_off c.args.schema.now s0 s1 all c.loop-segment.segment-index nowhere c.args.wanted.now c.loop-segment.kept.records c.loop-segment.left c.in_err-rids.field-0.0
    c.loop-segment.invariant.first c.loop-segment-test.true some
    (subst (λ (e : Extent). s1.tells ≡ true → RefusesSegment c.in_err-rids.field-0.0 c.args.schema.now (page_bytes s1) e) place c.in_err-rids.ensures.err) told)

pub returns-in_err-left-2-clause-fetched : goal.returns-in_err-left-2-clause-fetched
returns-in_err-left-2-clause-fetched g c =
    let place : c.begin.new.self.extent ≡ get_or c.args.segments.now c.loop-segment.segment-index nowhere = c.begin.ensures.place in
    omega (
      arith,
      c.loop-segment.invariant.first.gathered.fetched,
      c.in_ok-rids.ensures.fetched,
      ap (λ (e : Extent). e.bytes) place,
      sum_by_more_le (λ (e : Extent). e.bytes) c.args.segments.now c.loop-segment.segment-index nowhere c.loop-segment-test.true,
    )

pub returns-in_err-left-2-clause-no_more : goal.returns-in_err-left-2-clause-no_more
returns-in_err-left-2-clause-no_more g c =
    let s1 = g.H.Host.state c.loop-segment.host in
    let s2 = g.H.Host.state c.keep_wanted.new.host in
    let place : c.begin.new.self.extent ≡ get_or c.args.segments.now c.loop-segment.segment-index nowhere = c.begin.ensures.place in
    let some : 0 < length c.loop-segment.left = omega (arith, c.len.ensures.count, c.if-len-eq0.false) in
    fetched_next c.args.schema.now (g.H.Host.state c.args.host.now) s1 s2 c.args.segments.now c.loop-segment.segment-index nowhere c.args.wanted.now c.loop-segment.kept.records c.loop-segment.left
    c.loop-segment.invariant.first c.loop-segment-test.true some (subst (λ (e : Extent). s2.fetched ≤ s1.fetched + e.bytes) place c.in_ok-rids.ensures.fetched)
