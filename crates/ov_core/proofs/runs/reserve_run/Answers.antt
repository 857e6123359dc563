use Rattle.std.proofs.Common.{◌≡◌, ◌<◌, length, arith}
use Rattle.ov_core.specs.Rooms.{pages_for}
use Rattle.ov_core.proofs.Reserving.{a_run, extent_is, extent_none, no_run, none_is, reserved_empty, run_reserved}
use Rattle.ov_core.proofs.runs.reserve_run.Goals as goal

pub returns-in-Ok-clause-run : goal.returns-in-Ok-clause-run
returns-in-Ok-clause-run c = λ live h.
    let some : 0 < length c.args.bytes.now = omega arith in
    let count : c.div_ceil-count.result ≡ pages_for c.args.bytes.now = omega (arith, c.div_ceil-count.ensures) in
    a_run live c.args.pages.now h c.args.bytes.now c.div_ceil-count.result c.in-Ok.page some count c.in-Ok.ensures.lowest
    (λ refused. let no = c.in-Ok.ensures.full.1 refused in absurd cc)

pub returns-in-Ok-clause-reserved : goal.returns-in-Ok-clause-reserved
returns-in-Ok-clause-reserved c = λ live h.
    let some : 0 < length c.args.bytes.now = omega arith in
    let count : c.div_ceil-count.result ≡ pages_for c.args.bytes.now = omega (arith, c.div_ceil-count.ensures) in
    run_reserved live c.args.pages.now h c.args.bytes.now c.div_ceil-count.result c.in-Ok.page some count c.reserve.new.self
    c.in-Ok.ensures.lowest c.in-Ok.ensures.grown c.in-Ok.ensures.room

pub returns-in-Ok-clause-extent : goal.returns-in-Ok-clause-extent
returns-in-Ok-clause-extent c = extent_is c.in-Ok.page c.args.bytes.now (omega arith)

pub returns-in-Err-Full-clause-why : goal.returns-in-Err-Full-clause-why
returns-in-Err-Full-clause-why c = λ live h.
    let some : 0 < length c.args.bytes.now = omega arith in
    let count : c.div_ceil-count.result ≡ pages_for c.args.bytes.now = omega (arith, c.div_ceil-count.ensures) in
    none_is live c.args.pages.now h c.args.bytes.now c.div_ceil-count.result 0 some count
    (c.reserve.ensures.full.0 (let is = c.in-Err-Full.is in let full = c.in-Err-Full.field-0-is in cc))

pub returns-then-size-eq0-clause-run : goal.returns-then-size-eq0-clause-run
returns-then-size-eq0-clause-run c = λ live h. no_run live c.args.bytes.now c.if-size-eq0.true

pub returns-then-size-eq0-clause-reserved : goal.returns-then-size-eq0-clause-reserved
returns-then-size-eq0-clause-reserved c = λ live h. reserved_empty live c.args.pages.now h

pub returns-then-size-eq0-clause-extent : goal.returns-then-size-eq0-clause-extent
returns-then-size-eq0-clause-extent c = extent_none 0 c.args.bytes.now c.if-size-eq0.true
