use Rattle.std.proofs.Common.{◌≡◌, ◌∙◌, sym, None, arith}
use Rattle.ov_event.specs.Events.{all_of}
use Rattle.ov_event.proofs.Events.{is_found, is_read, fits_of}
use Rattle.ov_event.proofs.reading.read_event.Goals as goal

pub returns-in-Ok-clause-found : goal.returns-in-Ok-clause-found
returns-in-Ok-clause-found c = is_found c.args.bytes.now c.in-Ok.event (λ i. omega (arith, c.type_inv.bytes i)) c.in-Ok.ensures

pub returns-in-Ok-clause-only : goal.returns-in-Ok-clause-only
returns-in-Ok-clause-only c e good spelled = sym c.in-Ok.ensures ∙ is_read c.args.bytes.now e good spelled

pub returns-in-Ok-clause-fits : goal.returns-in-Ok-clause-fits
returns-in-Ok-clause-fits c = fits_of c.in-Ok.event (is_found c.args.bytes.now c.in-Ok.event (λ i. omega (arith, c.type_inv.bytes i)) c.in-Ok.ensures).0

pub returns-in-Err-Unspelled-clause-only : goal.returns-in-Err-Unspelled-clause-only
returns-in-Err-Unspelled-clause-only c e good spelled =
    let none : all_of c.args.bytes.now ≡ None = rw c.in-Err-Unspelled.field-0-is at c.in-Err-Unspelled.ensures in
    sym none ∙ is_read c.args.bytes.now e good spelled
