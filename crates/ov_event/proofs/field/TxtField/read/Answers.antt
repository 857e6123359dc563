use Rattle.ov_event.proofs.Texts.{text_read, no_text}
use Rattle.ov_event.proofs.field.TxtField.read.Goals as goal

pub returns-in-Err : goal.returns-in-Err
returns-in-Err c = no_text c.args.bytes.now c.in_ok-len.len c.in_ok-len.rest.now c.in_ok-text.text.now c.in_ok-text.rest.now c.in_ok-len.ensures c.in_ok-text.ensures c.in-Err.ensures.cases.0

pub returns-in_ok-new-in-Ok : goal.returns-in_ok-new-in-Ok
returns-in_ok-new-in-Ok c =
    rw (c.in_ok-new-in-Ok.ensures.ok, c.in-Ok.ensures.cases.0)
    (text_read c.args.bytes.now c.in_ok-len.len c.in_ok-len.rest.now c.in_ok-text.text.now c.in_ok-text.rest.now c.in_ok-len.ensures c.in_ok-text.ensures c.in-Ok.ensures.cases.1)
