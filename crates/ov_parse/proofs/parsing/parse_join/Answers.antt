use Rattle.std.proofs.Common.{◌≡◌, Some, None}
use Rattle.ov_model.specs.JoinReading.{join_of}
use Rattle.ov_parse.proofs.Said.{all-stand}
use Rattle.ov_model.proofs.Deciding.{is_join, is_no_join}
use Rattle.ov_parse.proofs.parsing.parse_join.Goals as goal

pub symbols-requires : goal.symbols-requires
symbols-requires c = all-stand c.args.text.now c.args.tokens.now c.requires

pub returns-in-Ok : goal.returns-in-Ok
returns-in-Ok c =
    let read : join_of c.in_ok-said.said.items ≡ Some c.in-Ok.join = rw c.as_slice.ensures.value at c.in-Ok.ensures in
    is_join c.args.text.now c.args.tokens.now c.in_ok-said.said.items c.in-Ok.join c.in_ok-said.ensures read

pub returns-in-Err-Unspelled : goal.returns-in-Err-Unspelled
returns-in-Err-Unspelled c =
    let failed = rw c.in-Err-Unspelled.field-0-is at c.in-Err-Unspelled.ensures in
    let none : join_of c.in_ok-said.said.items ≡ None = rw c.as_slice.ensures.value at failed in
    is_no_join c.args.text.now c.args.tokens.now c.in_ok-said.said.items c.in_ok-said.ensures none
