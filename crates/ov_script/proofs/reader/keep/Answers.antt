use Rattle.std.proofs.Common.{◌≡◌, ◌∙◌, ap, ◌++◌, ◌-◌, min, length, take, arith}
use Rattle.std.proofs.lemmas.Grind.{common_steps}
use Rattle.ov_script.proofs.Readers.{kept_is}
use Rattle.ov_script.proofs.reader.keep.Goals as goal

pub returns-clause-kept : goal.returns-clause-kept
returns-clause-kept c =
    let room : c.min.result ≡ min (65537 - length c.args.line.now.items) (length c.args.bytes.now) = grind (arith, common_steps)
    in c.in_ok-extend_from_slice.ensures.items
    ∙ ap (λ k. c.args.line.now.items ++ take k c.args.bytes.now) room
    ∙ kept_is 65537 c.args.line.now.items c.args.bytes.now c.requires
