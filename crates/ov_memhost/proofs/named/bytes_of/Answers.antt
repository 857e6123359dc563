use Rattle.std.proofs.Common.{sym, ◌∙◌, arith}
use Rattle.ov_memhost.proofs.Files.{file_at}
use Rattle.ov_memhost.proofs.named.bytes_of.Goals as goal

pub returns-then-place-files : goal.returns-then-place-files
returns-then-place-files c =
    c.as_slice.ensures.value
    ∙ sym (file_at c.args.files.now c.args.place c.index-files-place.result (omega arith))
