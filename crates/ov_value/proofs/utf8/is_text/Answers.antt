use Rattle.std.proofs.Common.{refl}
use Rattle.std.proofs.lemmas.Str.{IsUtf8-from_ascii}
use Rattle.ov_value.proofs.Ascii.{ascii_of}
use Rattle.ov_value.proofs.utf8.is_text.Goals as goal

pub returns-then-are_ascii : goal.returns-then-are_ascii
returns-then-are_ascii c = (λ _. IsUtf8-from_ascii c.args.bytes.now (ascii_of c.args.bytes.now (c.are_ascii.ensures c.if-are_ascii.true)), λ _. refl)
