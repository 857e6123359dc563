use Rattle.std.proofs.Common.{arith}
use Rattle.std.proofs.lemmas.Bool.{eqb-true}
use Rattle.ov_value.proofs.Ascii.{low_eight}
use Rattle.ov_value.proofs.utf8.are_low.Goals as goal

pub returns : goal.returns
returns c = λ t.
    low_eight c.args.a c.args.b c.args.c c.args.d c.args.e c.args.f c.args.g c.args.h c.from_le_bytes.result (omega arith) (omega arith) (omega arith) (omega arith) (omega arith) (omega arith) (omega arith) (omega arith)
    c.from_le_bytes.ensures (eqb-true _ _ t)
