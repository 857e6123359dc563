use Rattle.std.proofs.Common.{sym, ◌∙◌}
use Rattle.std.proofs.lemmas.Bool.{false≢true}
use Rattle.ov_lex.proofs.FirstBytes.{begins_at, begins_none_at, out_of_range_at}
use Rattle.ov_lex.proofs.spellings.first_of.Goals as goal

pub returns-in_err-len : goal.returns-in_err-len
returns-in_err-len c = rw c.from_residual.ensures (begins_none_at c.args.bytes.now c.kind_by-kind.result c.requires c.kind_by-kind.ensures c.in_err-len.ensures)

pub returns-then-fits : goal.returns-then-fits
returns-then-fits c = begins_at c.args.bytes.now c.kind_by-kind.result c.in_ok-len.len c.requires c.kind_by-kind.ensures c.in_ok-len.ensures (c.fits.ensures.0 c.if-fits.true)

pub returns-else-fits : goal.returns-else-fits
returns-else-fits c = out_of_range_at c.args.bytes.now c.kind_by-kind.result c.in_ok-len.len c.requires c.kind_by-kind.ensures c.in_ok-len.ensures (λ r. false≢true (sym c.if-fits.false ∙ c.fits.ensures.1 r))
