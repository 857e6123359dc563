use Rattle.std.proofs.Common.{arith}
use Rattle.ov_value.proofs.RowLemmas.{length-HasKinds}
use Rattle.ov_value.proofs.schema.have_kinds.Goals as goal

-- a row of another length has not the columns' kinds
pub returns-then-values-columns : goal.returns-then-values-columns
returns-then-values-columns c = (λ f. cc, λ h. absurd (omega (arith, length-HasKinds _ _ h)))
