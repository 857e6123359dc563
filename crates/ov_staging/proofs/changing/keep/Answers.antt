use Rattle.std.proofs.Common.{refl, sym, subst}
use Rattle.law_runs.proofs.Doing.{breaks_looked, does_told}
use Rattle.law_runs.specs.Serving.{Does}
use Rattle.ov_model.specs.Act.{refuses}
use Rattle.ov_model.specs.declared.reply.Reply.TheVariants as says
use Rattle.ov_staging.specs.Changing.{next_deed}
use Rattle.ov_staging.specs.declared.changing.Next.{Next}
use Rattle.ov_staging.proofs.changing.keep.Goals as goal

pub returns-in-Refused-clause-acts : goal.returns-in-Refused-clause-acts
returns-in-Refused-clause-acts g c = λ w s at.
    let held = c.args.store.now.held
    in let old = g.H.Host.state c.args.host.now
    in let said = says.Refused c.in-Refused.refusal
    in subst (λ (n : Next). Does (next_deed w s c.args.which n c.args.said) s s w said held held old old) (sym c.in-Refused.is)
    (does_told (refuses s c.in-Refused.refusal) s s w said held old old refl at refl refl)

pub returns-in-Err-clause-acts : goal.returns-in-Err-clause-acts
returns-in-Err-clause-acts g c = λ w s at.
    let old = g.H.Host.state c.args.host.now
    in breaks_looked (next_deed w s c.args.which c.args.next c.args.said) s w c.args.store.now.held old old at refl
