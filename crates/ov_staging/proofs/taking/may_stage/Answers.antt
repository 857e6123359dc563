use Rattle.std.proofs.Common.{◌≡◌, ◌∙◌, None, sym, subst}
use Rattle.std.specs.Prelude.{MatchResult}
use Rattle.ov_model.specs.Book.{Row}
use Rattle.ov_model.specs.Registry.{stage_name, stage_schema}
use Rattle.ov_model.specs.World.{set_named}
use Rattle.ov_staging.specs.Changing.{IsNextIn}
use Rattle.ov_staging.specs.Errors.{IsNoDamage}
use Rattle.ov_staging.specs.Taking.{stage_change, stage_off}
use Rattle.ov_staging.proofs.Taken.{refused_in, taken_in}
use Rattle.ov_staging.proofs.taking.may_stage.Goals as goal

pub returns-in-Ok-clause-world : goal.returns-in-Ok-clause-world
returns-in-Ok-clause-world g c = λ w at.
    let held = c.args.store.now.held
    in let old = g.H.Host.state c.args.host.now
    in let none : stage_off held.numbers c.args.cvd.now c.args.vids.now c.args.table.now ≡ None = sym (c.in-Ok-None.ensures.off old) ∙ c.in-Ok-None.field-0-is
    in taken_in w held old at c.args.owner.now c.args.cvd.now c.args.vids.now c.args.table.now none c.next_of.result
    (subst (λ (row : Row). MatchResult c.next_of.result (IsNextIn stage_schema (stage_change c.args.owner.now c.args.table.now row) (set_named w stage_name)) IsNoDamage) c.in-Ok.ensures
    (c.next_of.ensures.world w at))

pub returns-in-Ok-Some-clause-world : goal.returns-in-Ok-Some-clause-world
returns-in-Ok-Some-clause-world g c = λ w at.
    let old = g.H.Host.state c.args.host.now
    in refused_in w c.args.store.now.held old at c.args.owner.now c.args.cvd.now c.args.vids.now c.args.table.now c.in-Ok-Some.refusal
    (sym (c.in-Ok-Some.ensures.off old) ∙ c.in-Ok-Some.field-0-is)
