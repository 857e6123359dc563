use Rattle.std.proofs.Common.{◌∙◌, sym}
use Rattle.ov_model.specs.Registry.{users_name}
use Rattle.ov_model.specs.World.{set_named}
use Rattle.ov_staging.proofs.Told.{foreign_told, unnamed_told}
use Rattle.ov_staging.proofs.users.unnamed.Goals as goal

pub returns-in-Ok-true-clause-world : goal.returns-in-Ok-true-clause-world
returns-in-Ok-true-clause-world c = λ w t at.
    foreign_told c.args.name (set_named w users_name) (sym (c.in-Ok-true.ensures.world w t at) ∙ c.in-Ok-true.field-0-test)

pub returns-in-Ok-false-clause-world : goal.returns-in-Ok-false-clause-world
returns-in-Ok-false-clause-world c = λ w t at.
    unnamed_told c.args.name (set_named w users_name) (sym (c.in-Ok-false.ensures.world w t at) ∙ c.in-Ok-false.field-0-test) c.requires.bad
