use Rattle.std.proofs.Common.{◌≡◌, ◌∙◌, List, [], None, sym, subst, rules}
use Rattle.ov_model.specs.Act.{repeated_key}
use Rattle.ov_model.specs.Book.{Row}
use Rattle.ov_model.specs.Registry.{user_row, users_schema, with_row}
use Rattle.ov_staging.proofs.Keys.{once_with}
use Rattle.ov_staging.proofs.deciding.with_user.Goals as goal

pub returns-clause-once : goal.returns-clause-once
returns-clause-once c =
    let made : c.in_ok-with_row.field-0.items ≡ with_row c.args.rows.now (user_row c.args.name.now) = search rules
    in subst (λ (l : List Row). repeated_key users_schema [] 1 l ≡ None) (sym made)
    (once_with c.args.rows.now c.args.name.now c.requires.rise (sym c.is_user.ensures ∙ c.if-is_user.false))
