use Rattle.std.proofs.Common.{rules, ◌≡◌, ◌∙◌, List, ℕ, sym, ap}
use Rattle.std.specs.Ordering.{is_eq}
use Rattle.std.specs.Str.{bytes_eq}
use Rattle.std.proofs.lemmas.Map.Text.{is_eq-slice_cmp}
use Rattle.ov_value.specs.Rows.{value_at, value_cmp}
use Rattle.ov_value.specs.declared.value.Value.{Value}
use Rattle.ov_value.specs.declared.value.Value.TheVariants.{Text}
use Rattle.ov_users.proofs.registry.is_user_row.Goals as goal

pub returns-in-Some-Text : goal.returns-in-Some-Text
returns-in-Some-Text c =
    let there : value_at c.args.row.now 0 ≡ Text c.in-Some-Text.found = search rules
    in c.eq.ensures ∙ ap (λ (text : List ℕ). bytes_eq c.args.name.now text) c.as_str.ensures.text
    ∙ sym (is_eq-slice_cmp c.args.name.now c.in-Some-Text.found)
    ∙ sym (ap (λ (v : Value). is_eq (value_cmp (Text c.args.name.now) v)) there)
