use Rattle.std.proofs.Common.{rules, ◌≡◌, ◌∙◌, List, ℕ, sym, ap}
use Rattle.std.specs.Ordering.{is_eq}
use Rattle.std.specs.Str.{bytes_eq}
use Rattle.std.proofs.lemmas.Map.Text.{is_eq-slice_cmp}
use Rattle.ov_value.specs.Rows.{value_at, value_cmp}
use Rattle.ov_value.specs.declared.value.Value.{Value}
use Rattle.ov_value.specs.declared.value.Value.TheVariants.{Text}
use Rattle.ov_users.proofs.registry.has_text.Goals as goal

pub returns-in-Some-Text : goal.returns-in-Some-Text
returns-in-Some-Text c =
    let there : value_at c.args.row.now c.args.place ≡ Text c.in-Some-Text.found = search rules
    in c.eq.ensures ∙ ap (λ (text : List ℕ). bytes_eq text c.args.text.now) c.as_str.ensures.text
    ∙ sym (is_eq-slice_cmp c.in-Some-Text.found c.args.text.now)
    ∙ sym (ap (λ (v : Value). is_eq (value_cmp v (Text c.args.text.now))) there)
