use Rattle.std.proofs.Common.{◌∙◌, not, rules, ap, filter}
use Rattle.std.proofs.lemmas.Fn.{filter_same}
use Rattle.ov_layout.specs.Parts.{has}
use Rattle.ov_layout.proofs.lists.leave.Goals.{then-leaving-le-FEW, else-leaving-le-FEW}
use Rattle.ov_layout.proofs.lists.leave.Goals as goal

pub returns : goal.returns
returns c =
    let taken = ap (filter (λ vid. not (has c.args.leaving.now vid))) c.take-kept.ensures.taken in
    elim c.if-leaving-le-FEW.branch [
      | then-leaving-le-FEW w ↦ c.new.ensures ∙ ap (λ v. v.items) w.kept-is ∙ w.take_each_off.ensures ∙ taken
      | else-leaving-le-FEW w ↦ c.new.ensures ∙ ap (λ v. v.items) w.kept-is ∙ filter_same _ (λ vid. not (has c.args.leaving.now vid)) _ (λ x b f' k. search rules) _ _ w.retain.ensures.filtered ∙ taken
    ]
