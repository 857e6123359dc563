use Rattle.std.proofs.Common.{◌∙◌, sym, ap}
use Rattle.ov_model.specs.Values.{all_some, number_of}
use Rattle.ov_cmd.proofs.Lists.{all_some_map}
use Rattle.ov_cmd.proofs.numbers.numbers_between.Goals as goal

pub returns : goal.returns
returns c =
    c.in_ok-numbers.ensures
    ∙ ap (all_some (λ x. number_of x.now)) c.as_slice.ensures.value
    ∙ sym (all_some_map number_of (λ x. x.now) c.in_ok-items.items.items)
    ∙ ap (all_some number_of) c.in_ok-items.ensures
