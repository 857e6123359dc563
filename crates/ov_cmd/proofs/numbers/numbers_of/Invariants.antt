use Rattle.std.proofs.Common.{◌≡◌, ◌++◌, drop}
use Rattle.std.specs.Option.{option_map}
use Rattle.ov_model.specs.Values.{all_some, number_of}
use Rattle.ov_cmd.proofs.numbers.numbers_of.Given as goal

abbrev pub invariant-loop-item : goal.invariant-loop-item
invariant-loop-item l =
    all_some (λ x. number_of x.now) l.items ≡ option_map (λ more. l.numbers.items ++ more) (all_some (λ x. number_of x.now) (drop l.item-index l.items))
