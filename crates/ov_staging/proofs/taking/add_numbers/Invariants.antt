use Rattle.std.proofs.Common.{◌≡◌, ◌++◌, take}
use Rattle.std.specs.Prelude.{codes, decimal, string_bytes}
use Rattle.std.specs.List.{flat_map}
use Rattle.ov_staging.proofs.taking.add_numbers.Given as goal

abbrev pub invariant-loop-vid : goal.invariant-loop-vid
invariant-loop-vid l = string_bytes l.text ≡ string_bytes l.initial.text ++ flat_map (λ n. codes "," ++ decimal n) (take l.vid-index l.vids)
