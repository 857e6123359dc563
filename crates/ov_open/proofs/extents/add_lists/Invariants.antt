use Rattle.std.proofs.Common.{◌≡◌, ◌++◌, map, take}
use Rattle.ov_open.proofs.extents.add_lists.Given as goal

abbrev pub invariant-loop-version : goal.invariant-loop-version
invariant-loop-version l = l.extents.items ≡ l.initial.extents.items ++ map (λ v. v.list) (take l.version-index l.versions)
